use Rattle.std.proofs.Common.{◌≡◌, take}
use Rattle.fr_wording.specs.Lines.{lines_text}
use Rattle.fr_outcome.proofs.answer.copied_lines.Given as goal

-- the lines so far have the text of those that were copied
abbrev pub invariant-loop-line : goal.invariant-loop-line
invariant-loop-line l = lines_text l.copied.items ≡ lines_text (take l.line-index l.lines)

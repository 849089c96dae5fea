use Rattle.std.proofs.Common.{◌≡◌, take, string_bytes}
use Rattle.fr_wording.specs.Lines.{lines_text}
use Rattle.fr_wording.proofs.lines.text_of.Given as goal

-- the text so far is that of the lines so far
abbrev pub invariant-loop-line : goal.invariant-loop-line
invariant-loop-line l = string_bytes l.text ≡ lines_text (take l.line-index l.lines)

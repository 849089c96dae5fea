use Rattle.std.proofs.Common.{◌≡◌, length}
use Rattle.fr_source.specs.Kept.{AreMarks}
use Rattle.fr_source.proofs.visible.marks_of.Given as goal

-- the marks so far are those of the lines
abbrev pub invariant-loop-number : goal.invariant-loop-number
invariant-loop-number l = (length l.marks.items ≡ l.number) × AreMarks l.program.variables.items l.lines l.marks.items

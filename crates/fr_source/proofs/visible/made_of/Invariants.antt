use Rattle.std.proofs.Common.{◌≡◌, length}
use Rattle.fr_source.specs.Kept.{AreMade}
use Rattle.fr_source.proofs.visible.made_of.Given as goal

-- the lines so far are made from those that are kept
abbrev pub invariant-loop-number : goal.invariant-loop-number
invariant-loop-number l = (length l.lines.items ≡ l.number) × AreMade l.plain l.kept l.lines.items

use Rattle.std.proofs.Common.{ℕ, ◌<◌, get_or, map}
use Rattle.std.specs.Prelude.{pos}
use Rattle.fr_notes.proofs.Terms.{IsWithinDeclared, ends_of}
use Rattle.fr_notes.proofs.fits.ranges_fit.Given as goal

-- each range so far is inside the declared one
abbrev pub invariant-loop-variable : goal.invariant-loop-variable
invariant-loop-variable l = (x : ℕ) → x < l.variable → IsWithinDeclared l.app x (get_or (map ends_of l.ranges) x (pos 0, pos 0))

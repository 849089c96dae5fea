-- The states of what shows a part are well formed.
use Rattle.std.proofs.Common.{Some, None, sym, subst}
use Rattle.fr_program.specs.declared.ids.Point.{Point}
use Rattle.fr_program.specs.Program.{Program}
use Rattle.fr_rules.specs.State.{IsWellFormed, start}
use Rattle.fr_ends.specs.Certificate.{Certificate}
use Rattle.fr_judge.specs.declared.part.Part.{Part}
use Rattle.fr_judge.specs.declared.part.Part.TheVariants.{Entry, Rule, Goes, Guard, Near, Spoiled}
use Rattle.fr_witness.specs.declared.evidence.Witness.{Witness}
use Rattle.fr_witness.specs.declared.evidence.Witness.TheVariants.{Start, Breaks, Leaves, Unguarded, Both}
use Rattle.fr_witness.specs.Witness.{Shows}
use Rattle.fr_reasons.specs.Shown.{IsFormed}

module _ (P : Program) (C : Certificate) (p : Point) where
  pub formed_of : (part : Part) (w : Witness) → IsWellFormed P (start P) → Shows P C p part w → IsFormed P w
  formed_of Entry (Start S) first s = subst (IsWellFormed P) (sym s.0) first
  formed_of (Rule rule) (Breaks S) first s = s.0.formed
  formed_of (Goes t) (Leaves steps) first (n, way, has, all, undone) = λ k d b. ((all k d b).2.formed, (all k d b).2.left)
  formed_of (Guard e) (Unguarded None) first s = cc
  formed_of (Guard e) (Unguarded (Some S)) first s = s.0.formed
  formed_of (Near q) (Both S) first s = s.0.formed
  formed_of (Spoiled q) (Leaves steps) first (n, m, way, has, hasm, all, undone) = λ k d b. ((all k d b).3.formed, (all k d b).3.left)
  formed_of (Spoiled q) (Breaks S) first s = s.1.formed
  formed_of part w _ s = elim s [ ]

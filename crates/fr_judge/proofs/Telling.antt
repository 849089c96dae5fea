-- What is told of a point is of the application.
use Rattle.std.proofs.Common.{◌<◌, ◌≤◌, List, length, subst, arith}
use Rattle.fr_judge.proofs.Terms.{Point, instr_of, Program, IsFaultless, Rule, OneWriter, OneReader, number_of, is_own, EndGuard, Guard, Sole}
use Rattle.fr_judge.proofs.Terms.{ByMutex, InCritical, Turn, Certificate, HasDistinctTurns, AllHaveDistinctTurns, GuardFits, EndFits, Part, EntryPart, RulePart, GoesPart, GuardPart}
use Rattle.fr_judge.proofs.Terms.{NearPart, SpoiledPart, IsKept, told_part, IsPartOf}
use Rattle.std.specs.Prelude.{IsTrue, All}
use Rattle.fr_judge.proofs.Failing.{failing-owed}
use Rattle.fr_ends.proofs.GuardLaws.{called-instr}

-- a rule that a point owes by itself is none of 1 and 2
own-number : (i : _) (rule : Rule) → IsTrue (is_own i rule) → 3 ≤ number_of rule
own-number i OneWriter h = cc
own-number i OneReader h = cc
own-number i rule h = omega arith

module _ (P : Program) (faultless : IsFaultless P) (C : Certificate) (p : Point) where
  -- a part that isn't kept names what the application has
  pub failing-is-of : (part : Part) → (IsKept P C p part → ⊥) → IsPartOf P (told_part part)
  failing-is-of EntryPart h = tt
  failing-is-of (RulePart rule) h = let o = failing-owed P C p (RulePart rule) h in own-number o.0 rule o.2
  failing-is-of (GoesPart t) h = (failing-owed P C p (GoesPart t) h).0
  failing-is-of (GuardPart buffer end) h =
      let o = failing-owed P C p (GuardPart buffer end) h in
      subst (λ b. b < length P.objects) o.1.0 (faultless.names.things _ _ _ (called-instr p.side (instr_of P p) o.0 o.1.1)).1
  failing-is-of (NearPart q) h = (failing-owed P C p (NearPart q) h).0
  failing-is-of (SpoiledPart q) h = (failing-owed P C p (SpoiledPart q) h).0

-- guards that fit have distinct turns
guard-distinct : (P : Program) (g : Guard) → GuardFits P g → HasDistinctTurns g
guard-distinct P (Sole actor) h = tt
guard-distinct P (ByMutex mutex) h = tt
guard-distinct P InCritical h = tt
guard-distinct P (Turn x values) h = h.2

pub fitting-distinct : (P : Program) (ends : List EndGuard) → All (λ e. EndFits P e) ends → AllHaveDistinctTurns ends
fitting-distinct P ends h = λ k e lt. guard-distinct P _ (h k e lt).guard

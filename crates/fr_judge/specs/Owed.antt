-- Which parts a point owes. A part that a point doesn't owe is kept whatever the notes say: the entry at a place where
-- no actor begins, a rule that others keep, a way to a place that is no point or another actor's, the guard of an end
-- that the point isn't inside, a delete or a step of the same actor. So the verdict never names such a part.
use Rattle.std.specs.Prelude.{◌≡◌, ◌≢◌, ℕ, Some, IsTrue}
use Rattle.fr_program.specs.declared.instr.Instr.{Instr}
use Rattle.fr_program.specs.declared.instr.ObjectCall.{ObjectCall}
use Rattle.fr_program.specs.declared.ids.Point.{Point}
use Rattle.fr_program.specs.declared.ids.Side.TheVariants.{Before}
use Rattle.fr_program.specs.Program.{Program}
use Rattle.fr_program.specs.Lookup.{IsPoint, instr_of}
use Rattle.fr_rules.specs.Rule.{is_at_end}
use Rattle.fr_edge.specs.Own.{is_own}
use Rattle.fr_ends.specs.Certificate.{Certificate}
use Rattle.fr_ends.specs.Guarded.{IsInsideOn, Deletes}
use Rattle.fr_judge.specs.Part.{Part, EntryPart, RulePart, GoesPart, GuardPart, NearPart, SpoiledPart, IsKept}

-- the point is inside a call on an object that q deletes
abbrev pub IsInsideDeleted : Program → Point → Point → Type 0
IsInsideDeleted P p q = (o : ℕ) × (call : ObjectCall) × IsInsideOn P p o call × Deletes P q o

-- the point owes the part
abbrev pub IsOwed : Program → Point → Part → Type 0
IsOwed P p EntryPart = (p.pc ≡ 0) × (p.side ≡ Before)
IsOwed P p (RulePart rule) = (i : Instr) × (instr_of P p ≡ Some i) × IsTrue (is_own i rule)
IsOwed P p (GoesPart t) = IsPoint P t × (t.actor ≡ p.actor)
IsOwed P p (GuardPart buffer end) = (call : ObjectCall) × IsInsideOn P p buffer call × IsTrue (is_at_end end call.act)
IsOwed P p (NearPart q) = IsPoint P q × (q.actor ≢ p.actor) × IsInsideDeleted P p q
IsOwed P p (SpoiledPart q) = IsPoint P q × (q.actor ≢ p.actor)

-- a part that isn't kept at a point is one that the point owes
abbrev pub OnlyOwedPartsFail : Type 0
OnlyOwedPartsFail = (P : Program) (C : Certificate) (p : Point) (part : Part) → (IsKept P C p part → ⊥) → IsOwed P p part

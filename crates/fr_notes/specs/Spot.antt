-- What a row of the step table leaves, at whatever point its instruction is. `condition_known`, `unchanged`, `claiming`
-- and `resulting` are for the public contracts of `condition_at` and of `Known`; the other words are for private clauses.
--
-- | word                       | meaning                                                                             |
-- |----------------------------|-------------------------------------------------------------------------------------|
-- | IsSpot                     | a point at this side of this instruction, in an application without a fault         |
-- | Leaves                     | a change is what a row leaves, or there is none and no step                         |
-- | LeavesAt, LeavesBefore     | so at each point of the instruction, and before it where no rule stops the mover    |
-- | condition_known            | the condition of the mover                                                          |
-- | IsEnd, EndLeaves           | inside an object call that can end; what its end leaves there                       |
-- | unchanged, claiming        | the change that changes nothing, the one that says this of one object               |
-- | resulting                  | the same, with a range for a call's result, where there is one                      |
use Rattle.std.specs.Prelude.{◌≡◌, Option, None, Some, false}
use Rattle.std.specs.Option.{option_map}
use Rattle.fr_program.specs.declared.ids.ObjId.{ObjId}
use Rattle.fr_program.specs.declared.ids.VarId.{VarId}
use Rattle.fr_program.specs.declared.ids.Point.{Point}
use Rattle.fr_program.specs.declared.ids.Side.{Side}
use Rattle.fr_program.specs.declared.ids.Side.TheVariants.{Before, Inside}
use Rattle.fr_program.specs.declared.instr.Instr.{Instr}
use Rattle.fr_program.specs.declared.instr.Instr.TheVariants.{Call as Calls}
use Rattle.fr_program.specs.declared.instr.Call.TheVariants.{On}
use Rattle.fr_program.specs.declared.instr.ObjectCall.{ObjectCall}
use Rattle.fr_program.specs.declared.parts.Kind.{Kind}
use Rattle.fr_program.specs.declared.range.Range.{Range}
use Rattle.fr_program.specs.Program.{Program}
use Rattle.fr_program.specs.Lookup.{IsPoint, instr_of, actor_at, is_interrupt}
use Rattle.fr_program.specs.Fault.{IsFaultless}
use Rattle.fr_rules.specs.declared.way.Way.{Way}
use Rattle.fr_rules.specs.declared.rules.Condition.{Condition}
use Rattle.fr_rules.specs.State.{kind_of}
use Rattle.fr_rules.specs.Rule.{first_forbidden, is_unsuited}
use Rattle.fr_notes.specs.declared.change.Change.{Change}
use Rattle.fr_notes.specs.Known.{Known, KnownFits, IsLeft, NeverSteps, claims_some}
use Rattle.fr_notes.specs.Note.{Claim}
use Rattle.fr_notes.specs.Holding.{Holding, holding, living, is_given_unheld}

-- a point at this side of this instruction, in an application without a fault that what is known fits
pub record IsSpot (P : Program) (k : Known) (p : Point) (side : Side) (i : Instr) : Type 0 where
  pub faultless : IsFaultless P
  pub fits : KnownFits P k
  pub point : IsPoint P p
  pub stands : p.side ≡ side
  pub instr : instr_of P p ≡ Some i

-- the change is what the row leaves; with no change, no state with what is known has a step by the row
abbrev pub Leaves : Program → Known → Point → Way → Option Change → Type 0
Leaves P k p way None = NeverSteps P k p way
Leaves P k p way (Some change) = IsLeft P k p way change

-- so at each point of the instruction
abbrev pub LeavesAt : Program → Known → Side → Instr → Way → Option Change → Type 0
LeavesAt P k side i way change = (p : Point) → IsSpot P k p side i → Leaves P k p way change

-- the condition of the mover
abbrev pub condition_known : Program → Known → Point → Condition
condition_known P k p = record {
  interrupt = is_interrupt (actor_at P p.actor.0).kind;
  critical = k.mover.critical;
  suspended = k.mover.suspended;
  holds = claims_some k.mover.claims;
}

-- none of the rules that the mover's condition decides stops it before the instruction
abbrev pub IsUnforbidden : Program → Known → Point → Instr → Type 0
IsUnforbidden P k p i =
    first_forbidden P (condition_known P k p) i ≡ None

-- so before the instruction, at each of its points where none of those rules stops the mover
abbrev pub LeavesBefore : Program → Known → Instr → Way → Option Change → Type 0
LeavesBefore P k i way change = (p : Point) → IsSpot P k p Before i → IsUnforbidden P k p i → Leaves P k p way change

-- inside a call on a live object of which this is known: the call suits the kind, and a mutex that it gives is the mover's
pub record IsEnd (P : Program) (k : Known) (p : Point) (known : Holding) (call : ObjectCall) : Type 0 where
  pub spot : IsSpot P k p Inside (Calls (On call))
  pub living : living (holding k call.object.0) ≡ Some known
  pub suits : is_unsuited (kind_of P call.object.0) call.timing call.act ≡ false
  pub held : is_given_unheld (kind_of P call.object.0) call known ≡ false

-- so at each end of such a call on an object of this kind
abbrev pub EndLeaves : Known → Kind → Holding → ObjectCall → Way → Option Change → Type 0
EndLeaves k kind known call way change =
    (P : Program) (p : Point) → kind_of P call.object.0 ≡ kind → IsEnd P k p known call → Leaves P k p way change

-- the change that changes nothing
abbrev pub unchanged : Known → Change
unchanged k = record { crit = k.mover.critical; susp = k.mover.suspended; claim = None; first = None; second = None }

-- the change that says this of one object
abbrev pub claiming : Known → ObjId → Claim → Change
claiming k o claim = record (unchanged k) { claim = Some (o, claim) }

-- the same, and the variable, where there is one, takes a number of this range
abbrev pub resulting : Known → ObjId → Claim → Option VarId → Range → Change
resulting k o claim result span = record (claiming k o claim) { first = option_map (λ x. (x, span)) result }

-- For private clauses: a point's own obligations, one alternative of its note at a time.
--
-- | word                             | meaning                                                                     |
-- |----------------------------------|-----------------------------------------------------------------------------|
-- | KeepsRuleBy, BreaksRuleBy        | no state with the alternative breaches the rule; some state does            |
-- | Decides                          | a truth value says which of the two                                         |
-- | is_decided                       | whether an actor's condition decides the rule                               |
-- | AnyRule, IsDecided, IsUndecided  | every rule; the rules that a condition decides; the others                  |
-- | RuleOutcome                      | the least of some rules that an alternative breaks, or none                 |
-- | may_be_live                      | whether an object can be live, by what is known of it                       |
-- | gives_unheld, uses_dead,         | whether rule 3, 7, 8 is breached in some state, by what is known            |
-- |   creates_live                   |                                                                             |
-- | StaysIn, IsOutBy                 | numbers are put into their declared ranges; some number out of it           |
-- | NoteOutcome                      | the least rule that one of these alternatives breaks, or none               |
-- | lesser_of                        | the rule with the lesser number, where there are two                        |
-- | GoesBy                           | the part `Goes`, for steps by one row                                       |
-- | WayOutcome                       | the point to which steps by one row lead without keeping its note, or none  |
-- | GoesOutcome                      | the least such point of both rows, or none                                  |
-- | GoesWell                         | where an alternative has a step by a row, one of the next note is left      |
use Rattle.std.specs.Prelude.{◌≡◌, ◌<◌, ◌≤ℤ◌, ◌<ℤ◌, ◌⊎◌, ℕ, ℤ, List, Option, None, Some, Bool, true, false, IsTrue, IsFalse, Contains, nat_le, if◌then◌else◌}
use Rattle.fr_program.specs.declared.instr.Instr.{Instr}
use Rattle.fr_program.specs.declared.instr.Instr.TheVariants.{Set, Call as Calls}
use Rattle.fr_program.specs.declared.instr.Call.TheVariants.{Create, On}
use Rattle.fr_program.specs.declared.instr.Act.{Act}
use Rattle.fr_program.specs.declared.instr.Act.TheVariants.{Try}
use Rattle.fr_program.specs.declared.instr.Attempt.TheVariants.{QueueSend}
use Rattle.fr_program.specs.declared.ids.Side.{Side}
use Rattle.fr_program.specs.declared.ids.Side.TheVariants.{Before, Inside}
use Rattle.fr_program.specs.declared.parts.Kind.{Kind}
use Rattle.fr_program.specs.declared.parts.Kind.TheVariants.{Queue}
use Rattle.fr_program.specs.declared.ids.Point.{Point}
use Rattle.fr_program.specs.Program.{Program}
use Rattle.fr_program.specs.Lookup.{IsPoint, instr_of, variable_at}
use Rattle.fr_program.specs.Points.{point_number}
use Rattle.fr_rules.specs.declared.way.Way.{Way}
use Rattle.fr_rules.specs.State.{State, kind_of}
use Rattle.fr_rules.specs.declared.rules.Rule.{Rule}
use Rattle.fr_rules.specs.declared.rules.Rule.TheVariants.{AllowedInCritical, AllowedSuspended, AllowedInInterrupt, SuitsSemaphore, DepthAboveZero, EndsInOrder}
use Rattle.fr_rules.specs.Rule.{number_of, Breach, used_object, result_of, IsOutside}
use Rattle.fr_rules.specs.Step.{CanStep, AlwaysLeaves}
use Rattle.fr_notes.specs.Note.{Alternative, Note, HoldsOne}
use Rattle.fr_notes.specs.Noted.{note_at, IsAt, NotedBy}
use Rattle.fr_notes.specs.Known.{Known, alone, joint_range, LeavesSome}
use Rattle.fr_notes.specs.Holding.{holding, can_be_dead, is_given_unheld}
use Rattle.fr_notes.specs.Implication.{IsPart}
use Rattle.fr_notes.specs.Reckoning.{CanBeIn, operand_in}
use Rattle.fr_notes.specs.declared.holding.Holding.{Holding}
use Rattle.fr_notes.specs.declared.holding.Holding.TheVariants.{Lifeless}
use Rattle.fr_notes.specs.Alternatives.{IsAmong}
use Rattle.fr_edge.specs.Own.{is_own, Goes}

-- no state with the alternative breaches the rule, if that is one for the point to keep by itself
abbrev pub KeepsRuleBy : Program → Point → Alternative → Rule → Type 0
KeepsRuleBy P p n rule =
    (i : Instr) → instr_of P p ≡ Some i → IsTrue (is_own i rule) → (S : State) → NotedBy P p n S → Breach P S rule p.actor.0 → ⊥

-- the rule is one for the point to keep by itself, and some state with the alternative breaches it
pub record BreaksRuleBy (P : Program) (p : Point) (n : Alternative) (rule : Rule) : Type 0 where
  pub instr : Instr
  pub is : instr_of P p ≡ Some instr
  pub own : IsTrue (is_own instr rule)
  pub state : State
  pub noted : NotedBy P p n state
  pub breach : Breach P state rule p.actor.0

-- whether some state with the alternative breaches the rule, if that is one for the point to keep by itself
abbrev pub Decides : Program → Point → Alternative → Rule → Bool → Type 0
Decides P p n rule true = BreaksRuleBy P p n rule
Decides P p n rule false = KeepsRuleBy P p n rule

-- whether the rule is one that an actor's kind, its depths and its mutexes decide
abbrev pub is_decided : Rule → Bool
is_decided AllowedInCritical = true
is_decided AllowedSuspended = true
is_decided AllowedInInterrupt = true
is_decided SuitsSemaphore = true
is_decided DepthAboveZero = true
is_decided EndsInOrder = true
is_decided rule = false

-- the alternative keeps each of these rules, or breaks this one and keeps those of them with lesser numbers
abbrev pub RuleOutcome : Program → Point → Alternative → (Rule → Type 0) → Option Rule → Type 0
RuleOutcome P p n Of None = (rule : Rule) → Of rule → KeepsRuleBy P p n rule
RuleOutcome P p n Of (Some rule) =
    BreaksRuleBy P p n rule × ((other : Rule) → Of other → number_of other < number_of rule → KeepsRuleBy P p n other)

-- every rule; the rules that the condition decides; the others
abbrev pub AnyRule : Rule → Type 0
AnyRule rule = Unit {0}

abbrev pub IsDecided : Rule → Type 0
IsDecided rule = IsTrue (is_decided rule)

abbrev pub IsUndecided : Rule → Type 0
IsUndecided rule = IsFalse (is_decided rule)

-- whether an object can be live, by what is known of it
abbrev pub may_be_live : Holding → Bool
may_be_live Lifeless = false
may_be_live known = true

-- whether a mutex is given that the mover isn't known to hold
abbrev pub gives_unheld : Program → Known → Instr → Bool
gives_unheld P k (Calls (On call)) = is_given_unheld (kind_of P call.object.0) call (holding k call.object.0)
gives_unheld P k i = false

-- whether an object, if there is one, can be dead
abbrev pub dead_by : Known → Option ℕ → Bool
dead_by k None = false
dead_by k (Some o) = can_be_dead (holding k o)

-- whether an object is used that can be dead
abbrev pub uses_dead : Known → Instr → Side → Bool
uses_dead k i side = dead_by k (used_object i side)

-- whether an object is created that can be live
abbrev pub creates_live : Known → Instr → Side → Bool
creates_live k (Calls (Create kind o e)) Before = may_be_live (holding k o.0)
creates_live k i side = false

-- a send to a queue, whatever number its operand can be, puts one of the queue's range
abbrev pub SendsIn : Known → Act → Kind → Type 0
SendsIn k (Try (QueueSend value) e) (Queue size lo hi) = IsPart (operand_in (joint_range k) value) (lo, hi)
SendsIn k act kind = Unit {0}

-- for some of these numbers it doesn't
abbrev pub SendsOutBy : Known → Act → Kind → Type 0
SendsOutBy k (Try (QueueSend value) e) (Queue size lo hi) =
    ((operand_in (joint_range k) value).0 <ℤ lo) ⊎ (hi <ℤ (operand_in (joint_range k) value).1)
SendsOutBy k act kind = ⊥

-- whatever numbers the operands can be, the number that is put is in its declared range
abbrev pub StaysIn : Program → Known → Side → Instr → Type 0
StaysIn P k Before (Set x l op r) =
    (u v : ℤ) → CanBeIn (joint_range k) l u → CanBeIn (joint_range k) r v → ((variable_at P x.0).lo ≤ℤ result_of op u v) × (result_of op u v ≤ℤ (variable_at P x.0).hi)
StaysIn P k Inside (Calls (On call)) = SendsIn k call.act (kind_of P call.object.0)
StaysIn P k side i = Unit {0}

-- for some of these numbers it isn't
abbrev pub IsOutBy : Program → Known → Side → Instr → Type 0
IsOutBy P k Before (Set x l op r) =
    (u : ℤ) × (v : ℤ) × CanBeIn (joint_range k) l u × CanBeIn (joint_range k) r v × IsOutside (variable_at P x.0).lo (variable_at P x.0).hi (result_of op u v)
IsOutBy P k Inside (Calls (On call)) = SendsOutBy k call.act (kind_of P call.object.0)
IsOutBy P k side i = ⊥

-- each of so many first alternatives keeps every rule, or one of them breaks this one, and all keep those with lesser
-- numbers
abbrev pub NoteOutcome : Program → Point → Note → ℕ → Option Rule → Type 0
NoteOutcome P p note bound None = (n : Alternative) → IsAmong note bound n → (rule : Rule) → KeepsRuleBy P p n rule
NoteOutcome P p note bound (Some rule) =
    ((n : Alternative) × IsAmong note bound n × BreaksRuleBy P p n rule)
    × ((other : Rule) → number_of other < number_of rule → (n : Alternative) → IsAmong note bound n → KeepsRuleBy P p n other)

-- for each alternative of the point's note with which some state steps to t by this row, one alternative of t's note is
-- left by every such step
abbrev pub GoesBy : Program → List Note → Point → Way → Point → Type 0
GoesBy P notes p way t =
    t.actor ≡ p.actor → (n : Alternative) → Contains (note_at P notes p) n →
    CanStep P (NotedBy P p n) p.actor.0 way (λ S'. IsAt S' t) →
    (m : Alternative) × Contains (note_at P notes t) m × AlwaysLeaves P (NotedBy P p n) p.actor.0 way (λ S'. IsAt S' t → HoldsOne m p.actor.0 S')

-- steps by this row keep the note of each point of the actor, or miss that of the point with this number alone
abbrev pub WayOutcome : Program → List Note → Point → Way → Option ℕ → Type 0
WayOutcome P notes p way None = (t : Point) → IsPoint P t → GoesBy P notes p way t
WayOutcome P notes p way (Some k) =
    (t : Point) × IsPoint P t × (t.actor ≡ p.actor) × (point_number P t ≡ k) × (GoesBy P notes p way t → ⊥)
    × ((other : Point) → IsPoint P other → point_number P other < k → GoesBy P notes p way other)

-- the same of all rows
abbrev pub GoesOutcome : Program → List Note → Point → Option ℕ → Type 0
GoesOutcome P notes p None = (t : Point) → Goes P notes p t
GoesOutcome P notes p (Some k) =
    (t : Point) × IsPoint P t × (point_number P t ≡ k) × (Goes P notes p t → ⊥)
    × ((other : Point) → IsPoint P other → point_number P other < k → Goes P notes p other)

-- where some state with the alternative has a step by the row, one alternative of the next note is left by all of them
abbrev pub GoesWell : Program → Point → Alternative → Way → Note → Type 0
GoesWell P p n way next = LeavesSome P (alone n) p p way p.actor.0 next

-- the rule with the lesser number, where there are two
abbrev pub lesser_of : Option Rule → Option Rule → Option Rule
lesser_of None other = other
lesser_of (Some one) None = Some one
lesser_of (Some one) (Some other) = if nat_le (number_of one) (number_of other) then Some one else Some other

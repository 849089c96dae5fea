-- The order in which a certified application takes its mutexes. The note of a point says exactly which mutexes its actor holds
-- there; so it says which ones an actor can hold while it waits for another one.
--
-- | word                  | meaning                                                                               |
-- |-----------------------|---------------------------------------------------------------------------------------|
-- | IsInsideTake          | the actor at a point is inside a take of a mutex that waits without limit             |
-- | CanHold               | some alternative of a note says that the actor holds a mutex                          |
-- | IsEdge                | at a point an actor can hold one mutex while it waits for another one                 |
-- | GoesUpwards           | each edge leads from a mutex of a list to one that comes later in it                  |
-- | IsEdgeCycle           | edges that lead from the first one's mutex back to it                                 |
-- | IsOrderOf             | a list in which each edge goes upwards, or such a cycle                               |
-- | NamesThings           | the mutexes and the points of an answer are the application's                         |
-- | OrderExcludesDeadlock | where each edge goes upwards in some list, no state of any run is deadlocked          |
use Rattle.std.specs.Prelude.{◌≡◌, ◌≢◌, ◌<◌, ℕ, List, length, Some, All, Contains, IsTrue}
use Rattle.fr_program.specs.declared.instr.Instr.TheVariants.{Call as Calls}
use Rattle.fr_program.specs.declared.instr.Call.TheVariants.{On}
use Rattle.fr_program.specs.declared.instr.ObjectCall.{ObjectCall}
use Rattle.fr_program.specs.declared.ids.ObjId.{ObjId}
use Rattle.fr_program.specs.declared.ids.Point.{Point}
use Rattle.fr_program.specs.declared.ids.Side.TheVariants.{Inside}
use Rattle.fr_program.specs.declared.parts.Kind.TheVariants.{Recursive}
use Rattle.fr_program.specs.Program.{Program}
use Rattle.fr_program.specs.Lookup.{IsPoint, instr_of}
use Rattle.fr_rules.specs.State.{kind_of}
use Rattle.fr_waits.specs.Waits.{TakesWithoutLimit, HasNoDeadlock}
use Rattle.fr_notes.specs.declared.claim.Claim.TheVariants.{HeldTimes}
use Rattle.fr_notes.specs.Note.{Alternative, Note, claim_of}
use Rattle.fr_notes.specs.Noted.{note_at}
use Rattle.fr_ends.specs.Certificate.{Certificate}
use Rattle.fr_ends.specs.Fits.{is_any_mutex}
use Rattle.fr_judge.specs.Sound.{Certified}
use Rattle.fr_order.specs.declared.edge.Edge.{Edge}
use Rattle.fr_order.specs.declared.order.Order.{Order}
use Rattle.fr_order.specs.declared.order.Order.TheVariants.{Upwards, Cycle}
use Rattle.fr_order.specs.Graph.{ComesBefore, ClosesUp}

-- the actor at this point is inside a take of this object, plain or recursive, that waits without limit
pub record IsInsideTake (P : Program) (p : Point) (m : ℕ) : Type 0 where
  pub side : p.side ≡ Inside
  pub call : ObjectCall
  pub is : instr_of P p ≡ Some (Calls (On call))
  pub takes : TakesWithoutLimit call m

-- some alternative of the note says that the actor holds the mutex
pub record CanHold (note : Note) (h : ℕ) : Type 0 where
  pub alternative : Alternative
  pub among : Contains note alternative
  pub count : ℕ
  pub holds : claim_of alternative h ≡ HeldTimes count

-- at this point an actor can hold the mutex h while it waits for the mutex m without limit; a recursive mutex that its
-- holder takes again isn't waited for
pub record IsEdge (P : Program) (notes : List Note) (p : Point) (h m : ℕ) : Type 0 where
  pub inside : IsInsideTake P p m
  pub mutex : IsTrue (is_any_mutex (kind_of P m))
  pub holds : CanHold (note_at P notes p) h
  pub again : h ≡ m → kind_of P m ≢ Recursive

-- each edge leads from a mutex of the list to one that comes later in it
abbrev pub GoesUpwards : Program → Certificate → List ObjId → Type 0
GoesUpwards P C mutexes = (p : Point) (h m : ℕ) → IsEdge P C.notes p h m → ComesBefore mutexes h m

-- edges that lead from the first one's mutex back to it
pub record IsEdgeCycle (P : Program) (C : Certificate) (edges : List Edge) : Type 0 where
  pub each : All (λ e. IsEdge P C.notes e.point e.held.0 e.taken.0) edges
  pub closes : ClosesUp edges

-- mutexes in an order in which each edge goes upwards, or edges that close a cycle
abbrev pub IsOrderOf : Program → Certificate → Order → Type 0
IsOrderOf P C (Upwards mutexes) = GoesUpwards P C mutexes.items
IsOrderOf P C (Cycle edges) = IsEdgeCycle P C edges.items

-- each mutex and each point of the answer is one of the application
abbrev pub NamesThings : Program → Order → Type 0
NamesThings P (Upwards mutexes) = All (λ m. m.0 < length P.objects) mutexes.items
NamesThings P (Cycle edges) =
    All (λ e. (e.held.0 < length P.objects) × (e.taken.0 < length P.objects) × IsPoint P e.point) edges.items

-- where each edge of a certified application goes upwards in some list, no state of any run of it is deadlocked
abbrev pub OrderExcludesDeadlock : Type 0
OrderExcludesDeadlock =
    (P : Program) (C : Certificate) → Certified P C → (mutexes : List ObjId) → GoesUpwards P C mutexes → HasNoDeadlock P

-- For private clauses: the edges of an application, as they are looked for.
--
-- | word              | meaning                                                                        |
-- |-------------------|--------------------------------------------------------------------------------|
-- | waits_to_take     | a call's act and timing are a take that waits without limit                    |
-- | inside_take       | an actor at a side of an instruction is inside such a take                     |
-- | inside_any_take   | the same, of any object                                                        |
-- | can_be_edge,      | an edge can lead from one object to the other, by their kinds                  |
-- |   CanBeEdge       |                                                                                |
-- | AreInside,        | the numbers of points inside such takes of a mutex, all of those               |
-- |   AreTakes        |                                                                                |
-- | HasTakesBelow     | each such number below a number is among these                                 |
-- | ArePoints, AreAllTakes | the numbers of points inside such takes of any object, all of those       |
-- | IsEdgeOf, AreEdges| edges of the application                                                       |
-- | HasEdge           | one of them leads from a mutex to another one                                  |
-- | HasEdgesBelow,    | each edge to a mutex, from a mutex with a number below a number is among them  |
-- |   HasEdgesFrom    |                                                                                |
use Rattle.std.specs.Prelude.{◌≡◌, ◌≢◌, ◌<◌, ℕ, List, Option, Some, Bool, true, false, not, ◌&&◌, nat_eq, All, Contains, IsTrue, length, slice_get}
use Rattle.fr_program.specs.declared.instr.Instr.{Instr}
use Rattle.fr_program.specs.declared.instr.Instr.TheVariants.{Call as Calls}
use Rattle.fr_program.specs.declared.instr.Call.TheVariants.{On}
use Rattle.fr_program.specs.declared.instr.Act.{Act}
use Rattle.fr_program.specs.declared.instr.Act.TheVariants.{Try}
use Rattle.fr_program.specs.declared.instr.Attempt.TheVariants.{Take}
use Rattle.fr_program.specs.declared.instr.Timing.{Timing}
use Rattle.fr_program.specs.declared.instr.Timing.TheVariants.{Waits}
use Rattle.fr_program.specs.declared.instr.BlockTime.TheVariants.{MaxDelay}
use Rattle.fr_program.specs.declared.ids.Point.{Point}
use Rattle.fr_program.specs.declared.ids.Side.{Side}
use Rattle.fr_program.specs.declared.ids.Side.TheVariants.{Inside}
use Rattle.fr_program.specs.declared.parts.Kind.{Kind}
use Rattle.fr_program.specs.declared.parts.Kind.TheVariants.{Mutex, Recursive}
use Rattle.fr_program.specs.Program.{Program}
use Rattle.fr_program.specs.Points.{points_of}
use Rattle.fr_rules.specs.State.{kind_of}
use Rattle.fr_notes.specs.Note.{Note}
use Rattle.fr_ends.specs.Fits.{is_any_mutex}
use Rattle.fr_order.specs.declared.edge.Edge.{Edge}
use Rattle.fr_order.specs.Order.{IsInsideTake, IsEdge}

-- whether a call's act is a take, and it waits without limit
abbrev pub waits_to_take : Act → Timing → Bool
waits_to_take (Try (Take form) or_else) (Waits MaxDelay) = true
waits_to_take act timing = false

-- whether an actor at this side of this instruction is inside such a take of the object
abbrev pub inside_take : Side → Option Instr → ℕ → Bool
inside_take Inside (Some (Calls (On call))) m = nat_eq call.object.0 m && waits_to_take call.act call.timing
inside_take side i m = false

-- whether an edge can lead from h to m, where m is of this kind
abbrev pub can_be_edge : Kind → ℕ → ℕ → Bool
can_be_edge Mutex h m = true
can_be_edge Recursive h m = not (nat_eq h m)
can_be_edge kind h m = false

abbrev pub inside_any_take : Side → Option Instr → Bool
inside_any_take Inside (Some (Calls (On call))) = waits_to_take call.act call.timing
inside_any_take side i = false

-- numbers of points, at each of which the actor is inside a take of the mutex
abbrev pub AreInside : Program → ℕ → List ℕ → Type 0
AreInside P m takes = All (λ k. (k < length (points_of P)) × ((p : Point) → slice_get (points_of P) k ≡ Some p → IsInsideTake P p m)) takes

-- each such number below this one is among them
abbrev pub HasTakesBelow : Program → ℕ → List ℕ → ℕ → Type 0
HasTakesBelow P m takes n = (k : ℕ) → k < n → (p : Point) → slice_get (points_of P) k ≡ Some p → IsInsideTake P p m → Contains takes k

-- the numbers of all points inside a take of the mutex
pub record AreTakes (P : Program) (m : ℕ) (takes : List ℕ) : Type 0 where
  pub inside : AreInside P m takes
  pub all : HasTakesBelow P m takes (length (points_of P))

-- numbers of points
abbrev pub ArePoints : Program → List ℕ → Type 0
ArePoints P takes = All (λ k. k < length (points_of P)) takes

-- the numbers of points, among which are those of all points inside a take of any object
pub record AreAllTakes (P : Program) (takes : List ℕ) : Type 0 where
  pub points : ArePoints P takes
  pub all : (m : ℕ) → HasTakesBelow P m takes (length (points_of P))

-- an edge can lead from h to m, by their kinds
pub record CanBeEdge (P : Program) (h m : ℕ) : Type 0 where
  pub mutex : IsTrue (is_any_mutex (kind_of P m))
  pub again : h ≡ m → kind_of P m ≢ Recursive

-- an edge of the application between two of its objects
pub record IsEdgeOf (P : Program) (notes : List Note) (e : Edge) : Type 0 where
  pub edge : IsEdge P notes e.point e.held.0 e.taken.0
  pub held : e.held.0 < length P.objects
  pub taken : e.taken.0 < length P.objects

-- edges of the application
abbrev pub AreEdges : Program → List Note → List Edge → Type 0
AreEdges P notes edges = All (λ e. IsEdgeOf P notes e) edges

-- one of the edges leads from h to m
abbrev pub HasEdge : List Edge → ℕ → ℕ → Type 0
HasEdge edges h m = (e : Edge) × Contains edges e × ((e.held.0 ≡ h) × (e.taken.0 ≡ m))

-- each edge of the application to a mutex with a number below this one is among them
abbrev pub HasEdgesBelow : Program → List Note → List Edge → ℕ → Type 0
HasEdgesBelow P notes edges n = (p : Point) (h m : ℕ) → m < n → IsEdge P notes p h m → HasEdge edges h m

-- each edge of the application to this mutex from one with a number below this one is among them
abbrev pub HasEdgesFrom : Program → List Note → List Edge → ℕ → ℕ → Type 0
HasEdgesFrom P notes edges m n = (p : Point) (h : ℕ) → h < n → IsEdge P notes p h m → HasEdge edges h m

-- For private clauses: how an order is made of the mutexes, the free ones first.
--
-- | word              | meaning                                                                               |
-- |-------------------|---------------------------------------------------------------------------------------|
-- | IsWithin          | both ends of each edge have a number below this one                                   |
-- | AreEnds, HasEnds  | mutexes at ends of edges, and all of them                                             |
-- | Blocks, IsFree    | an edge leads to a mutex from one that isn't in the order, no edge does               |
-- | IsSorted, AreRest | a mutex, each end of each edge is in the order or in the rest                         |
-- | IsUpward          | each edge to a mutex of the order goes upwards                                        |
-- | IsPeeled          | the order goes upwards, and no mutex of the rest is free                              |
-- | AreAmong          | the edges of a path are some of the edges                                             |
-- | IsVisited, IsWalk | a mutex was visited, a walk back along edges from mutex to mutex                      |
use Rattle.std.specs.Prelude.{◌≡◌, ◌<◌, ◌⊎◌, ℕ, List, All, Contains}
use Rattle.fr_program.specs.declared.ids.ObjId.{ObjId}
use Rattle.fr_order.specs.declared.edge.Edge.{Edge}
use Rattle.fr_order.specs.Graph.{place_in, IsListed, IsEnd, LeadsFrom}

-- both ends of each edge have a number below this one
abbrev pub IsWithin : List Edge → ℕ → Type 0
IsWithin edges mutexes = All (λ e. (e.held.0 < mutexes) × (e.taken.0 < mutexes)) edges

-- the mutexes are at ends of edges
abbrev pub AreEnds : List Edge → List ObjId → Type 0
AreEnds edges mutexes = All (λ m. IsEnd edges m.0) mutexes

-- both ends of each edge are in the list, and nothing else is
pub record HasEnds (edges : List Edge) (ends : List ObjId) : Type 0 where
  pub each : All (λ e. Contains ends e.held × Contains ends e.taken) edges
  pub only : AreEnds edges ends

-- the edge is one of these, and leads to the mutex from one that isn't in the order
pub record Blocks (edges : List Edge) (order : List ObjId) (m : ℕ) (e : Edge) : Type 0 where
  pub among : Contains edges e
  pub leads : e.taken.0 ≡ m
  pub unlisted : IsListed order e.held.0 → ⊥

-- each edge to the mutex comes from one in the order
abbrev pub IsFree : List Edge → List ObjId → ℕ → Type 0
IsFree edges order m = All (λ e. e.taken.0 ≡ m → IsListed order e.held.0) edges

-- the mutex is in the order or in the rest
abbrev pub IsSorted : List ObjId → List ObjId → ObjId → Type 0
IsSorted order rest m = IsListed order m.0 ⊎ Contains rest m

-- both ends of each edge are in the order or in the rest
abbrev pub AreRest : List Edge → List ObjId → List ObjId → Type 0
AreRest edges order rest = All (λ e. IsSorted order rest e.held × IsSorted order rest e.taken) edges

-- each edge to a mutex of the order comes from one before it
abbrev pub IsUpward : List Edge → List ObjId → Type 0
IsUpward edges order = All (λ e. IsListed order e.taken.0 → place_in order e.held.0 < place_in order e.taken.0) edges

-- no mutex of the rest is free
pub record IsPeeled (edges : List Edge) (order rest : List ObjId) : Type 0 where
  pub upward : IsUpward edges order
  pub sorted : AreRest edges order rest
  pub ends : AreEnds edges order
  pub stuck : All (λ x. (e : Edge) × Blocks edges order x.0 e) rest

-- the edges are some of these
abbrev pub AreAmong : List Edge → List Edge → Type 0
AreAmong edges path = All (λ e. Contains edges e) path

-- a mutex of the rest is still to be visited, or an edge of the path leads to it
abbrev pub IsVisited : List ObjId → List Edge → ObjId → Type 0
IsVisited unvisited path m = Contains unvisited m ⊎ ((e : Edge) × Contains path e × (e.taken.0 ≡ m.0))

-- a walk back along edges: it is at a mutex of the rest, and the path leads from there over each mutex that was visited
pub record IsWalk (edges : List Edge) (rest unvisited : List ObjId) (path : List Edge) (current : ObjId) : Type 0 where
  pub inside : Contains rest current
  pub among : AreAmong edges path
  pub leads : (to : ℕ) × LeadsFrom current.0 path to
  pub visited : All (λ m. IsVisited unvisited path m) rest

-- Edges between mutexes: when a list of mutexes puts them in order, and when edges close a cycle.
--
-- | word           | meaning                                                                              |
-- |----------------|--------------------------------------------------------------------------------------|
-- | place_in       | the first place of a mutex in a list, or the list's length where it isn't in it      |
-- | IsListed       | the mutex is in the list                                                             |
-- | ComesBefore    | both mutexes are in the list, and the first place of one is before that of the other |
-- | IsEnd          | the mutex is at an end of one of the edges                                           |
-- | LeadsFrom      | the edges lead from a mutex, one after the other, to a mutex                         |
-- | ClosesUp       | there is an edge, and they lead from the first one's mutex back to it                |
-- | IsCycleOf      | a cycle of edges of a list                                                           |
use Rattle.std.specs.Prelude.{◌≡◌, ◌<◌, ◌⊎◌, ℕ, List, [], ◌∷◌, length, nat_eq, All, Contains}
use Rattle.std.specs.List.{position_or_len}
use Rattle.fr_program.specs.declared.ids.ObjId.{ObjId}
use Rattle.fr_order.specs.declared.edge.Edge.{Edge}

-- the first place of this mutex in the list, or the list's length where it isn't in it
abbrev pub place_in : List ObjId → ℕ → ℕ
place_in mutexes m = position_or_len (λ x. nat_eq x.0 m) mutexes

-- the mutex is in the list
abbrev pub IsListed : List ObjId → ℕ → Type 0
IsListed mutexes m = place_in mutexes m < length mutexes

-- both mutexes are in the list, and the first place of h is before that of m
pub record ComesBefore (mutexes : List ObjId) (h m : ℕ) : Type 0 where
  pub earlier : place_in mutexes h < place_in mutexes m
  pub listed : IsListed mutexes m

-- the mutex is at an end of one of the edges
abbrev pub IsEnd : List Edge → ℕ → Type 0
IsEnd edges m = (e : Edge) × Contains edges e × ((e.held.0 ≡ m) ⊎ (e.taken.0 ≡ m))

-- the edges lead from one mutex to another: each begins where the one before it ends
abbrev pub LeadsFrom : ℕ → List Edge → ℕ → Type 0
LeadsFrom from [] to = from ≡ to
LeadsFrom from (e ∷ edges) to = (e.held.0 ≡ from) × LeadsFrom e.taken.0 edges to

-- one edge or more, which lead from the first one's mutex back to it
abbrev pub ClosesUp : List Edge → Type 0
ClosesUp [] = ⊥
ClosesUp (e ∷ edges) = LeadsFrom e.held.0 (e ∷ edges) e.held.0

-- edges of the list that close up
pub record IsCycleOf (edges cycle : List Edge) : Type 0 where
  pub each : All (λ e. Contains edges e) cycle
  pub closes : ClosesUp cycle

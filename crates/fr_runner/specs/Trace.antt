-- Traces: what a machine did, entry by entry, and when such a list is true.
--
-- | word           | meaning                                                                                  |
-- |----------------|------------------------------------------------------------------------------------------|
-- | Entry          | an actor stepped by a choice, or it was blocked                                          |
-- | word_at        | the word for the entry with this number                                                  |
-- | AreChoices     | the list has exactly the choices of an actor's steps, in rising order                    |
-- | IsChosen       | the word picks this one of an actor's choices                                            |
-- | actor_of       | whose poll an entry tells of                                                             |
-- | IsEntry        | an entry is true between two states                                                      |
-- | Replays        | entries lead from one state to another, each of them true where it stands                |
-- | AllDone        | every actor of the application is done                                                   |
-- | IsRunOf        | a trace replays from the start, and ends early only where every actor is done            |
use Rattle.std.specs.Prelude.{◌≡◌, ◌<◌, ◌≤◌, ◌<ℤ◌, ◌+◌, ◌%◌, ◌↔◌, ℕ, ℤ, List, [], ◌∷◌, Some, length, slice_index, slice_get, AllPairs, Contains}
use Rattle.fr_program.specs.declared.ids.ActorId.{ActorId}
use Rattle.fr_program.specs.Program.{Program}
use Rattle.fr_rules.specs.State.{State, Done, place_of, start}
use Rattle.fr_rules.specs.Step.{Step}
use Rattle.fr_rules.specs.Choices.{CanChoose}
pub use Rattle.fr_runner.specs.declared.trace.Entry.{Entry}
pub use Rattle.fr_runner.specs.declared.trace.Entry.TheVariants.{Stepped, Blocked}

-- the word for the entry with this number, from 0: the words in turn, over and over; 0 where there are none
abbrev pub word_at : List ℕ → ℕ → ℕ
word_at words number = slice_index words (number % length words)

-- the list has exactly the choices of the actor's steps, in rising order
pub record AreChoices (P : Program) (S : State) (a : ℕ) (choices : List ℤ) : Type 0 where
  pub rising : AllPairs (λ x y. x <ℤ y) choices
  pub exact : (c : ℤ) → (Contains choices c ↔ CanChoose P S a c)

-- of the actor's choices in rising order this is the one whose place, from 0, is what is left of the word when it is
-- divided by their number
abbrev pub IsChosen : Program → State → ℕ → ℕ → ℤ → Type 0
IsChosen P S a word c = (choices : List ℤ) × AreChoices P S a choices × (slice_get choices (word % length choices) ≡ Some c)

-- whose poll it was
abbrev pub actor_of : Entry → ActorId
actor_of (Stepped a c) = a
actor_of (Blocked a) = a

-- the entry is true: the actor steps from S to S' by the choice that the word picks, or it has no step in S, which stays
abbrev pub IsEntry : Program → ℕ → State → Entry → State → Type 0
IsEntry P word S (Stepped a c) S' = IsChosen P S a.0 word c × Step P S a.0 c S'
IsEntry P word S (Blocked a) S' = (a.0 < length P.actors) × ((c : ℤ) → CanChoose P S a.0 c → ⊥) × (S' ≡ S)

-- the entries, before which there were so many others, lead from S to S'
abbrev pub Replays : Program → List ℕ → ℕ → State → List Entry → State → Type 0
Replays P words before S [] S' = S' ≡ S
Replays P words before S (e ∷ es) S' = (mid : State) × IsEntry P (word_at words before) S e mid × Replays P words (before + 1) mid es S'

-- every actor of the application is done
abbrev pub AllDone : Program → State → Type 0
AllDone P S = (a : ℕ) → a < length P.actors → place_of S a ≡ Done

-- the entries replay from the start; there are as many as `polls`, or fewer where every actor is done after them
abbrev pub IsRunOf : Program → List ℕ → ℕ → List Entry → Type 0
IsRunOf P words polls entries =
    (S : State) × Replays P words 0 (start P) entries S × (length entries ≤ polls) × (length entries < polls → AllDone P S)

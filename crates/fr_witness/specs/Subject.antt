-- What a note speaks of, and the first of it that a state has otherwise.
--
-- | word            | meaning                                                                              |
-- |-----------------|--------------------------------------------------------------------------------------|
-- | Subject         | a depth, an object or a variable                                                     |
-- | IsSaid          | what the alternative says of the subject is so in the state                          |
-- | comes_first     | the depths come first, then the objects and the variables, by their numbers          |
-- | IsFirstBroken   | the first subject of which it isn't so, or none                                      |
use Rattle.std.specs.Prelude.{◌≡◌, ◌<◌, ℕ, Option, None, Some}
pub use Rattle.fr_notes.specs.declared.subject.Subject.{Subject}
pub use Rattle.fr_notes.specs.declared.subject.Subject.TheVariants.{Critical, Suspended, Object, Variable}
use Rattle.fr_rules.specs.State.{State, value_of, content_of, suspension_of, depth_of}
use Rattle.fr_notes.specs.Note.{Alternative, Meets, Within, HoldsOne, claim_of, range_of}

-- what the alternative says of the subject is so for this actor in this state
abbrev pub IsSaid : Alternative → ℕ → State → Subject → Type 0
IsSaid n a S Critical = depth_of S a ≡ n.critical
IsSaid n a S Suspended = suspension_of S a ≡ n.suspended
IsSaid n a S (Object o) = Meets a (claim_of n o.0) (content_of S o.0)
IsSaid n a S (Variable x) = Within (range_of n x.0) (value_of S x.0)

-- the subjects in their order: the depths, then the objects and the variables, by their numbers
abbrev pub ComesFirst : Subject → Subject → Type 0
ComesFirst one Critical = ⊥
ComesFirst Critical other = Unit {0}
ComesFirst one Suspended = ⊥
ComesFirst Suspended other = Unit {0}
ComesFirst (Object o) (Object p) = o.0 < p.0
ComesFirst (Object o) (Variable x) = Unit {0}
ComesFirst (Variable x) (Variable y) = x.0 < y.0
ComesFirst (Variable x) (Object o) = ⊥

-- all that the alternative says is so; or what it says of this subject isn't so, and of each one before it is
abbrev pub IsFirstBroken : Alternative → ℕ → State → Option Subject → Type 0
IsFirstBroken n a S None = HoldsOne n a S
IsFirstBroken n a S (Some subject) =
    (IsSaid n a S subject → ⊥) × ((other : Subject) → ComesFirst other subject → IsSaid n a S other)

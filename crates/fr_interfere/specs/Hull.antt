-- For private clauses: what some points have in common, and when that keeps them from disturbing a note.
--
-- | word              | meaning                                                                                     |
-- |-------------------|---------------------------------------------------------------------------------------------|
-- | Has, GivesIn      | a number is in a range that may be missing; what a step gives its variable is               |
-- | CoversClaims,     | claims, or ranges, of some objects or variables that exclude no more than an alternative's  |
-- |   CoversRanges    |                                                                                             |
-- | Covers            | what a hull says is true of an alternative and of a step's effect where that holds          |
-- | IsUnder, AreUnder | so it is of a point; of each point in a list                                                |
-- | IsShut            | the hull's points and the alternative are all in the critical section                       |
-- | IsDenied, IsApart | a claim can't meet an alternative's; a range has no number of an alternative's               |
-- | Excludes          | no alternative that the hull covers can meet this one                                       |
-- | IsBorne           | this alternative has each number that is written                                            |
-- | IsBorneByEach     | one variable is written, and each alternative of a note has each number that is written     |
-- | Spares            | so no point under the hull can disturb the note of this actor                               |
-- | IsClosedBy        | the hull's points are one actor's that is closed, and write one variable                    |
use Rattle.std.specs.Prelude.{◌≡◌, ◌≢◌, ◌⊎◌, ℕ, ℤ, List, Option, None, Some, Bool, true, false, All, Any, IfSome, Contains, slice_index_or}
use Rattle.fr_program.specs.declared.ids.ActorId.{ActorId}
use Rattle.fr_program.specs.declared.ids.ObjId.{ObjId}
use Rattle.fr_program.specs.declared.ids.Point.{Point}
use Rattle.fr_program.specs.declared.ids.VarId.{VarId}
use Rattle.fr_program.specs.declared.range.Range.{Range}
use Rattle.fr_program.specs.Program.{Program}
use Rattle.fr_program.specs.Lookup.{IsPoint}
use Rattle.fr_program.specs.Points.{point_number}
use Rattle.fr_program.specs.Spans.{IsIn}
use Rattle.fr_rules.specs.Rule.{result_of}
use Rattle.fr_notes.specs.declared.claim.Claim.{Claim}
use Rattle.fr_notes.specs.Implication.{IsPart}
use Rattle.fr_notes.specs.Known.{ClaimsMeet}
use Rattle.fr_notes.specs.Note.{Alternative, Note, claim_of, range_of}
use Rattle.fr_notes.specs.Noted.{note_at}
use Rattle.fr_notes.specs.Pairs.{RangesMeet}
use Rattle.fr_notes.specs.Reckoning.{CanBeIn}
use Rattle.fr_notes.specs.View.{ends_of}
use Rattle.fr_effects.specs.declared.effects.Effect.{Effect}
use Rattle.fr_effects.specs.declared.effects.Effect.TheVariants.{Gives, Sets}
use Rattle.fr_interfere.specs.declared.hull.Hull.{Hull}
use Rattle.fr_effects.specs.Effects.{effect_at, target_of}

-- the number is in the range, if there is one
abbrev pub Has : Option Range → ℤ → Type 0
Has None v = ⊥
Has (Some range) v = IsIn range v

-- where the alternative holds, each number that the effect gives its variable is in the range
abbrev pub GivesIn : Effect → Alternative → Option Range → Type 0
GivesIn (Gives x lo hi) m written = Has written lo × Has written hi
GivesIn (Sets x l op r) m written = (u v : ℤ) → CanBeIn (range_of m) l u → CanBeIn (range_of m) r v → Has written (result_of op u v)
GivesIn effect m written = Unit {0}

-- each of these claims can meet what the alternative's claim of the same object can meet
abbrev pub CoversClaims : List (ObjId × Claim) → Alternative → Type 0
CoversClaims claims m = All (λ e. (c : Claim) → ClaimsMeet (claim_of m e.0.0) c → ClaimsMeet e.1 c) claims

-- each of these ranges has the alternative's range of the same variable
abbrev pub CoversRanges : List (VarId × Range) → Alternative → Type 0
CoversRanges ranges m = All (λ e. IsPart (range_of m e.0.0) (ends_of e.1)) ranges

-- what the hull says is true of the alternative, and of what the effect gives where that holds
pub record Covers (h : Hull) (effect : Effect) (m : Alternative) : Type 0 where
  pub critical : h.critical ≡ true → m.critical ≢ 0
  pub claims : CoversClaims h.claims.items m
  pub ranges : CoversRanges h.ranges.items m
  pub written : GivesIn effect m h.written

-- it is true of the point: of its actor, and of each alternative of its note
pub record IsUnder (P : Program) (notes : List Note) (h : Hull) (q : Point) : Type 0 where
  pub actor : IfSome h.actor (λ a. q.actor ≡ a)
  pub variable : IfSome h.variable (λ x. target_of (effect_at P q) ≡ Some x)
  pub note : All (λ m. Covers h (effect_at P q) m) (note_at P notes q)

-- so it is of each point whose number is in the list
abbrev pub AreUnder : Program → List Note → Hull → List ℕ → Type 0
AreUnder P notes h numbers = (q : Point) → IsPoint P q → Contains numbers (point_number P q) → IsUnder P notes h q

-- all that the hull covers is in the critical section, as the alternative is
abbrev pub IsShut : Hull → Alternative → Type 0
IsShut h n = (h.critical ≡ true) × (n.critical ≢ 0)

-- the claim can't meet the alternative's claim of the same object
abbrev pub IsDenied : ObjId × Claim → Alternative → Type 0
IsDenied e n = ClaimsMeet e.1 (claim_of n e.0.0) → ⊥

-- the range has no number of the alternative's range of the same variable
abbrev pub IsApart : VarId × Range → Alternative → Type 0
IsApart e n = RangesMeet (ends_of e.1) (range_of n e.0.0) → ⊥

-- nothing that the hull covers can meet the alternative
pub record Excludes (h : Hull) (n : Alternative) : Type 0 where
  pub why : IsShut h n ⊎ (Any (λ e. IsApart e n) h.ranges.items ⊎ Any (λ e. IsDenied e n) h.claims.items)

-- the alternative's range of the variable has each number that is written
abbrev pub IsBorne : Hull → ℕ → Alternative → Type 0
IsBorne h x n = IfSome h.written (λ range. IsPart (ends_of range) (range_of n x))

-- the points write one variable, and each alternative of the note has each number that is written
abbrev pub IsBorneByEach : Hull → Note → Type 0
IsBorneByEach h note = (x : ℕ) × (h.variable ≡ Some x) × All (λ n. IsBorne h x n) note

-- the hull's points are the actor's own, or write what the note bears, or can't meet it
abbrev pub Spares : Hull → ActorId → Note → Type 0
Spares h actor note = (h.actor ≡ Some actor) ⊎ (IsBorneByEach h note ⊎ All (λ n. Excludes h n) note)

-- the points are one actor's that is closed, and write one variable
abbrev pub IsClosedBy : Hull → List Bool → Type 0
IsClosedBy h closed = (a : ActorId) × (x : ℕ) × (h.actor ≡ Some a) × (h.variable ≡ Some x) × (slice_index_or closed a.0 false ≡ true)

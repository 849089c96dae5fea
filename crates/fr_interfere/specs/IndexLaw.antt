-- That the lists of an index are exact against the step table itself, and not against a second reading of it. For the public
-- contract of `an_index_is_exact`.
--
-- | word               | meaning                                                                                           |
-- |--------------------|---------------------------------------------------------------------------------------------------|
-- | ChangesNumber      | some row of the table, at this side of the instruction, gives the variable another number         |
-- | KeepsNumber        | the instruction is a `set` that gives the variable its own number, whatever the state             |
-- | IsTurned           | of two contents one is dead and the other isn't                                                   |
-- | ChangesLife        | some row makes the object live, or dead, in a state in which its actor doesn't breach rule 7      |
-- | IsAt               | the point with this number stands at such a side of such an instruction                           |
-- | IsExact            | the lists of an index have exactly the points with such rows                                      |
use Rattle.std.specs.Prelude.{◌≡◌, ◌≢◌, ◌<◌, ◌⊎◌, ◌↔◌, ℕ, ℤ, Some, Contains, length, slice_get}
use Rattle.fr_program.specs.declared.ids.Point.{Point}
use Rattle.fr_program.specs.declared.ids.Side.{Side}
use Rattle.fr_program.specs.declared.ids.Side.TheVariants.{Before}
use Rattle.fr_program.specs.declared.instr.Instr.{Instr}
use Rattle.fr_program.specs.declared.instr.Instr.TheVariants.{Set}
use Rattle.fr_program.specs.Program.{Program}
use Rattle.fr_program.specs.Lookup.{instr_of}
use Rattle.fr_program.specs.Fault.{IsFaultless}
use Rattle.fr_program.specs.Points.{points_of}
use Rattle.fr_rules.specs.State.{State, Content, Dead, content_of, value_of}
use Rattle.fr_rules.specs.Rule.{UsesDead, operand_of, result_of}
use Rattle.fr_rules.specs.declared.way.Way.{Way}
use Rattle.fr_rules.specs.Step.{Row, transition}
use Rattle.fr_effects.specs.Index.{IndexOf, IsIndexOf, list_at}

-- some row of the table, at this side of the instruction, gives the variable another number
pub record ChangesNumber (P : Program) (side : Side) (i : Instr) (x : ℕ) : Type 0 where
  pub before : State
  pub actor : ℕ
  pub choice : ℤ
  pub after : State
  pub way : Way
  pub row : Row P (transition before actor choice after) side i way
  pub other : value_of after x ≢ value_of before x

-- the instruction is a `set` that gives the variable its own number, whatever the state, as `set x = x`
abbrev pub KeepsNumber : Side → Instr → ℕ → Type 0
KeepsNumber Before (Set y l op r) x = (y.0 ≡ x) × ((S : State) → result_of op (operand_of S l) (operand_of S r) ≡ value_of S x)
KeepsNumber side i x = ⊥

-- of two contents one is dead and the other isn't
abbrev pub IsTurned : Content → Content → Type 0
IsTurned c d = ((c ≡ Dead) × (d ≢ Dead)) ⊎ ((c ≢ Dead) × (d ≡ Dead))

-- some row makes the object live, or dead, in a state in which its actor doesn't breach rule 7
pub record ChangesLife (P : Program) (side : Side) (i : Instr) (o : ℕ) : Type 0 where
  pub before : State
  pub actor : ℕ
  pub choice : ℤ
  pub after : State
  pub way : Way
  pub live : UsesDead before i side → ⊥
  pub row : Row P (transition before actor choice after) side i way
  pub turned : IsTurned (content_of before o) (content_of after o)

-- the point with this number stands at such a side of such an instruction
abbrev pub IsAt : Program → (Side → Instr → Type 0) → ℕ → Type 0
IsAt P IsSuch k = (q : Point) × (i : Instr) × (slice_get (points_of P) k ≡ Some q) × (instr_of P q ≡ Some i) × IsSuch q.side i

-- the lists have exactly the points whose rows change the variable, but that each `set` is listed, and exactly those whose rows
-- change the object's life
pub record IsExact (P : Program) (I : IndexOf) : Type 0 where
  pub writers : (x k : ℕ) → x < length P.variables →
      (Contains (list_at I.writers x) k ↔ IsAt P (λ side i. ChangesNumber P side i x ⊎ KeepsNumber side i x) k)
  pub lives : (o k : ℕ) → o < length P.objects → (Contains (list_at I.lives o) k ↔ IsAt P (λ side i. ChangesLife P side i o) k)

-- so it is of each index of an application
abbrev pub IndexesAreExact : Type 0
IndexesAreExact = (P : Program) (I : IndexOf) → IsFaultless P → IsIndexOf P I → IsExact P I

-- For private clauses: where a variable begins, and what is true of an object at the start.
use Rattle.std.specs.Prelude.{ℕ, pos, List, Bool, true, false, not, map, slice_index_or, IsTrue}
use Rattle.fr_program.specs.declared.parts.Object.{Object}
use Rattle.fr_program.specs.declared.parts.Variable.{Variable}
use Rattle.fr_program.specs.declared.range.Range.{Range}
use Rattle.fr_program.specs.Lookup.{no_variable, no_object}
use Rattle.fr_program.specs.View.{variable_of, object_of}
use Rattle.fr_notes.specs.declared.claim.Claim.{Claim}
use Rattle.fr_notes.specs.declared.claim.Claim.TheVariants.{NotHeld, Alive, Gone, HeldTimes}
use Rattle.fr_notes.specs.Note.{Within}
use Rattle.fr_notes.specs.View.{ends_of}

-- the initial value of the variable with this number lies in the range with this number
abbrev pub BeginsWithin : List Range → List Variable → ℕ → Type 0
BeginsWithin ranges variables x =
    Within (slice_index_or (map ends_of ranges) x (pos 0, pos 0)) (slice_index_or (map variable_of variables) x no_variable).init

-- whether a claim of an object that is declared live or dead is true at the start
abbrev pub begins_as : Claim → Bool → Bool
begins_as NotHeld live = true
begins_as Alive live = live
begins_as Gone live = not live
begins_as (HeldTimes count) live = false

-- the claim with this number is true at the start of the object with this number
abbrev pub BeginsAs : List Claim → List Object → ℕ → Type 0
BeginsAs claims objects o = IsTrue (begins_as (slice_index_or claims o NotHeld) (slice_index_or (map object_of objects) o no_object).live)

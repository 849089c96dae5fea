-- Which steps of another actor leave a point's note holding. `IsSpoiler` is for the public contracts of `spoiler`,
-- `spoiler_by` and `Interference::spoiler`; the other words are for private clauses.
--
-- | word            | meaning                                                                            |
-- |-----------------|------------------------------------------------------------------------------------|
-- | SparesSome      | some alternative of a note is one that a change spares                             |
-- | IsSparedByRow   | of two alternatives: one of the note's is left by every step by this row           |
-- | IsSparedByRows  | the same, of both rows                                                             |
-- | IsSpoiler       | the least point that disturbs a point's note, or none                              |
use Rattle.std.specs.Prelude.{◌≡◌, ◌<◌, ℕ, List, Option, None, Some, Any}
use Rattle.fr_program.specs.declared.ids.Point.{Point}
use Rattle.fr_program.specs.Program.{Program}
use Rattle.fr_program.specs.Lookup.{IsPoint}
use Rattle.fr_program.specs.Points.{point_number}
use Rattle.fr_rules.specs.declared.way.Way.{Way}
use Rattle.fr_rules.specs.declared.way.Way.TheVariants.{Then, Else}
use Rattle.fr_notes.specs.declared.change.Change.{Change}
use Rattle.fr_notes.specs.Note.{Alternative, Note}
use Rattle.fr_notes.specs.Known.{Known, LeavesSome, Spares, beside}
use Rattle.fr_effects.specs.Undisturbed.{Undisturbed}

-- where the other actor had the alternative n: one of the note's holds of it after each step that makes this change
abbrev pub SparesSome : Known → Alternative → Change → Note → Type 0
SparesSome k n change note = Any (λ m. Spares k n change m) note

-- where p's actor has the alternative n and q's the alternative m: one alternative of the note is left by every step
-- from q by this row
abbrev pub IsSparedByRow : Program → Point → Alternative → Point → Alternative → Way → Note → Type 0
IsSparedByRow P p n q m way note = LeavesSome P (beside m n) q p way p.actor.0 note

-- so it is of both rows
abbrev pub IsSparedByRows : Program → Point → Alternative → Point → Alternative → Note → Type 0
IsSparedByRows P p n q m note = IsSparedByRow P p n q m Then note × IsSparedByRow P p n q m Else note

-- no point disturbs p's note; or the point with this number does, and none with a lesser number
abbrev pub IsSpoiler : Program → List Note → Point → Option ℕ → Type 0
IsSpoiler P notes p None = (q : Point) → IsPoint P q → Undisturbed P notes p q
IsSpoiler P notes p (Some k) =
    (q : Point) × IsPoint P q × (point_number P q ≡ k) × (Undisturbed P notes p q → ⊥)
    × ((other : Point) → IsPoint P other → point_number P other < k → Undisturbed P notes p other)

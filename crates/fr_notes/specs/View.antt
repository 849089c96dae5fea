-- What an alternative in code means.
use Rattle.std.specs.Prelude.{ℤ, map}
use Rattle.fr_program.specs.declared.range.Range.{Range}
use Rattle.fr_notes.specs.declared.note.Alternative.TheInside.{Inside}
use Rattle.fr_notes.specs.Note.{Alternative}

-- both ends of a range
abbrev pub ends_of : Range → ℤ × ℤ
ends_of range = (range.lo, range.hi)

-- the alternative with these depths, claims and ranges
abbrev pub alternative_of : Inside → Alternative
alternative_of n = record { critical = n.crit; suspended = n.susp; claims = n.claims.items; ranges = map ends_of n.ranges.items }

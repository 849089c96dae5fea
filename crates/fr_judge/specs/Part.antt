-- The parts that a certificate owes at each point, in their order.
use Rattle.std.specs.Prelude.{◌≡◌, ◌<◌, ◌⊎◌, ℕ}
use Rattle.fr_program.specs.declared.ids.Point.{Point}
use Rattle.fr_program.specs.Program.{Program}
use Rattle.fr_program.specs.Points.{point_number}
use Rattle.fr_program.specs.declared.instr.End.{End}
use Rattle.fr_program.specs.declared.instr.End.TheVariants.{Writer, Reader}
use Rattle.fr_rules.specs.declared.rules.Rule.{Rule}
use Rattle.fr_rules.specs.Rule.{number_of}
use Rattle.fr_edge.specs.Own.{Entry, KeepsRule, Goes}
use Rattle.fr_effects.specs.Undisturbed.{Undisturbed}
use Rattle.fr_ends.specs.Certificate.{Certificate}
use Rattle.fr_ends.specs.Guarded.{Guarded, Near}

-- one part: the entry, a rule, the way to a point, the guard of an end, a delete at another point, another point's steps
pub data Part : Type 0 where
  EntryPart : Part
  RulePart : (rule : Rule) → Part
  GoesPart : (to : Point) → Part
  GuardPart : (buffer : ℕ) (end : End) → Part
  NearPart : (other : Point) → Part
  SpoiledPart : (by : Point) → Part

-- the part is kept at this point
abbrev pub IsKept : Program → Certificate → Point → Part → Type 0
IsKept P C p EntryPart = Entry P C.notes p
IsKept P C p (RulePart rule) = KeepsRule P C.notes p rule
IsKept P C p (GoesPart t) = Goes P C.notes p t
IsKept P C p (GuardPart buffer end) = Guarded P C p buffer end
IsKept P C p (NearPart q) = Near P C.notes p q
IsKept P C p (SpoiledPart q) = Undisturbed P C.notes p q

-- the writing end comes before the reading end
abbrev pub end_number : End → ℕ
end_number Writer = 0
end_number Reader = 1

-- the place of a part in the order: its kind, then its rule, point or end
abbrev pub place_in_order : Program → Part → ℕ × ℕ
place_in_order P EntryPart = (0, 0)
place_in_order P (RulePart rule) = (1, number_of rule)
place_in_order P (GoesPart t) = (2, point_number P t)
place_in_order P (GuardPart buffer end) = (3, end_number end)
place_in_order P (NearPart q) = (4, point_number P q)
place_in_order P (SpoiledPart q) = (5, point_number P q)

-- this place comes before that one
abbrev pub ComesBefore : ℕ × ℕ → ℕ × ℕ → Type 0
ComesBefore x y = (x.0 < y.0) ⊎ ((x.0 ≡ y.0) × (x.1 < y.1))

-- The verdict on an application and a certificate.
--
-- | word                          | meaning                                                              |
-- |-------------------------------|----------------------------------------------------------------------|
-- | Verdict                       | yes, or no with a point and a part                                   |
-- | KeepsAll, IsFirstPart         | a point keeps every part, or a part is the first that it doesn't     |
-- | IsCertified, IsFirstFailure   | every point does, or a point is the first that doesn't               |
-- | IsVerdict, IsVerdictOne       | which of the two it is; there is one verdict                         |
use Rattle.std.specs.Prelude.{◌≡◌, ◌<◌}
use Rattle.fr_program.specs.declared.ids.Point.{Point}
use Rattle.fr_program.specs.Program.{Program}
use Rattle.fr_program.specs.Lookup.{IsPoint}
use Rattle.fr_program.specs.Points.{point_number}
use Rattle.fr_ends.specs.Certificate.{Certificate}
use Rattle.fr_judge.specs.Part.{Part, IsKept, place_in_order, ComesBefore}

-- yes, or no with a point and a part that isn't kept there
pub data Verdict : Type 0 where
  Yes : Verdict
  No : (at : Point) (part : Part) → Verdict

-- every part is kept at the point
abbrev pub KeepsAll : Program → Certificate → Point → Type 0
KeepsAll P C p = (part : Part) → IsKept P C p part

-- the part isn't kept at the point, and all that come before it are
pub record IsFirstPart (P : Program) (C : Certificate) (p : Point) (part : Part) : Type 0 where
  pub fails : IsKept P C p part → ⊥
  pub before : (other : Part) → ComesBefore (place_in_order P other) (place_in_order P part) → IsKept P C p other

-- every part is kept at every point
abbrev pub IsCertified : Program → Certificate → Type 0
IsCertified P C = (p : Point) → IsPoint P p → KeepsAll P C p

-- the part is the first one that isn't kept at the point, and at every point before all parts are kept
pub record IsFirstFailure (P : Program) (C : Certificate) (p : Point) (part : Part) : Type 0 where
  pub point : IsPoint P p
  pub first : IsFirstPart P C p part
  pub before : (q : Point) → IsPoint P q → point_number P q < point_number P p → KeepsAll P C q

-- yes where every part is kept at every point, and else no with the first failure
abbrev pub IsVerdict : Program → Certificate → Verdict → Type 0
IsVerdict P C Yes = IsCertified P C
IsVerdict P C (No p part) = IsFirstFailure P C p part

-- an application and a certificate have one verdict
abbrev pub IsVerdictOne : Type 0
IsVerdictOne = (P : Program) (C : Certificate) (one other : Verdict) → IsVerdict P C one → IsVerdict P C other → one ≡ other

-- What a witness shows of a part is a reason: the point doesn't keep the part.
use Rattle.fr_program.specs.declared.ids.Point.{Point}
use Rattle.fr_program.specs.Program.{Program}
use Rattle.fr_program.specs.Fault.{IsFaultless}
use Rattle.fr_ends.specs.Certificate.{Certificate}
use Rattle.fr_ends.specs.Fits.{CertificateFits}
use Rattle.fr_judge.specs.Part.{Part, IsKept}
use Rattle.fr_judge.specs.Owed.{IsOwed}
use Rattle.fr_judge.specs.Told.{told_part}
use Rattle.fr_witness.specs.Witness.{Witness, Shows}

-- in an application without a fault, with a certificate that fits it: where a witness shows that a part that the point
-- owes isn't kept there, it isn't
abbrev pub ShownIsNotKept : Type 0
ShownIsNotKept =
    (P : Program) (C : Certificate) → IsFaultless P → CertificateFits P C → (p : Point) (part : Part) (w : Witness) →
    IsOwed P p part → Shows P C p (told_part part) w → IsKept P C p part → ⊥

-- The bytes have one answer: they stand for one application and for one certificate, and these have one verdict.
use Rattle.std.proofs.Common.{◌≡◌, sym, ap, ◌∙◌, subst}
use Rattle.fr_program.specs.Program.{Program}
use Rattle.fr_reader.proofs.Laws.{one_meaning as one-application}
use Rattle.fr_ends.specs.Certificate.{Certificate}
use Rattle.fr_cert.specs.Meaning.{Means as CertMeans}
use Rattle.fr_cert.proofs.Laws.{one_meaning as one-certificate}
use Rattle.fr_judge.specs.declared.part.Verdict.{Verdict as ToldVerdict}
use Rattle.fr_judge.specs.Told.{told_verdict, TellsVerdict}
use Rattle.fr_text.specs.Texts.{IsAnswerOne}
use Rattle.fr_judge.proofs.Unique.{one-verdict}

-- what is told of an application and a certificate is one
tells-one : (P : Program) (C : Certificate) (v w : ToldVerdict) → TellsVerdict P C v → TellsVerdict P C w → v ≡ w
tells-one P C v w h k = h.1 ∙ (ap told_verdict (one-verdict P C h.0 k.0 h.2 k.2) ∙ sym k.1)

pub one-answer : IsAnswerOne
one-answer app certificate P Q v w h k =
    let same = one-application app P Q h.0 k.0 in
    let moved = subst (λ R. (C : Certificate) × CertMeans R certificate C × TellsVerdict R C w) (sym same) (k.1, k.2, k.3) in
    let alike = one-certificate P certificate h.1 moved.0 h.2 moved.1 in
    (same, tells-one P h.1 v w h.3 (subst (λ D. TellsVerdict P D w) (sym alike) moved.2))

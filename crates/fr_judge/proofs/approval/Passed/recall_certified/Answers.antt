-- Guards that fit have distinct turns.
use Rattle.std.proofs.Common.{subst}
use Rattle.fr_judge.proofs.Terms.{Certified}
use Rattle.fr_judge.proofs.Telling.{fitting-distinct}
use Rattle.fr_judge.proofs.approval.Passed.recall_certified.Goals as goal

pub returns-clause-certified : goal.returns-clause-certified
returns-clause-certified c =
    let inside = c.self.inside in
    subst (λ a. Certified a.app a.certificate) c.self.view_is
    (record { faultless = c.recall_faultless.ensures; turns = fitting-distinct inside.app inside.certificate.ends c.self.invariant.fits.1.0; kept = c.self.invariant.certified })

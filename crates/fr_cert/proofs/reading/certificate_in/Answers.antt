use Rattle.std.proofs.Common.{inr}
use Rattle.fr_cert.proofs.Terms.{IfErr-weaker}
use Rattle.fr_cert.proofs.reading.certificate_in.Goals as goal

pub returns-clause-err : goal.returns-clause-err
returns-clause-err c = IfErr-weaker c.certificate_of.result _ _ (λ f fault named. inr (_, c.in_ok-object_of.ensures.ok, fault named)) c.certificate_of.ensures.err

-- What is said of the application and the certificate inside is said of those that the contract sees.
use Rattle.std.proofs.Common.{subst}
use Rattle.fr_judge.proofs.Terms.{IsSafe, TellsVerdict, Speaks}
use Rattle.fr_judge.proofs.judging.Judging.verdict.Goals as goal

pub returns-clause-verdict : goal.returns-clause-verdict
returns-clause-verdict c = subst (λ J. TellsVerdict J.app J.certificate c.judge_among.result) c.self.view_is c.judge_among.ensures.verdict

pub returns-clause-safe : goal.returns-clause-safe
returns-clause-safe c e = subst (λ J. IsSafe J.app) c.self.view_is (c.judge_among.ensures.safe e)

pub returns-clause-speaks : goal.returns-clause-speaks
returns-clause-speaks c = subst (λ J. Speaks J.app c.judge_among.result) c.self.view_is c.judge_among.ensures.speaks

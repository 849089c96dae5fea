-- The invariant says it.
use Rattle.std.proofs.Common.{subst}
use Rattle.std.specs.Prelude.{IfSome}
use Rattle.fr_judge.specs.Told.{Speaks, TellsVerdict}
use Rattle.fr_order.specs.Order.{IsOrderOf}
use Rattle.fr_outcome.proofs.judged.Judged.recall_verdict.Goals as goal

pub returns-clause-verdict : goal.returns-clause-verdict
returns-clause-verdict c = subst (λ j. TellsVerdict j.app j.certificate j.verdict) c.self.view_is c.self.invariant.verdict

pub returns-clause-waits : goal.returns-clause-waits
returns-clause-waits c = subst (λ j. IfSome j.waits (IsOrderOf j.app j.certificate)) c.self.view_is c.self.invariant.waits

pub returns-clause-speaks : goal.returns-clause-speaks
returns-clause-speaks c = subst (λ j. Speaks j.app j.verdict) c.self.view_is c.self.invariant.speaks

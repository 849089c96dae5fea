use Rattle.std.proofs.Common.{subst}
use Rattle.std.specs.Prelude.{Option, ℕ}
use Rattle.fr_worker.specs.Kept.{IsLeastFailing}
use Rattle.fr_parallel.proofs.Verdicts.{tells-yes}
use Rattle.fr_parallel.proofs.verdict.verdict_at.Goals as goal

pub returns-in-None-clause-verdict : goal.returns-in-None-clause-verdict
returns-in-None-clause-verdict c =
    let J = c.args.judging.now in
    tells-yes J.app J.certificate (subst (λ (least : Option ℕ). IsLeastFailing J.app J.certificate least) c.in-None.is c.requires.least)

-- What is judged is this application.
use Rattle.std.proofs.Common.{subst}
use Rattle.fr_rules.specs.Run.{IsSafe}
use Rattle.fr_text.proofs.text.judge_at_once.Goals as goal

pub returns-clause-safe : goal.returns-clause-safe
returns-clause-safe c e = subst IsSafe c.with.ensures.app (c.verdict.ensures.safe e)

-- What is said of the application and the certificate inside is said of those that the contract sees.
use Rattle.std.proofs.Common.{◌≡◌, Some, slice_get, subst}
use Rattle.fr_judge.proofs.Terms.{Point, points_of, TellsFirst}
use Rattle.fr_judge.proofs.judging.Judging.part_at.Goals as goal

pub returns-clause-first : goal.returns-clause-first
returns-clause-first c =
    subst (λ J. (p : Point) → slice_get (points_of J.app) c.args.number ≡ Some p → TellsFirst J.app J.certificate p c.job_among.result)
    c.self.view_is c.job_among.ensures.first

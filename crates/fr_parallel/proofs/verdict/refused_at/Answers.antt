use Rattle.fr_parallel.proofs.Verdicts.{tells-no, listed-point}
use Rattle.fr_parallel.proofs.verdict.refused_at.Goals as goal

pub returns-clause-verdict : goal.returns-clause-verdict
returns-clause-verdict c =
    let J = c.args.judging.now in
    let at = rw c.app.ensures at c.point.ensures in
    tells-no J.app J.certificate c.args.number c.point.result c.in-Some.part at (c.in-Some.ensures.first _ at) c.requires.least.2

pub returns-clause-speaks : goal.returns-clause-speaks
returns-clause-speaks c =
    (listed-point c.args.judging.now.app c.args.number c.point.result (rw c.app.ensures at c.point.ensures), c.in-Some.ensures.speaks)

pub unreachable-requires : goal.unreachable-requires
unreachable-requires c = c.requires.least.1 c.in-None.ensures.first

use Rattle.fr_instr.proofs.DirectLaws.{behind_at}
use Rattle.fr_instr.proofs.direct.behind.Goals as goal

pub returns-in-Some : goal.returns-in-Some
returns-in-Some c = behind_at c.args.text.now c.split_class.result.1.now c.in-Some.first.now c.args.byte c.in-Some.rest.now c.split_class.ensures.rest c.in-Some.ensures.cases.0 c.if-first-byte.true

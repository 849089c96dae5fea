use Rattle.fr_effects.proofs.IndexLaws.{anywhere-declared}
use Rattle.fr_effects.proofs.index.anywhere.Goals as goal

pub returns-in-Ok-clause-declared : goal.returns-in-Ok-clause-declared
returns-in-Ok-clause-declared c = anywhere-declared c.args.app.now c.none.result c.none.ensures.range c.in-Ok.anywhere c.in-Ok.ensures.says

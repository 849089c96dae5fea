-- What is found out of each line is enough.
use Rattle.fr_source.specs.Kept.{tidied}
use Rattle.fr_source.proofs.Law.{show-no-less}
use Rattle.fr_source.proofs.visible.are_kept.Goals as goal

pub returns : goal.returns
returns c = λ is.
    show-no-less (tidied c.args.program.now.variables.items c.args.lines.now c.args.marks.now c.args.aims.now) c.args.plain.now (c.keeps_all.ensures is)

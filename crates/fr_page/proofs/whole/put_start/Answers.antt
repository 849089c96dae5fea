use Rattle.fr_page.specs.Whole.{start}
use Rattle.fr_page.proofs.whole.put_start.Goals as goal

pub returns : goal.returns
unfolding start
returns c = rw (c.deref.ensures, c.deref-2.ensures, c.heading.ensures) at c.put.ensures

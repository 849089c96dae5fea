use Rattle.fr_formats.specs.Junit.{case_begins}
use Rattle.fr_formats.proofs.junit.begin_case.Goals as goal

pub returns : goal.returns
unfolding case_begins
returns c = rw (c.name.ensures, c.subject.ensures) at c.put.ensures

-- The page is that of the verdict on the two files.
use Rattle.fr_answer.proofs.commands.check.check.Goals as goal

pub returns-in-One-clause-files : goal.returns-in-One-clause-files
returns-in-One-clause-files g c = rw c.in-One.is c.check_one.ensures.files

pub returns-in-One-clause-done : goal.returns-in-One-clause-done
returns-in-One-clause-done g c = rw c.in-One.is c.check_one.ensures.done

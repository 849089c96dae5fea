use Rattle.std.proofs.lemmas.Result.{on_ok_weaker}
use Rattle.fr_program.specs.View.{program_of}
use Rattle.fr_program.proofs.FaultLemmas.{faultless}
use Rattle.fr_program.proofs.check.check_parts.Goals as goal

pub returns-clause-faultless : goal.returns-clause-faultless
returns-clause-faultless c =
    on_ok_weaker c.check_names.result (faultless (program_of c.args.parts.now) c.in_ok-check_lists.ensures.ok c.in_ok-check_code.ensures.ok) c.check_names.ensures.ok

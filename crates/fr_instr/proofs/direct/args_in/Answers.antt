use Rattle.fr_instr.specs.declared.given.TheConstants.{NOTHING}
use Rattle.fr_instr.proofs.DirectLaws.{first_read}
use Rattle.fr_instr.proofs.direct.args_in.Goals as goal

pub returns : goal.returns
returns c =
    first_read c.args.names.now c.args.places.now c.in-Some.place.now c.in-Some.places.now c.args.text.now c.in_ok-given.rest.now NOTHING c.in_ok-given.given c.more_args_in.result
    c.in-Some.ensures.cases.0 c.in_ok-given.ensures c.more_args_in.ensures

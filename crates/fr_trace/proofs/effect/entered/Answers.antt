use Rattle.fr_trace.proofs.Whys.{enter-why}
use Rattle.fr_trace.proofs.effect.entered.Goals as goal

pub returns-in-Err-clause-err : goal.returns-in-Err-clause-err
returns-in-Err-clause-err c =
    let h = c.in-Some in let k = c.in_default-unlisted_place in
    enter-why c.args.names.now _ _ _ _ _ _ c.in-Some.ensures c.in_default-unlisted_place.ensures c.in-Err.ensures.err

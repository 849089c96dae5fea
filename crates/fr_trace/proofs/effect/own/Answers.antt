use Rattle.std.proofs.Common.{refl}
use Rattle.fr_trace.proofs.effect.own.Goals as goal

pub returns-in-Err-returned-clause-err : goal.returns-in-Err-returned-clause-err
returns-in-Err-returned-clause-err c = rw c.in-Return.is (refl, λ h. c.in-Err-returned.ensures.err h.0 h.1)

pub returns-in-Err-set-clause-err : goal.returns-in-Err-set-clause-err
returns-in-Err-set-clause-err c = rw c.in-Set.is (refl, λ h. c.in-Err-set.ensures.err h.0 h.1)

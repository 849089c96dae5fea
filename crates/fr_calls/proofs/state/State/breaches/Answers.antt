-- The instruction is one of the application's.
use Rattle.std.proofs.Common.{sym}
use Rattle.fr_calls.proofs.state.State.breaches.Goals as goal

pub breaches_at-requires-clause-names : goal.breaches_at-requires-clause-names
breaches_at-requires-clause-names c = c.recall_faultless.ensures.names.things c.args.actor.0 c.in-At.pc c.in-Some.instr.now (sym c.in-Some.ensures)

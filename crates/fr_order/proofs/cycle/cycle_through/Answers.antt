use Rattle.fr_order.proofs.WalkLemmas.{found-among}
use Rattle.fr_order.proofs.cycle.cycle_through.Goals as goal

pub returns : goal.returns
returns c = found-among c.args.edges.now c.in_ok-reached.reached.items c.deref.result.now c.in_ok-found.found c.deref.ensures.value c.in_ok-reached.ensures c.in_ok-found.ensures

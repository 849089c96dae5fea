use Rattle.std.proofs.Common.{sym}
use Rattle.fr_order.proofs.WalkLemmas.{never-free, walk-starts, walk-more, walk-comes-back, walk-closes}
use Rattle.fr_order.proofs.cycle.walk.Goals as goal

pub walk-init : goal.walk-init
walk-init c = walk-starts c.args.edges.now c.args.peeled.now.rest.items c.deref.result.now c.in_ok-unvisited.unvisited.items c.new-path.result.items c.index-current.result.now (0, c.requires.some, sym c.index-current.ensures) c.deref.ensures.value c.in_ok-unvisited.ensures.items c.new-path.ensures.items

pub unreachable-requires : goal.unreachable-requires
unreachable-requires c = never-free c.args.edges.now c.args.peeled.now.order.items c.args.peeled.now.rest.items c.deref-in-Some.result.now c.walk.current c.deref-in-Some.ensures.value c.requires.peeled c.walk.invariant.inside c.in_default-blocker.ensures.none

pub walk-preserved : goal.walk-preserved
walk-preserved c = walk-more c.args.edges.now c.args.peeled.now.order.items c.args.peeled.now.rest.items c.deref-in-Some.result.now c.walk.unvisited.items c.deref-in-walk.result.now c.remove.new.self.items c.walk.path.items c.insert.new.self.items c.walk.current c.in-Some.place c.in-Some-blocker.edge c.requires.peeled c.deref-in-Some.ensures.value c.deref-in-walk.ensures.value c.remove.ensures.items c.in_ok-insert.ensures.items c.in-Some.ensures.within c.in-Some.ensures.some c.in-Some-blocker.ensures.some c.walk.invariant

pub unreachable-requires-in-None : goal.unreachable-requires-in-None
unreachable-requires-in-None c = walk-comes-back c.args.edges.now c.args.peeled.now.rest.items c.walk.unvisited.items c.deref-in-walk.result.now c.walk.path.items c.deref-2.result.now c.walk.current c.deref-in-walk.ensures.value c.deref-2.ensures.value c.walk.invariant c.in_default.ensures.none c.in-None.ensures.none

pub returns : goal.returns
returns c = walk-closes c.args.edges.now c.args.peeled.now.rest.items c.walk.unvisited.items c.walk.path.items c.deref-2.result.now c.truncate.new.self.items c.walk.current c.in-Some-arrival.last c.deref-2.ensures.value c.walk.invariant c.in-Some-arrival.ensures.within c.in-Some-arrival.ensures.some c.truncate.ensures.items

use Rattle.std.proofs.Common.{get_or}
use Rattle.fr_order.proofs.Terms.{Contains-get_or}
use Rattle.fr_order.proofs.WalkLemmas.{no-edge, back-more, back-closes}
use Rattle.fr_order.proofs.cycle.back.Goals as goal

pub steps-preserved : goal.steps-preserved
steps-preserved c =
    let edges = c.args.reached.now in
    let e = get_or edges c.in-Some.place no-edge in
    let more = back-more edges c.steps.path.items c.insert.new.self.items c.steps.current.0 c.args.first.0 e c.in_ok-insert.ensures.items (Contains-get_or edges c.in-Some.place no-edge c.in-Some.ensures.within) (c.in-Some.ensures.some no-edge) c.steps.invariant.among c.steps.invariant.leads in
    record { among = more.0; leads = more.1 }

pub returns-then-current-first : goal.returns-then-current-first
returns-then-current-first c =
    let edges = c.args.reached.now in
    let e = get_or edges c.in-Some.place no-edge in
    let more = back-more edges c.steps.path.items c.insert.new.self.items c.steps.current.0 c.args.first.0 e c.in_ok-insert.ensures.items (Contains-get_or edges c.in-Some.place no-edge c.in-Some.ensures.within) (c.in-Some.ensures.some no-edge) c.steps.invariant.among c.steps.invariant.leads in
    back-closes edges c.steps.path.items c.insert.new.self.items e e.held.0 c.args.first.0 c.in_ok-insert.ensures.items c.if-current-first.true more.0 more.1

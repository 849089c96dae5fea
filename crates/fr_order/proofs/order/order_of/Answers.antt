use Rattle.fr_order.proofs.EdgeLemmas.{order-of-passed, order-names}
use Rattle.fr_order.proofs.order.order_of.Goals as goal

pub returns : goal.returns
returns c = record {
  order = order-of-passed c.args.app.now c.args.certificate.now (record { notes = c.certificate.inside.notes; ends = c.certificate.inside.ends }) c.in_ok-edges.edges.items c.deref.result.now c.in_ok-order.order c.recall_faultless.ensures c.certificate.view_is c.deref.ensures.value c.in_ok-edges.ensures.edges c.in_ok-edges.ensures.all c.in_ok-order.ensures;
  names = order-names c.args.app.now c.certificate.inside.notes c.in_ok-edges.edges.items c.deref.result.now c.in_ok-order.order c.deref.ensures.value c.in_ok-edges.ensures.edges c.in_ok-order.ensures;
}

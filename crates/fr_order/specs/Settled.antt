-- For private clauses: whether edges go upwards in some order, or close a cycle.
use Rattle.std.specs.Prelude.{List, All}
use Rattle.fr_order.specs.declared.edge.Edge.{Edge}
use Rattle.fr_order.specs.declared.order.Order.{Order}
use Rattle.fr_order.specs.declared.order.Order.TheVariants.{Upwards, Cycle}
use Rattle.fr_order.specs.Graph.{ComesBefore, IsCycleOf}
use Rattle.fr_order.specs.Peeled.{AreEnds}

-- the ends of the edges in an order in which each edge goes upwards, or a cycle of some of them
abbrev pub IsSettled : List Edge → Order → Type 0
IsSettled edges (Upwards mutexes) = All (λ e. ComesBefore mutexes.items e.held.0 e.taken.0) edges × AreEnds edges mutexes.items
IsSettled edges (Cycle cycle) = IsCycleOf edges cycle.items

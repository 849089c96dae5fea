-- Every state of every run of a certified application keeps the notes; so where each edge goes upwards, none is deadlocked.
use Rattle.fr_judge.specs.Sound.{IsSound}
use Rattle.fr_order.proofs.Terms.{OrderExcludesDeadlock}
use Rattle.fr_order.proofs.Climbs.{no-deadlock}

pub order-excludes : IsSound → OrderExcludesDeadlock
order-excludes sound P C certified mutexes up run is S among deadlocked =
    let keeps = (sound P C certified).1 run is S among in
    no-deadlock P C.notes mutexes up S keeps.formed keeps.notes deadlocked

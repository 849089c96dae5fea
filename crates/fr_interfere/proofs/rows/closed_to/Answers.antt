use Rattle.fr_interfere.proofs.ClosedLaws.{none-closed}
use Rattle.fr_interfere.proofs.rows.closed_to.Goals as goal

pub returns-in_default : goal.returns-in_default
returns-in_default c = λ p here. none-closed c.args.app.now c.args.notes.now p 32

pub returns-then-not-asks_blocks : goal.returns-then-not-asks_blocks
returns-then-not-asks_blocks c = λ p here. none-closed c.args.app.now c.args.notes.now p 32

pub closed_actors-requires-clause-each : goal.closed_actors-requires-clause-each
closed_actors-requires-clause-each c = rw c.deref.ensures.value (c.requires.hulls c.in-Some.hulls c.in-Some.is).each

pub closed_actors-requires-clause-found : goal.closed_actors-requires-clause-found
closed_actors-requires-clause-found c = rw c.deref.ensures.value (c.requires.hulls c.in-Some.hulls c.in-Some.is).found

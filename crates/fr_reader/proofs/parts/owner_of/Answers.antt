use Rattle.fr_reader.proofs.OwnerLemmas.{owner_found, owner_missing}
use Rattle.fr_reader.proofs.parts.owner_of.Goals as goal

pub returns-in-Some-actor-clause-ok : goal.returns-in-Some-actor-clause-ok
returns-in-Some-actor-clause-ok c = owner_found c.args.names.now.actors c.args.owner c.in-Some.name c.in-Some-actor.actor c.in-Some.is c.in-Some-actor.ensures

pub returns-in-None-clause-err : goal.returns-in-None-clause-err
returns-in-None-clause-err c named = owner_missing c.args.names.now.actors c.args.table c.args.owner c.in-Some.name c.in-Some.is c.in-None.ensures

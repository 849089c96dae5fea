-- The chain gives the names of the variables, then those of the objects, then those of the actors.
use Rattle.std.proofs.Common.{string_bytes, rules}
use Rattle.std.proofs.lemmas.Iterator.{YieldsList-from_slice, YieldsList-from_map_by}
use Rattle.std.proofs.lemmas.Iterator.Consumers.{YieldsList-at, YieldsList-from_chain, map_from_collect}
use Rattle.std.proofs.lemmas.Result.{IfOk-at_ok}
use Rattle.fr_program.specs.declared.parts.Variable.{Variable}
use Rattle.fr_program.specs.declared.parts.Object.{Object}
use Rattle.fr_program.specs.declared.parts.Actor.{Actor}
use Rattle.fr_program.specs.View.{variable_of, object_of, actor_of}
use Rattle.fr_program.proofs.ListLemmas.{map_map}
use Rattle.fr_program.proofs.check.names.names_of.Goals as goal

pub returns-clause-ok : goal.returns-clause-ok
returns-clause-ok c =
    let parts = c.args.parts.now in
    let same = IfOk-at_ok _ c.in_ok-collect.was (map_from_collect c.collect.result c.collect.ensures.ran
    (YieldsList-from_chain
    (YieldsList-at c.chain-2.ensures.first (YieldsList-from_map_by _ (λ s. s.now) (λ (v : Variable). string_bytes v.name) (YieldsList-at c.map-variables.ensures.source (YieldsList-from_slice parts.variables.items cc)) c.map-variables.ensures.closure (λ x r q k. search rules)))
    (YieldsList-at c.chain-2.ensures.second (YieldsList-from_chain
    (YieldsList-at c.chain.ensures.first (YieldsList-from_map_by _ (λ s. s.now) (λ (o : Object). string_bytes o.name) (YieldsList-at c.map-objects.ensures.source (YieldsList-from_slice parts.objects.items cc)) c.map-objects.ensures.closure (λ x r q k. search rules)))
    (YieldsList-at c.chain.ensures.second (YieldsList-from_map_by _ (λ s. s.now) (λ (a : Actor). string_bytes a.name) (YieldsList-at c.map-actors.ensures.source (YieldsList-from_slice parts.actors.items cc)) c.map-actors.ensures.closure (λ x r q k. search rules)))
    c.chain.ensures.first_done c.chain.ensures.second_done))
    c.chain-2.ensures.first_done c.chain-2.ensures.second_done)) in
    rw (map_map variable_of (λ v. v.name) parts.variables.items, map_map object_of (λ o. o.name) parts.objects.items, map_map actor_of (λ a. a.name) parts.actors.items) same

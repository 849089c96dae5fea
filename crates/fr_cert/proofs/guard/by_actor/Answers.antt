use Rattle.std.proofs.Common.{◌≡◌, ◌++◌, ◌∷◌, [], ℤ, map, append-nil, append_assoc, sym, ap, ◌∙◌, rules, arith}
use Rattle.fr_cert.proofs.Terms.{ActorId, value_for, value_of, rising}
use Rattle.fr_cert.proofs.TurnLemmas.{IsByNumber, same_number, turn_more}
use Rattle.fr_cert.proofs.guard.by_actor.Goals as goal

pub loop-actor-init : goal.loop-actor-init
loop-actor-init c =
    let law : IsByNumber _ = ((λ x y e. search rules), (λ x y. same_number x.0 y.0)) in
    ([], sym (append-nil _), (λ a. ap (λ es. value_for (map value_of es) a) c.new-values.ensures.empty), rising _ law.0 _ c.new-values.ensures.ordered)

pub loop-actor-preserved : goal.loop-actor-preserved
loop-actor-preserved c =
    let law : IsByNumber _ = ((λ x y e. search rules), (λ x y. same_number x.0 y.0)) in
    let inv = c.loop-actor.invariant in
    let x : ActorId × ℤ = (c.in-Some.actor, c.in-Some.number) in
    let taken : c.loop-actor.given.items ≡ c.pop.new.self.items ++ x ∷ [] = c.in-Some.ensures.items in (
      x ∷ inv.0,
      inv.1 ∙ (ap (λ xs. xs ++ inv.0) taken ∙ append_assoc c.pop.new.self.items (x ∷ []) inv.0),
      turn_more _ law c.loop-actor.values c.insert.new.self x _ inv.0 (search rules) c.in_ok-insert.ensures.updates.0 inv.2,
      rising _ law.0 _ c.in_ok-insert.ensures.ordered,
    )

pub returns-clause-rising : goal.returns-clause-rising
returns-clause-rising c = c.loop-actor.invariant.3

pub returns-clause-same : goal.returns-clause-same
returns-clause-same c =
    let inv = c.loop-actor.invariant in
    let none : c.loop-actor.given.items ≡ [] = grind arith in
    λ a. inv.2 a ∙ ap (λ es. value_for (map value_of es) a) (sym (inv.1 ∙ ap (λ xs. xs ++ inv.0) none))

use Rattle.std.proofs.Common.{◌≡◌, ◌∙◌, true, length, sym, ap}
use Rattle.std.proofs.lemmas.Bool.{false≢true}
use Rattle.fr_ends.specs.Tests.{are_turn_values}
use Rattle.fr_ends.proofs.TurnLemmas.{fit_from, fit_to_actors, fit_to_distinct}
use Rattle.fr_ends.proofs.fits.values_fit.Goals as goal

pub returns-then-are_turn_values : goal.returns-then-are_turn_values
returns-then-are_turn_values c x =
    let n = length c.args.app.now.actors in
    let es = c.args.values.now.entries in
    let actors : are_turn_values n es ≡ true = ap (λ k. are_turn_values k es) (sym c.actor_count.ensures) ∙ (sym c.are_turn_values.ensures ∙ c.if-are_turn_values.true) in (
      (λ t. fit_from n x es c.are_distinct.ensures.rising actors (sym c.are_distinct.ensures.distinct ∙ t)),
      (λ fit. c.are_distinct.ensures.distinct ∙ fit_to_distinct n x es fit),
    )

pub returns-else-are_turn_values : goal.returns-else-are_turn_values
returns-else-are_turn_values c x =
    let n = length c.args.app.now.actors in
    let es = c.args.values.now.entries in (
      (λ t. absurd (false≢true (sym c.if-are_turn_values.false ∙ t))),
      (λ fit. c.are_turn_values.ensures ∙ (ap (λ k. are_turn_values k es) c.actor_count.ensures ∙ fit_to_actors n x es fit)),
    )

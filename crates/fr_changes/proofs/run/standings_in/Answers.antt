-- Each turn adds where the next actor is.
use Rattle.std.proofs.Common.{◌≡◌, ◌+◌, ◌++◌, ◌∷◌, [], All, map, rules, subst, sym, take}
use Rattle.std.proofs.lemmas.List.Elements.{All-push}
use Rattle.fr_changes.specs.Explained.{IsIn}
use Rattle.fr_changes.proofs.RunLemmas.{is-in, one-more}
use Rattle.fr_wording.specs.declared.standing.Standing.{Standing}
use Rattle.fr_changes.proofs.run.standings_in.Goals as goal

pub loop-actor-preserved : goal.loop-actor-preserved
loop-actor-preserved c =
    let P = c.args.app.now in
    let S = c.args.state.now in
    let was = c.loop-actor.lasts.items in
    let last = c.in_ok-standing_in.field-0 in
    let pushed : c.push.new.self.items ≡ was ++ last ∷ [] = search rules in
    let placed = c.in_ok-standing_in.ensures.placed in
    record {
      actors = subst (λ lasts. map (λ s. s.actor) lasts ≡ take (c.loop-actor.actor-index + 1) c.args.actors.now) (sym pushed)
          (one-more (λ (s : Standing). s.actor) was last c.args.actors.now c.loop-actor.actor-index _ c.loop-actor.invariant.actors placed.0 c.loop-actor-test.true);
      places = subst (All (IsIn P S)) (sym pushed)
          (All-push (IsIn P S) was last c.loop-actor.invariant.places (is-in P S _ last placed c.in_ok-standing_in.ensures.place));
    }

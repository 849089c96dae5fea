use Rattle.std.proofs.Common.{get_or, refl, ◌∙◌, subst, arith, ⊎_elim}
use Rattle.std.specs.Prelude.{All}
use Rattle.fr_interfere.proofs.Terms.{cases_lt, get_or_default, Covers}
use Rattle.fr_effects.proofs.Lists.{item-fits}
use Rattle.fr_interfere.proofs.hull.Hull.cover_note.Goals as goal

pub loop-alternative-init : goal.loop-alternative-init
loop-alternative-init c = record { actor = refl; variable = refl; covers = λ k d l. absurd (omega (arith, l)); keeps = λ e m covers. covers }

pub cover-requires-clause-alternative : goal.cover-requires-clause-alternative
cover-requires-clause-alternative c =
    item-fits c.args.app.now c.alternatives-alternative-items.result.now c.args.note.now c.loop-alternative.alternative-index c.alternative-item.result c.alternatives-alternative-items.ensures
    c.loop-alternative-test.true c.alternative-item.is c.requires.note

pub loop-alternative-preserved : goal.loop-alternative-preserved
loop-alternative-preserved c = record {
  actor = c.cover.ensures.actor ∙ c.loop-alternative.invariant.actor;
  variable = c.cover.ensures.variable ∙ c.loop-alternative.invariant.variable;
  covers = λ k d l. ⊎_elim
      (λ before. c.cover.ensures.keeps c.args.effect _ (c.loop-alternative.invariant.covers k d before))
      (λ last.
      let items = c.alternatives-alternative-items.result.now in
      let i = c.loop-alternative.alternative-index in
      let same = c.alternative-item.is ∙ get_or_default items i c.alternative-item.result d c.loop-alternative-test.true in
      let here = subst (λ n. Covers c.cover.new.self c.args.effect n) same c.cover.ensures.covers in
      subst (λ j. Covers c.cover.new.self c.args.effect (get_or items j d)) (omega (arith, l, last)) here)
      (cases_lt k c.loop-alternative.alternative-index);
  keeps = λ e m covers. c.cover.ensures.keeps e m (c.loop-alternative.invariant.keeps e m covers);
}

pub returns-clause-covers : goal.returns-clause-covers
returns-clause-covers c =
    subst (λ ns. All (λ m. Covers c.loop-alternative.self c.args.effect m) ns) c.alternatives-alternative-items.ensures
    (λ k d l. c.loop-alternative.invariant.covers k d (omega (arith, l, c.loop-alternative-test.false)))

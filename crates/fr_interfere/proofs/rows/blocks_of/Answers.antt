use Rattle.std.proofs.Common.{◌≡◌, [], ◌∷◌, ◌++◌, get_or, sym, ◌∙◌, subst, arith, ⊎_elim}
use Rattle.std.specs.Prelude.{◌<◌, All, Any, Contains}
use Rattle.fr_interfere.proofs.Terms.{cases_lt, get_or_default, All-push, point_number, IsBlock}
use Rattle.std.proofs.lemmas.List.Quantifiers.{Any-push}
use Rattle.fr_program.proofs.ListLemmas.{Any-left}
use Rattle.fr_interfere.proofs.RowLaws.{run-listed, in-run}
use Rattle.fr_interfere.proofs.rows.blocks_of.Goals as goal

pub loop-from-init : goal.loop-from-init
loop-from-init c = record {
  within = omega arith;
  each = subst (λ bs. All (λ b. IsBlock c.args.app.now c.args.notes.now b) bs) (sym c.new-blocks.ensures.items) (λ k d l. absurd (omega (arith, l)));
  found = λ j l. absurd (omega (arith, l));
}

pub of-requires-clause-listed : goal.of-requires-clause-listed
of-requires-clause-listed c =
    let b = c.behind_actor-behind in
    run-listed c.args.numbers.now c.loop-from.from b.result b.ensures.above b.ensures.most c.args.app.now c.requires.listed

pub loop-from-preserved : goal.loop-from-preserved
loop-from-preserved c =
    let P = c.args.app.now in
    let numbers = c.args.numbers.now in
    let b = c.behind_actor-behind in
    let old = c.loop-from.blocks.items in
    let new = c.in_ok-of.field-0 in
    let more : old ++ new ∷ [] ≡ c.push.new.self.items = sym c.in_ok-push.ensures.items in
    record {
      within = b.ensures.most;
      each = subst (λ bs. All (λ k. IsBlock P c.args.notes.now k) bs) more
          (All-push (λ k. IsBlock P c.args.notes.now k) old new c.loop-from.invariant.each c.in_ok-of.ensures.block);
      found = λ j l. subst (λ bs. Any (λ k. Contains k.numbers.items (get_or numbers j 0)) bs) more (⊎_elim
          (λ before. Any-left (λ k. Contains k.numbers.items (get_or numbers j 0)) old (new ∷ []) (c.loop-from.invariant.found j before))
          (λ here. Any-push (λ k. Contains k.numbers.items (get_or numbers j 0)) old new
          (subst (λ ns. Contains ns (get_or numbers j 0)) (sym c.in_ok-of.ensures.numbers) (in-run numbers c.loop-from.from b.result b.ensures.above b.ensures.most j here l)))
          (cases_lt j c.loop-from.from));
    }

pub returns-clause-each : goal.returns-clause-each
returns-clause-each c = c.loop-from.invariant.each

pub returns-clause-found : goal.returns-clause-found
returns-clause-found c = λ q there (i, l, is).
    let n = point_number c.args.app.now q in
    let numbers = c.args.numbers.now in
    let same = get_or_default numbers i 0 n l ∙ is in
    let far : i < c.loop-from.from = omega (arith, l, c.loop-from-test.false) in
    subst (λ k. Any (λ b. Contains b.numbers.items k) c.loop-from.blocks.items) same (c.loop-from.invariant.found i far)

use Rattle.std.proofs.Common.{◌≡◌, [], ◌∷◌, ◌++◌, sym, subst, arith, ⊎_elim}
use Rattle.std.specs.Prelude.{◌<◌, ◌≤◌, All}
use Rattle.fr_interfere.proofs.Terms.{cases_lt, All-push, Run, IsRun, IsInRun}
use Rattle.std.proofs.lemmas.List.Quantifiers.{Any-push}
use Rattle.fr_program.proofs.ListLemmas.{Any-left}
use Rattle.fr_interfere.proofs.rows.runs_of.Goals as goal

pub loop-from-init : goal.loop-from-init
loop-from-init c = record {
  within = omega arith;
  each = subst (λ rs. All (λ r. IsRun c.args.numbers.now r) rs) (sym c.new-runs.ensures.items) (λ k d l. absurd (omega (arith, l)));
  found = λ j l. absurd (omega (arith, l));
}

pub loop-from-preserved : goal.loop-from-preserved
loop-from-preserved c =
    let numbers = c.args.numbers.now in
    let b = c.behind_actor-behind in
    let old = c.loop-from.runs.items in
    let new : Run = record { from = c.loop-from.from; behind = b.result } in
    let more : old ++ new ∷ [] ≡ c.push.new.self.items = sym c.in_ok-push.ensures.items in
    record {
      within = b.ensures.most;
      each = subst (λ rs. All (λ r. IsRun numbers r) rs) more (All-push (λ r. IsRun numbers r) old new c.loop-from.invariant.each (b.ensures.above, b.ensures.most));
      found = λ j l. subst (λ rs. IsInRun rs j) more (⊎_elim
          (λ before. Any-left (λ (r : Run). (r.from ≤ j) × (j < r.behind)) old (new ∷ []) (c.loop-from.invariant.found j before))
          (λ here. Any-push (λ (r : Run). (r.from ≤ j) × (j < r.behind)) old new (here, l))
          (cases_lt j c.loop-from.from));
    }

pub returns-clause-each : goal.returns-clause-each
returns-clause-each c = c.loop-from.invariant.each

pub returns-clause-found : goal.returns-clause-found
returns-clause-found c = λ j l. c.loop-from.invariant.found j (omega (arith, l, c.loop-from-test.false))

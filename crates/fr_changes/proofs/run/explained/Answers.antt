-- Each turn takes the next step from the state that the others lead to.
use Rattle.std.proofs.Common.{◌≡◌, ◌+◌, ◌++◌, ◌∷◌, [], rules, subst, sym, take}
use Rattle.fr_rules.specs.State.{start}
use Rattle.fr_changes.specs.declared.changes.ExplainedStep.{ExplainedStep}
use Rattle.fr_changes.specs.Explained.{steps_in, AreExplained}
use Rattle.fr_changes.proofs.RunLemmas.{explained-more, one-more}
use Rattle.fr_changes.proofs.run.explained.Goals as goal

pub loop-step-preserved : goal.loop-step-preserved
loop-step-preserved c =
    let P = c.args.app.now in
    let was = c.loop-step in
    let told = c.in_ok-step_told.field-0 in
    let state = c.step_told.new.state in
    let pushed : c.push.new.self.items ≡ was.steps.items ++ told ∷ [] = search rules in
    record {
      formed = c.in_ok-step_told.ensures.formed;
      steps = subst (λ steps. steps_in steps ≡ take (was.step-index + 1) c.args.taken.now) (sym pushed)
          (one-more (λ (s : ExplainedStep). s.taken) was.steps.items told c.args.taken.now was.step-index _ was.invariant.steps c.in_ok-step_told.ensures.step c.loop-step-test.true);
      states = subst (λ steps. AreExplained P (start P) steps state) (sym pushed)
          (explained-more P (start P) was.state state was.steps.items told was.invariant.states c.in_ok-step_told.ensures.before c.in_ok-step_told.ensures.after);
    }

-- No entry leads from the start to the start, which keeps the notes, and takes no poll.
use Rattle.std.proofs.Common.{◌≡◌, sym, ◌∙◌, ap, subst}
use Rattle.fr_rules.specs.State.{start}
use Rattle.fr_judge.specs.Sound.{KeepsNotes}
use Rattle.fr_runner.specs.Trace.{Replays}
use Rattle.fr_runner.proofs.Replaying.{polls-at-first}
use Rattle.fr_runner.proofs.machine.Machine.new.Goals as goal

pub invariant_of-result : goal.invariant_of-result
invariant_of-result c =
    let P = c.args.passed.now.app in
    let C = c.args.passed.now.certificate in
    let begins : c.in_ok-state.state ≡ start P = c.in_ok-state.ensures ∙ ap start c.app.ensures in
    record {
      replays = subst (λ es. Replays P c.in_ok-words.words.items 0 (start P) es c.in_ok-state.state) (sym c.new.ensures.items) begins;
      notes = subst (λ S. KeepsNotes P C S) (sym begins) (c.the_start_keeps_notes.ensures P C c.recall_certified.ensures.certified);
      count = polls-at-first _ _ c.new.ensures.items;
    }

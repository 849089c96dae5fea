-- The new entry is true from the state before it, so that with it the entries replay to the state after it; and it takes a
-- poll that was left.
use Rattle.std.proofs.Common.{◌≡◌, ◌<◌, ◌+◌, ◌-◌, ◌++◌, ◌∷◌, [], length, sym, ◌∙◌, ap, subst, arith}
use Rattle.fr_rules.specs.State.{start}
use Rattle.fr_runner.specs.Machine.{MachineOf}
use Rattle.fr_runner.specs.Trace.{IsEntry, Replays, word_at}
use Rattle.fr_runner.proofs.Replaying.{replays-push, polls-add-up}
use Rattle.fr_runner.proofs.machine.Machine.poll.Goals as goal

pub invariant_of-self-2 : goal.invariant_of-self-2
invariant_of-self-2 c =
    let old = c.self.inside in
    let P = old.passed.now.app in
    let words = old.words.items in
    let entries = old.entries.items in
    let e = c.in_ok-entry.entry in
    let T = c.turn.new.state in
    let kept = c.in_ok-reserve.ensures.items in
    let number : c.len.result ≡ 0 + length entries = omega (arith, c.len.ensures, c.in_ok-reserve.ensures.len, old.entries.ok.0) in
    let word : c.word_at-word.result ≡ word_at words (0 + length entries) = c.word_at-word.ensures ∙ ap (λ ws. word_at ws c.len.result) c.deref.ensures.value ∙ ap (word_at words) number in
    let is = subst (λ w. IsEntry P w old.state e T) word c.in_ok-entry.ensures.entry in
    let more = replays-push P words 0 (start P) entries old.state e T c.self.invariant.replays is in
    let items = c.push_reserved.ensures.items ∙ ap (λ es. es ++ e ∷ []) kept in
    let seen : c.left.result ≡ old.polls - length entries = c.left.ensures.left ∙ ap (λ (m : MachineOf). m.left) (sym c.self.view_is) in
    let left : length entries < old.polls = omega (arith, seen, c.if-left-eq0.false) in
    record {
      replays = subst (λ es. Replays P words 0 (start P) es T) (sym items) more;
      notes = c.in_ok-entry.ensures.notes;
      count = polls-add-up entries _ e old.polls items left;
    }

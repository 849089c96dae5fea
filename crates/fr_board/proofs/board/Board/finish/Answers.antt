use Rattle.std.proofs.Common.{ℕ, ap, ◌∙◌, ◌<◌, subst}
use Rattle.fr_board.specs.Values.{BoardValue, PassValue}
use Rattle.fr_board.specs.Tally.{EndedWith, AnswersBy}
use Rattle.fr_board.proofs.Ends.{ended_drew, ended_tally, ended_looked, ended_unfinished, ended_whole}
use Rattle.fr_board.proofs.board.Board.finish.Goals as goal

pub returns-clause-tally : goal.returns-clause-tally
returns-clause-tally c =
    let e = subst (λ (z : BoardValue × PassValue). EndedWith z.0.jobs z.0.seats c.last_words-done.result.0 c.last_words-done.result.1 c.pass.inside.seat.id z.1.progress) (λ i. (c.self.view_is i, c.pass.view_is i)) c.last_words-done.ensures in
    let a = subst (λ (k : ℕ). AnswersBy k c.last_words-done.result.0 c.last_words-done.result.1 c.answer.result) (c.self.invariant.2 ∙ ap (λ b. b.jobs) c.self.view_is) c.answer.ensures in
    ended_tally _ _ _ _ _ _ e _ a

pub returns-clause-looked : goal.returns-clause-looked
returns-clause-looked c =
    let e = subst (λ (z : BoardValue × PassValue). EndedWith z.0.jobs z.0.seats c.last_words-done.result.0 c.last_words-done.result.1 c.pass.inside.seat.id z.1.progress) (λ i. (c.self.view_is i, c.pass.view_is i)) c.last_words-done.ensures in
    let a = subst (λ (k : ℕ). AnswersBy k c.last_words-done.result.0 c.last_words-done.result.1 c.answer.result) (c.self.invariant.2 ∙ ap (λ b. b.jobs) c.self.view_is) c.answer.ensures in
    ended_looked _ _ _ _ _ _ e (subst (λ (z : PassValue). 0 < z.progress.weight) c.pass.view_is c.pass.invariant.1) _ a

pub returns-clause-unfinished : goal.returns-clause-unfinished
returns-clause-unfinished c =
    let e = subst (λ (z : BoardValue × PassValue). EndedWith z.0.jobs z.0.seats c.last_words-done.result.0 c.last_words-done.result.1 c.pass.inside.seat.id z.1.progress) (λ i. (c.self.view_is i, c.pass.view_is i)) c.last_words-done.ensures in
    let a = subst (λ (k : ℕ). AnswersBy k c.last_words-done.result.0 c.last_words-done.result.1 c.answer.result) (c.self.invariant.2 ∙ ap (λ b. b.jobs) c.self.view_is) c.answer.ensures in
    ended_unfinished _ _ _ _ _ _ e _ a

pub returns-clause-drew_each : goal.returns-clause-drew_each
returns-clause-drew_each c =
    let e = subst (λ (z : BoardValue × PassValue). EndedWith z.0.jobs z.0.seats c.last_words-done.result.0 c.last_words-done.result.1 c.pass.inside.seat.id z.1.progress) (λ i. (c.self.view_is i, c.pass.view_is i)) c.last_words-done.ensures in
    ended_drew _ _ _ _ _ _ e

pub returns-clause-whole : goal.returns-clause-whole
returns-clause-whole c =
    let e = subst (λ (z : BoardValue × PassValue). EndedWith z.0.jobs z.0.seats c.last_words-done.result.0 c.last_words-done.result.1 c.pass.inside.seat.id z.1.progress) (λ i. (c.self.view_is i, c.pass.view_is i)) c.last_words-done.ensures in
    let a = subst (λ (k : ℕ). AnswersBy k c.last_words-done.result.0 c.last_words-done.result.1 c.answer.result) (c.self.invariant.2 ∙ ap (λ b. b.jobs) c.self.view_is) c.answer.ensures in
    ended_whole _ _ _ _ _ _ e _ a

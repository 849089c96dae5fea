-- The status of a refusal.
use Rattle.std.proofs.Common.{◌==◌, ◌≡◌, ◌≤◌, Result, Ok, Err, IfOk, subst, sym}
use Rattle.fr_traces.proofs.Terms.{AnswerKind, kind_status, TraceAnswer}
use Rattle.fr_outcome.specs.Checked.{fault_status}
use Rattle.fr_traces.proofs.Following.{refused-least}
use Rattle.fr_traces.proofs.answers.answer_of.Goals as goal

least : {E : Type 0} (kind : AnswerKind) (r : Result TraceAnswer E) → 2 ≤ kind_status kind → IfOk r (λ answer. answer.kind ≡ kind) → IfOk r (λ answer. 2 ≤ kind_status answer.kind)
least kind (Ok answer) h is = subst (λ k. 2 ≤ kind_status k) (sym is) h
least kind (Err e) h is = tt

pub returns-clause-least : goal.returns-clause-least
returns-clause-least c = least _ c.answer_with.result (refused-least (fault_status c.in_ok-new.field-0.fault == 2)) c.answer_with.ensures.kind

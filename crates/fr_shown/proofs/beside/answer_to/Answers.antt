-- Where memory is refused there is no answer, of which nothing is promised.
use Rattle.std.proofs.Common.{◌≡◌, ◌≤◌, Result, Ok, Err, IfOk, IfErr, subst, sym}
use Rattle.std.proofs.lemmas.Result.{err_from_is_err_and}
use Rattle.fr_outcome.specs.Answers.{what_status}
use Rattle.fr_shown.proofs.beside.answer_to.Goals as goal

-- of an answer that isn't there nothing is promised
no-answer : {X E T Y : Type 0} (found : Result X E) (r : Result T Y) (P : T → Type 0) (y : Y) → r ≡ Err y → IfErr found (λ _. IfOk r P)
no-answer (Ok x) r P y e = tt
no-answer (Err f) r P y e = subst (λ x. IfOk x P) (sym e) tt

pub returns-in_err-beside-clause-refused : goal.returns-in_err-beside-clause-refused
returns-in_err-beside-clause-refused c =
    let p = err_from_is_err_and c.from_residual-in_err-beside.result c.from_residual-in_err-beside.ensures.1 in
    no-answer c.args.found c.from_residual-in_err-beside.result (λ a. 2 ≤ what_status a.what) p.0 p.1

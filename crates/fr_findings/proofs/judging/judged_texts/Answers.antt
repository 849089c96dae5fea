-- A fault of the bytes is handed on as it comes.
use Rattle.std.proofs.Common.{ap, Err}
use Rattle.std.proofs.lemmas.Result.{err_from_is_err_and}
use Rattle.fr_findings.proofs.Refusals.{refused-by}
use Rattle.fr_findings.proofs.judging.judged_texts.Goals as goal

pub returns-in_err-reading-clause-refused : goal.returns-in_err-reading-clause-refused
returns-in_err-reading-clause-refused g c =
    let p = err_from_is_err_and c.from_residual.result c.from_residual.ensures.1 in
    rw (p.1, p.2) (refused-by c.args.app.now c.args.certificate.now c.args.workers c.in_err-reading.field-0.0 c.in_err-reading.ensures.fault
    (λ e. c.in_err-reading.ensures.workers.0 (ap Err e)))

pub returns-clause-judged : goal.returns-clause-judged
returns-clause-judged g c =
    let waits = c.in_ok-waits.ensures in
    rw (c.in_ok-new.ensures, c.new-judged.ensures.app, c.new-judged.ensures.certificate, c.new-judged.ensures.verdict, c.new-judged.ensures.waits, c.new-judged.ensures.why)
    (c.in_ok-reading.ensures.judged.0, c.in_ok-reading.ensures.means, c.in_ok-reading.ensures.verdict, waits.order, waits.answered, c.in_ok-why.ensures.yes)

-- The line names a certificate, or none.
use Rattle.std.proofs.Common.{◌≤◌, ap, subst, sym, IfOk}
use Rattle.std.specs.Prelude.{option_copied}
use Rattle.fr_answer.proofs.Terms.{beside, what_status, Reads, IsAnswerBy}
use Rattle.fr_answer.proofs.Showing.{line-by}
use Rattle.fr_answer.proofs.commands.list.answer_line.Goals as goal

pub returns-in-Some-clause-by : goal.returns-in-Some-clause-by
returns-in-Some-clause-by g c =
    let reads = Reads (g.F.Files.Gives c.args.files.now) g.F.Files.Means in
    let list = c.args.list.now in
    let app = c.args.listed.application.now in
    line-by reads c.args.ways.deadlock list app (option_copied c.args.listed.certificate) c.checked_line.result
    (subst (λ o. IfOk c.checked_line.result (λ a. what_status a.what ≤ 1 → IsAnswerBy reads c.args.ways.deadlock list (beside list app) o a.what)) (sym (ap option_copied c.in-Some.is)) c.checked_line.ensures.by)

pub returns-in-None-clause-by : goal.returns-in-None-clause-by
returns-in-None-clause-by g c =
    let reads = Reads (g.F.Files.Gives c.args.files.now) g.F.Files.Means in
    let list = c.args.list.now in
    let app = c.args.listed.application.now in
    line-by reads c.args.ways.deadlock list app (option_copied c.args.listed.certificate) c.proved_line.result
    (subst (λ o. IfOk c.proved_line.result (λ a. what_status a.what ≤ 1 → IsAnswerBy reads c.args.ways.deadlock list (beside list app) o a.what)) (sym (ap option_copied c.in-None.is)) c.proved_line.ensures.by)

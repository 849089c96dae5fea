-- The answer is the verdict on both files.
use Rattle.std.proofs.Common.{◌∙◌, subst, IfOk, Some}
use Rattle.fr_answer.proofs.Terms.{beside, Reads, IsAnswerBy, IsCheckOf}
use Rattle.fr_answer.proofs.Showing.{line-found}
use Rattle.fr_answer.proofs.commands.list.checked_line.Goals as goal

pub returns-clause-by : goal.returns-clause-by
returns-clause-by g c =
    let reads = Reads (g.F.Files.Gives c.args.files.now) g.F.Files.Means in
    let list = c.args.list.now in
    let found = c.checked_files-found.result in
    let app-is = c.deref.ensures ∙ c.in_ok-app.ensures in
    let certificate-is = c.deref-2.ensures ∙ c.in_ok-certificate.ensures in
    let one = subst (λ a. IfOk found (λ r. IsCheckOf reads c.args.ways.deadlock a c.deref-2.result.now r.1)) app-is c.checked_files-found.ensures.verdict in
    let both = subst (λ b. IfOk found (λ r. IsCheckOf reads c.args.ways.deadlock (beside list c.args.app.now) b r.1)) certificate-is one in
    line-found (IsAnswerBy reads c.args.ways.deadlock list (beside list c.args.app.now) (Some c.args.certificate.now)) found c.answer_to.result c.answer_to.ensures.found both

-- The answer is what was proved.
use Rattle.std.proofs.Common.{◌∙◌, subst, IfOk, None, List, ℕ, true}
use Rattle.fr_answer.proofs.Terms.{beside, Reads, IsAnswerBy, IsProofAt}
use Rattle.fr_answer.proofs.Showing.{line-found}
use Rattle.fr_answer.proofs.commands.list.proved_line.Goals as goal

pub returns-clause-by : goal.returns-clause-by
returns-clause-by g c =
    let reads = Reads (g.F.Files.Gives c.args.files.now) g.F.Files.Means in
    let list = c.args.list.now in
    let found = c.proved_alone-found.result in
    let proof = subst (λ a. IfOk found (λ r. (certificate : List ℕ) × IsProofAt reads c.args.ways.deadlock a true certificate r.1)) (c.deref.ensures ∙ c.in_ok-app.ensures) c.proved_alone-found.ensures.proof in
    line-found (IsAnswerBy reads c.args.ways.deadlock list (beside list c.args.app.now) None) found c.answer_to.result c.answer_to.ensures.found proof

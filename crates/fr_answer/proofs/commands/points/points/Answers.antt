-- What is written is the listing of the application that was read.
use Rattle.std.proofs.Common.{sym, subst}
use Rattle.fr_answer.proofs.Terms.{AsApp, Reads}
use Rattle.fr_answer.proofs.commands.points.points.Goals as goal

pub returns-in-Ok-clause-answered : goal.returns-in-Ok-clause-answered
returns-in-Ok-clause-answered g c =
    let reads = subst (λ b. Reads (g.F.Files.Gives c.args.files.now) g.F.Files.Means AsApp c.args.app.now b) (sym c.deref.ensures.value) c.in_ok-text.ensures.reads in
    let put = c.in_ok-put_listed-in-Ok.ensures.put in
    (c.deref.result.now, put.0, reads, c.in-Ok.app, c.in-Ok.ensures.ok, put.1, c.in_ok-put_listed-in-Ok.ensures.done, put.2)

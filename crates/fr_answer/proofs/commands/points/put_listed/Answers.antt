-- What is written is the listing.
use Rattle.std.proofs.Common.{sym, subst}
use Rattle.fr_answer.proofs.Terms.{IsListed}
use Rattle.fr_answer.proofs.commands.points.put_listed.Goals as goal

pub returns-clause-put : goal.returns-clause-put
returns-clause-put g c =
    (c.deref.result.now, subst (λ t. IsListed c.args.explains c.args.app.now t) (sym c.deref.ensures) c.in_ok-listed.ensures, c.in_ok-put.ensures.put)

use Rattle.std.proofs.Common.{◌≡◌, sym, subst}
use Rattle.std.specs.Prelude.{Any, map}
use Rattle.fr_ends.specs.Fits.{EndsFit}
use Rattle.fr_ends.specs.View.{end_of}
use Rattle.fr_finder.proofs.EndLists.{ends-push}
use Rattle.fr_finder.proofs.guards.add.Goals as goal

pub returns-in_ok-push : goal.returns-in_ok-push
returns-in_ok-push c =
    subst (λ es. EndsFit c.args.app.now (map end_of es)) (sym c.in_ok-push.ensures.items) (ends-push c.args.app.now c.args.ends.now.items c.args.guard c.requires.ends c.requires.guard (λ found.
    let t = c.is_listed.ensures.1 (subst (λ es. Any (λ e. e.end ≡ c.args.guard.end) es) (sym c.deref.ensures.value) found) in
    let f = c.if-not-is_listed.true in cc))

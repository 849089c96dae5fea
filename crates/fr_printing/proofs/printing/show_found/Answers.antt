-- What is shown is what was found.
use Rattle.std.proofs.Common.{◌≡◌, ◌≤◌, subst, sym}
use Rattle.std.specs.Prelude.{option_copied}
use Rattle.fr_outcome.specs.Answers.{HasFound, what_status}
use Rattle.fr_printing.proofs.Showing.{kept-found, most-found, page-found, paged-as, refused-found, shown-found}
use Rattle.fr_printing.proofs.printing.show_found.Goals as goal

pub returns-clause-answered : goal.returns-clause-answered
returns-clause-answered g c =
    shown-found (HasFound c.args.found) c.args.asked.format _ _ _ _ c.show.result c.in_ok-answer.answer.what c.in_ok-answer.ensures.path c.in_ok-answer.ensures.found c.show.ensures.status c.show.ensures.text

pub returns-clause-refused : goal.returns-clause-refused
returns-clause-refused g c = refused-found c.args.found c.show.result (what_status c.in_ok-answer.answer.what) c.in_ok-answer.ensures.refused c.show.ensures.status

pub returns-clause-kept : goal.returns-clause-kept
returns-clause-kept g c = kept-found _ _ c.show.result (what_status c.in_ok-answer.answer.what) c.show.ensures.status c.show.ensures.kept

pub returns-clause-most : goal.returns-clause-most
returns-clause-most g c = most-found c.show.result (what_status c.in_ok-answer.answer.what) c.show.ensures.status c.in_ok-answer.ensures.most

pub returns-clause-paged : goal.returns-clause-paged
returns-clause-paged g c =
    let what = c.in_ok-answer.answer.what in
    paged-as g.F.Files.Puts (λ w. w ≡ what) (HasFound c.args.found) (option_copied c.args.asked.html) _ _
    (λ w le same. subst (HasFound c.args.found) (sym same) (c.in_ok-answer.ensures.found (subst (λ v. what_status v ≤ 1) same le))) c.show.ensures.paged

pub returns-clause-written : goal.returns-clause-written
returns-clause-written g c =
    let what = c.in_ok-answer.answer.what in
    page-found g.F.Files.Puts (λ w. w ≡ what) (HasFound c.args.found) (option_copied c.args.asked.html) _ _ c.show.result (what_status what)
    (λ w le same. subst (HasFound c.args.found) (sym same) (c.in_ok-answer.ensures.found (subst (λ v. what_status v ≤ 1) same le)))
    c.show.ensures.status c.show.ensures.written

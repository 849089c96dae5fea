use Rattle.std.proofs.Common.{◌≡◌, ◌∙◌, All, length, sym, ap, subst, inr}
use Rattle.fr_cert.proofs.Terms.{err_from_is_err_and, items_view, items_len-items_view, points_of, NoteFits, EachEntry, IsNote}
use Rattle.fr_cert.proofs.FaultLaws.{each_length}
use Rattle.fr_cert.proofs.ReadLemmas.{count_read, placed_fit}
use Rattle.fr_cert.proofs.notes.notes_in.Goals as goal

pub returns-in_err-read-clause-err : goal.returns-in_err-read-clause-err
returns-in_err-read-clause-err c =
    let p = err_from_is_err_and c.from_residual-in_err-read.result c.from_residual-in_err-read.ensures.1 in
    rw (p.1, p.2) (λ named. inr (_, c.in_ok-list.ensures.ok, inr (c.in_err-read.ensures.err named)))

pub shared-requires-clause-points : goal.shared-requires-clause-points
shared-requires-clause-points c =
    let r = c.in_ok-read.read in
    let list = c.in_ok-list.list.items in
    count_read c.args.scope.now c.args.version list r.notes.items r.places.items r.recent.items c.in_ok-read.ensures.read
    ∙ (sym (items_len-items_view list) ∙ c.in_ok-check_count.ensures.ok)

pub shared-requires-clause-places : goal.shared-requires-clause-places
shared-requires-clause-places c = c.in_ok-read.ensures.read.there

pub returns-clause-ok : goal.returns-clause-ok
returns-clause-ok c =
    let P = c.args.scope.now in
    let M = IsNote P c.args.version in
    let ds = items_view c.in_ok-list.list.items in
    let each : EachEntry M ds c.shared.result = subst (EachEntry M ds) (sym c.shared.ensures) c.in_ok-read.ensures.read.means in
    let points : length c.shared.result ≡ length (points_of P) =
    each_length M ds c.shared.result each ∙ (c.in_ok-check_count.ensures.ok ∙ ap (λ Q. length (points_of Q)) c.scope.view_is) in
    (ds, c.in_ok-list.ensures.ok, (each, points))

pub returns-clause-fits : goal.returns-clause-fits
returns-clause-fits c =
    let P = c.args.scope.now in
    let M = IsNote P c.args.version in
    let r = c.in_ok-read.read in
    let ds = items_view c.in_ok-list.list.items in
    let each : EachEntry M ds c.shared.result = subst (EachEntry M ds) (sym c.shared.ensures) c.in_ok-read.ensures.read.means in
    let points : length c.shared.result ≡ length (points_of P) =
    each_length M ds c.shared.result each ∙ (c.in_ok-check_count.ensures.ok ∙ ap (λ Q. length (points_of Q)) c.scope.view_is) in
    let fit = placed_fit P r.notes.items r.places.items c.in_ok-read.ensures.read.fit c.in_ok-read.ensures.read.there in
    (points, subst (All (λ n. NoteFits P n)) (sym c.shared.ensures) fit)

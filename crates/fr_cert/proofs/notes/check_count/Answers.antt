use Rattle.std.proofs.Common.{◌≡◌, ◌∙◌, sym, refl, arith, length}
use Rattle.fr_cert.proofs.Terms.{items_len-items_view, points_of}
use Rattle.fr_cert.proofs.notes.check_count.Goals as goal

pub returns-then-len-points-clause-ok : goal.returns-then-len-points-clause-ok
returns-then-len-points-clause-ok c =
    let list = c.args.list.now.items in
    let same : length list ≡ length (points_of c.args.app.now) = omega arith in
    items_len-items_view list ∙ same

pub returns-else-len-points-clause-err : goal.returns-else-len-points-clause-err
returns-else-len-points-clause-err c =
    let list = c.args.list.now.items in
    ((λ e. c.if-len-points.false (omega (arith, sym (items_len-items_view list) ∙ e))), refl)

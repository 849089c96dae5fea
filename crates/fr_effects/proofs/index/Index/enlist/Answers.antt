-- The point goes into the list of the variable that it writes, of the object that it creates or deletes, and of the leavers.
use Rattle.std.proofs.Common.{◌+◌, sym, ap, ◌∙◌, subst}
use Rattle.std.specs.Prelude.{◌↔◌, IsTrue}
use Rattle.fr_effects.proofs.Terms.{target_of, made_of, CanLeave, IsIndexBelow, Lists, enlisted}
use Rattle.fr_effects.specs.IndexView.{index_of}
use Rattle.fr_effects.proofs.IndexLaws.{index-more, lists-more, lists-same}
use Rattle.fr_effects.proofs.index.Index.enlist.Goals as goal

pub returns-in_ok-push : goal.returns-in_ok-push
returns-in_ok-push c =
    let P = c.args.app.now in
    let n = c.args.number in
    let q = c.point-point.result in
    let here = c.point-point.ensures in
    let I = index_of c.self.inside in
    let effect = c.effect_at-effect.ensures.is q here in
    let so_far = subst (IsIndexBelow P n) (sym c.self.view_is) c.requires.index in
    let writers = c.in_ok-enlist.ensures ∙ ap (λ p. enlisted I.writers p n) (c.target.ensures ∙ ap target_of effect) in
    let lives = c.in_ok-enlist-2.ensures ∙ ap (λ p. enlisted I.lives p n) (c.made.ensures ∙ ap made_of effect) in
    let both = subst (λ e. IsTrue c.can_leave.result ↔ CanLeave P e) effect c.can_leave.ensures in
    let more = lists-more P (CanLeave P) n q here I.leavers so_far.leavers (both.0 c.if-can_leave.true) in
    index-more P n q here I _ so_far writers lives (subst (Lists P (CanLeave P) (n + 1)) (sym c.in_ok-push.ensures.items) more)

pub returns-else-can_leave : goal.returns-else-can_leave
returns-else-can_leave c =
    let P = c.args.app.now in
    let n = c.args.number in
    let q = c.point-point.result in
    let here = c.point-point.ensures in
    let I = index_of c.self.inside in
    let effect = c.effect_at-effect.ensures.is q here in
    let so_far = subst (IsIndexBelow P n) (sym c.self.view_is) c.requires.index in
    let writers = c.in_ok-enlist.ensures ∙ ap (λ p. enlisted I.writers p n) (c.target.ensures ∙ ap target_of effect) in
    let lives = c.in_ok-enlist-2.ensures ∙ ap (λ p. enlisted I.lives p n) (c.made.ensures ∙ ap made_of effect) in
    let both = subst (λ e. IsTrue c.can_leave.result ↔ CanLeave P e) effect c.can_leave.ensures in
    let same = lists-same P (CanLeave P) n q here I.leavers so_far.leavers (λ leaves. let t = both.1 leaves in let f = c.if-can_leave.false in cc) in
    index-more P n q here I _ so_far writers lives same

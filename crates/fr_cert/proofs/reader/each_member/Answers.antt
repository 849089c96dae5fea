use Rattle.std.proofs.Common.{◌≡◌, List, [], ◌∷◌, ◌++◌, map, append_assoc, sym, ap, ◌∙◌, subst}
use Rattle.std.proofs.lemmas.List.{map_push}
use Rattle.fr_cert.proofs.Terms.{err_from_is_err_and, deref_pair, rest_more, members_view, view, Entry, InMembers}
use Rattle.fr_cert.proofs.MemberLemmas.{member_push, in_members}
use Rattle.fr_cert.proofs.reader.each_member.Goals as goal

pub returns-in_err-read-clause-err : goal.returns-in_err-read-clause-err
returns-in_err-read-clause-err g c =
    let p = err_from_is_err_and c.from_residual.result c.from_residual.ensures.1 in
    let F = g.M.Member.Faults c.args.reader.now c.args.scope.now in
    let f = c.in_err-read.field-0.0 in
    let e : Entry = (c.in-Some.name.now, c.in-Some.value.now) in
    let next = rest_more deref_pair c.loop-name.name-iterator c.next.new.self c.next.result (c.in-Some.name, c.in-Some.value) c.in-Some.is c.next.ensures.steps in
    let inv = c.loop-name.invariant in
    let whole : c.args.object.now.entries ≡ inv.0 ++ e ∷ c.next.new.self = inv.1 ∙ ap (λ t. inv.0 ++ t) next in
    let Whole : List Entry → Type 0 = λ es. InMembers F (members_view es) f in
    rw (p.1, p.2) (λ named. subst Whole (sym whole) (in_members F inv.0 e c.next.new.self f (subst (λ name. F name (view e.1) f) c.as_str.ensures.value (c.in_err-read.ensures.err named))))

pub loop-name-preserved : goal.loop-name-preserved
loop-name-preserved g c =
    let M = g.M.Member.Means c.args.reader.now c.args.scope.now in
    let seen = g.M.Member.seen in
    let e : Entry = (c.in-Some.name.now, c.in-Some.value.now) in
    let next = rest_more deref_pair c.loop-name.name-iterator c.next.new.self c.next.result (c.in-Some.name, c.in-Some.value) c.in-Some.is c.next.ensures.steps in
    let inv = c.loop-name.invariant in
    let x = seen c.in_ok-read.field-0 in (
      inv.0 ++ e ∷ [],
      inv.1 ∙ ap (λ t. inv.0 ++ t) next ∙ sym (append_assoc inv.0 (e ∷ []) c.next.new.self),
      rw (c.in_ok-push.ensures.items, map_push seen c.loop-name.items.items c.in_ok-read.field-0)
          (member_push M inv.0 e (map seen c.loop-name.items.items) x inv.2 (subst (λ name. M name (view e.1) x) c.as_str.ensures.value c.in_ok-read.ensures.ok)),
    )

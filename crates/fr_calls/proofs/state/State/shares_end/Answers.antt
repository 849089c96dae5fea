-- The actor is inside the call that was found, and inside no other.
use Rattle.std.proofs.Common.{◌≡◌, refl, sym, ap, ◌∙◌, subst, IsTrue}
use Rattle.std.proofs.lemmas.Bool.{false≢true}
use Rattle.std.proofs.lemmas.Option.{same_Some}
use Rattle.fr_rules.specs.Rule.{is_at_end}
use Rattle.fr_calls.proofs.state.State.shares_end.Goals as goal

pub returns-then-is_at_end : goal.returns-then-is_at_end
returns-then-is_at_end c =
    let call = c.in-Some.call in
    let at : IsTrue (is_at_end c.args.end call.act) = sym c.is_at_end.ensures ∙ c.if-is_at_end.true in (
      λ t.
          let w = c.another_inside.ensures.0 t in
          (call.object.0, call, w.2, w.0, w.1, (refl, (c.in-Some.ensures call).0 refl), w.3, at, w.4),
      λ s.
          let same : call ≡ s.1 = same_Some _ _ ((c.in-Some.ensures s.1).1 s.5.1) in
          c.another_inside.ensures.1 (s.3, s.4, s.2, (s.6.0 ∙ (sym s.5.0 ∙ ap (λ x. x.object.0) (sym same)), s.6.1), s.8),
    )

pub returns-else-is_at_end : goal.returns-else-is_at_end
returns-else-is_at_end c =
    let call = c.in-Some.call in (
      λ t. let f = c.if-is_at_end.false in cc,
      λ s.
          let same : call ≡ s.1 = same_Some _ _ ((c.in-Some.ensures s.1).1 s.5.1) in
          c.is_at_end.ensures ∙ subst (λ x. IsTrue (is_at_end c.args.end x.act)) (sym same) s.7,
    )

pub returns-in-None : goal.returns-in-None
returns-in-None c = (λ t. absurd (false≢true t), λ s. let e = (c.in-None.ensures s.1).1 s.5.1 in cc)

-- The actor is inside the call that was found, and inside no other.
use Rattle.std.proofs.Common.{◌≡◌, refl, ap, sym, ◌∙◌, subst, IsTrue, IfSome}
use Rattle.std.proofs.lemmas.Bool.{eqb-true, false≢true}
use Rattle.std.proofs.lemmas.Option.{same_Some}
use Rattle.fr_rules.specs.Rule.{is_at_end}
use Rattle.fr_calls.proofs.state.State.is_inside.Goals as goal

pub returns-then-call-object : goal.returns-then-call-object
returns-then-call-object c =
    let call = c.in-Some.call in (
      λ t. (call, (c.if-call-object.true, (c.in-Some.ensures call).0 refl), c.is_at.ensures.0 t),
      λ w.
          let same : call ≡ w.0 = same_Some _ _ ((c.in-Some.ensures w.0).1 w.1.1) in
          c.is_at.ensures.1 (subst (λ x. IfSome c.args.end (λ e. IsTrue (is_at_end e x.act))) (sym same) w.2),
    )

pub returns-else-call-object : goal.returns-else-call-object
returns-else-call-object c =
    let call = c.in-Some.call in (
      λ t. absurd (c.if-call-object.false (eqb-true _ _ t)),
      λ w.
          let same : call ≡ w.0 = same_Some _ _ ((c.in-Some.ensures w.0).1 w.1.1) in
          absurd (c.if-call-object.false (ap (λ x. x.object.0) same ∙ w.1.0)),
    )

pub returns-in-None : goal.returns-in-None
returns-in-None c = (λ t. absurd (false≢true t), λ w. let e = (c.in-None.ensures w.0).1 w.1.1 in cc)

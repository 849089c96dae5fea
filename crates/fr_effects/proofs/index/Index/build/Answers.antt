use Rattle.std.proofs.Common.{◌≡◌, [], length, sym, ap, ◌∙◌, subst, arith}
use Rattle.std.specs.Prelude.{replicate}
use Rattle.fr_effects.proofs.Terms.{length-map, points_of, object_of, variable_of, IsIndexBelow}
use Rattle.fr_effects.proofs.IndexLaws.{index-none}
use Rattle.fr_effects.proofs.index.Index.build.Goals as goal

pub loop-number-init : goal.loop-number-init
loop-number-init c =
    let variables = sym (length-map c.variables.result.now variable_of) ∙ ap (λ xs. length xs) c.variables.ensures in
    let objects = sym (length-map c.objects.result.now object_of) ∙ ap (λ xs. length xs) c.objects.ensures in
    index-none c.args.app.now _ (c.in_ok-empty.ensures ∙ ap (λ n. replicate n []) variables) (c.in_ok-empty-2.ensures ∙ ap (λ n. replicate n []) objects) c.new.ensures.items

pub returns : goal.returns
returns c =
    let all : c.loop-number.number ≡ length (points_of c.args.app.now) = omega (arith, c.loop-number-test.false, c.loop-number.auto.number-end, c.points-number-end.ensures) in
    subst (λ n. IsIndexBelow c.args.app.now n c.loop-number.index) all c.loop-number.invariant

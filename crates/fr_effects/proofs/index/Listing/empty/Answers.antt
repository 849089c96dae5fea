use Rattle.std.proofs.Common.{◌≡◌, ◌++◌, ◌∷◌, [], map, ap, ◌∙◌, arith}
use Rattle.std.specs.Prelude.{replicate}
use Rattle.fr_effects.proofs.Terms.{map_push, replicate-append-replicate}
use Rattle.fr_effects.proofs.index.Listing.empty.Goals as goal

pub loop-place-preserved : goal.loop-place-preserved
loop-place-preserved c =
    let k = c.loop-place._place in
    ap (map (λ list. list.items)) c.in_ok-push.ensures.items ∙ map_push (λ list. list.items) c.loop-place.lists.items c.new.result
    ∙ ap (λ lists. lists ++ c.new.result.items ∷ []) c.loop-place.invariant ∙ ap (λ list. replicate k [] ++ list ∷ []) c.new.ensures.items
    ∙ replicate-append-replicate k 1 []

pub returns : goal.returns
returns c =
    let all : c.loop-place._place ≡ c.args.count = omega (arith, c.loop-place-test.false, c.loop-place.auto._place-end) in
    c.loop-place.invariant ∙ ap (λ n. replicate n []) all

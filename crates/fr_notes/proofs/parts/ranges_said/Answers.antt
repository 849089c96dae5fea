-- The range that is pushed is what the parts say of the next variable.
use Rattle.std.proofs.Common.{◌≡◌, ◌∙◌, ◌++◌, [], ◌∷◌, map, ap, sym, arith}
use Rattle.fr_notes.proofs.Terms.{range_with_len, map_push, map-range_with_len_more, range_said, ends_of}
use Rattle.fr_notes.proofs.parts.ranges_said.Goals as goal

pub loop-variable-preserved : goal.loop-variable-preserved
loop-variable-preserved c =
    let f = range_said c.args.app.now c.args.narrower.now in
    let k = c.loop-variable.variable in
    let so_far = c.loop-variable.ranges.items in
    let next = c.range_said.result in
    let pushed = ap (λ rs. map ends_of rs) c.in_ok-push.ensures.items ∙ map_push ends_of so_far next in
    let same : map ends_of so_far ++ ends_of next ∷ [] ≡ map f (range_with_len 0 k) ++ f k ∷ [] = rw (c.loop-variable.invariant, c.range_said.ensures) in
    pushed ∙ (same ∙ sym (map-range_with_len_more f 0 k k (omega arith)))

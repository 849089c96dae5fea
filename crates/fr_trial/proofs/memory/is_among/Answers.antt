-- The path that was looked at last isn't the one.
use Rattle.std.proofs.Common.{◌≡◌, ◌<◌, ◌∙◌, ap, sym, length, string_bytes, arith, below_more}
use Rattle.std.proofs.lemmas.List.{get_or-map}
use Rattle.std.proofs.lemmas.Slice.Eq.{bytes_eq-Decides}
use Rattle.fr_trial.proofs.memory.is_among.Goals as goal

pub loop-other-preserved : goal.loop-other-preserved
loop-other-preserved c = below_more _ _ c.loop-other.invariant (λ same.
    let lt : c.loop-other.other-index < length c.args.paths.now = omega arith in
    let shown = get_or-map string_bytes c.args.paths.now c.loop-other.other-index c.other-item.result c.args.path.now lt in
    let it : c.as_str.result.now ≡ c.args.path.now = c.as_str.ensures.value ∙ ap string_bytes c.other-item.is ∙ sym shown ∙ same in
    let found = (bytes_eq-Decides c.as_str.result.now c.args.path.now).1 it in
    cc (found, c.if-eq.ensures))

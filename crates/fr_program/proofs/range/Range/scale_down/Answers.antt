use Rattle.std.proofs.Common.{sym}
use lib.Signed.{≤ℤ_refl}
use Rattle.fr_program.proofs.SpanLemmas.{mul_down, product}
use Rattle.fr_program.proofs.range.Range.scale_down.Goals as goal

pub invariant_of-result : goal.invariant_of-result
invariant_of-result c =
    let a = c.args.self in
    let lo = product a.lo c.args.by c.from-by.result c.requires.narrow.0 c.ranges.by c.from-by.ensures in
    let hi = product a.hi c.args.by c.from-by.result c.requires.narrow.1 c.ranges.by c.from-by.ensures in
    record { ordered = rw (lo, hi) (mul_down c.args.by a.lo a.hi c.requires.down a.ordered) }

pub returns : goal.returns
returns c =
    let a = c.args.self in
    let by = c.args.by in
    let lo = product a.lo by c.from-by.result c.requires.narrow.0 c.ranges.by c.from-by.ensures in
    let hi = product a.hi by c.from-by.result c.requires.narrow.1 c.ranges.by c.from-by.ensures in
    record {
      inside = λ x p. (rw hi (mul_down by x a.hi c.requires.down p.1), rw lo (mul_down by a.lo x c.requires.down p.0));
      lo = (a.hi, (a.ordered, ≤ℤ_refl a.hi), sym hi);
      hi = (a.lo, (≤ℤ_refl a.lo, a.ordered), sym lo);
    }

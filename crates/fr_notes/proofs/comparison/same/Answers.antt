use Rattle.std.proofs.Common.{arith, ◌≡◌}
use Rattle.fr_notes.proofs.Terms.{ints, clamps}
use Rattle.fr_notes.proofs.ComparisonLaws.{same-made}
use Rattle.fr_notes.proofs.comparison.same.Goals as goal

pub returns-then-hi-lo-clause-none : goal.returns-then-hi-lo-clause-none
returns-then-hi-lo-clause-none c x y p =
    let least = c.min-hi.ensures.value in
    let most = c.max-lo.ensures.value in
    let same : x ≡ y = p.2 in
    omega (arith, ints, clamps)

pub returns : goal.returns
returns c =
    let least = c.min-hi.ensures.value in
    let most = c.max-lo.ensures.value in
    record { some = same-made c.args.left c.args.right _ (omega (arith, ints, clamps)) (omega (arith, ints, clamps)); none = tt }

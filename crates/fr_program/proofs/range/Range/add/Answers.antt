use Rattle.std.proofs.Common.{arith}
use Rattle.std.proofs.lemmas.Int.{ints}
use Rattle.fr_program.proofs.range.Range.add.Goals as goal

pub returns : goal.returns
returns c =
    let a = c.args.self in
    let b = c.args.other in
    record {
      inside = λ x y p q. (omega (arith, ints), omega (arith, ints));
      lo = (a.lo, b.lo, (omega (arith, ints), a.ordered), (omega (arith, ints), b.ordered), omega (arith, ints));
      hi = (a.hi, b.hi, (a.ordered, omega (arith, ints)), (b.ordered, omega (arith, ints)), omega (arith, ints));
    }

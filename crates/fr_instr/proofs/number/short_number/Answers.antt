use Rattle.std.proofs.Common.{arith}
use Rattle.fr_instr.proofs.NumberLaws.{counted_first, counted_more}
use Rattle.fr_instr.proofs.number.short_number.Goals as goal

pub loop-digit-init : goal.loop-digit-init
loop-digit-init c =
    let first = c.in_ok-n.ensures in
    counted_first c.args.text.now c.in_ok-n.n first.0 first.1 first.2 (λ more. omega (arith, more))

pub loop-digit-preserved : goal.loop-digit-preserved
loop-digit-preserved c =
    let next = c.in-Some.ensures in
    counted_more c.args.text.now c.loop-digit.i c.loop-digit.n c.in-Some.digit next.0 (omega arith) next.1 next.2 c.loop-digit.invariant

use Rattle.std.proofs.Common.{arith}
use Rattle.std.proofs.lemmas.Int.{ints, clamps}
use Rattle.std.proofs.lemmas.Option.{IfSome_then}
use Rattle.fr_program.proofs.OptionLemmas.{none_then}
use Rattle.fr_program.proofs.range.Range.meet.Goals as goal

pub returns-clause-some : goal.returns-clause-some
returns-clause-some c =
    let a = c.args.self in
    let b = c.args.other in
    let low = c.max.ensures.value in
    let high = c.min.ensures.value in
    IfSome_then c.new.result c.new.ensures.some (λ both p z. (
      λ h. ((omega (arith, ints, clamps), omega (arith, ints, clamps)), (omega (arith, ints, clamps), omega (arith, ints, clamps))),
      λ h. (omega (arith, ints, clamps), omega (arith, ints, clamps)),
    ))

pub returns-clause-none : goal.returns-clause-none
returns-clause-none c =
    let low = c.max.ensures.value in
    let high = c.min.ensures.value in
    none_then c.new.result c.new.ensures.none (λ apart z p q. omega (arith, ints, clamps))

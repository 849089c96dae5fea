use Rattle.std.proofs.Common.{arith}
use Rattle.fr_notes.proofs.Terms.{ints, clamps, IfSome_then}
use Rattle.fr_program.proofs.OptionLemmas.{none_then}
use Rattle.fr_notes.proofs.comparison.up_to.Goals as goal

pub returns-clause-some : goal.returns-clause-some
returns-clause-some c = IfSome_then c.new.result c.new.ensures.some (λ new h. (omega (arith, ints, clamps), omega (arith, ints, clamps)))

pub returns-clause-none : goal.returns-clause-none
returns-clause-none c =
    let o = c.args.range.ordered in
    none_then c.new.result c.new.ensures.none (λ h. omega (arith, ints, clamps))

use Rattle.std.proofs.Common.{◌<◌, ◌^◌, arith, rules}
use Rattle.std.specs.Prelude.{FitsSigned}
use Rattle.std.specs.Int.{w64}
use Rattle.std.proofs.lemmas.Int.{ints}
use Rattle.fr_instr.proofs.NumberLaws.{no_natural, no_text}
use Rattle.fr_instr.proofs.number.natural_of.Goals as goal

pub returns-in_default-clause-none : goal.returns-in_default-clause-none
returns-in_default-clause-none c =
    let wide : c.args.most < 2 ^ 32 = search rules in
    no_text c.args.least c.args.most c.args.text.now wide c.in_default.ensures.none

pub returns-then-n-from-clause-none : goal.returns-then-n-from-clause-none
returns-then-n-from-clause-none c =
    let wide : c.args.most < 2 ^ 32 = search rules in
    let f : FitsSigned w64 c.in-Some.n = search rules in
    no_natural c.args.least c.args.most c.args.text.now c.in-Some.n wide c.in-Some.ensures.some f (λ k low high same. absurd (omega (arith, ints)))

pub returns-then-from-n-clause-none : goal.returns-then-from-n-clause-none
returns-then-from-n-clause-none c =
    let wide : c.args.most < 2 ^ 32 = search rules in
    let f : FitsSigned w64 c.in-Some.n = search rules in
    no_natural c.args.least c.args.most c.args.text.now c.in-Some.n wide c.in-Some.ensures.some f (λ k low high same. absurd (omega (arith, ints)))

use Rattle.std.proofs.Common.{◌≡◌, ◌∙◌, ◌<◌, ◌≤◌, [], length, ap, arith}
use Rattle.std.specs.Prelude.{nat_le}
use Rattle.fr_cert.proofs.Terms.{le-leb, lt-leb, get_or_default, Note}
use Rattle.fr_cert.proofs.WrittenLemmas.{all_more, all_less, all_end}
use Rattle.fr_cert.proofs.writing.are_short.Goals as goal

pub returns-then-alternatives-gt1 : goal.returns-then-alternatives-gt1
returns-then-alternatives-gt1 c =
    let i = c.loop-number.number in
    let notes = c.args.notes.now in
    let note = c.note.result.now in
    let within : i < length notes = omega arith in
    let size : length c.alternatives.result.now ≡ length note = ap length c.alternatives.ensures in
    let many : 1 < length note = omega (arith, size) in
    all_less (λ (n : Note). nat_le (length n) 1) notes i note within (c.note.ensures ∙ get_or_default notes i [] note within) (lt-leb (length note) 1 many) c.loop-number.invariant

pub loop-number-preserved : goal.loop-number-preserved
loop-number-preserved c =
    let i = c.loop-number.number in
    let notes = c.args.notes.now in
    let note = c.note.result.now in
    let within : i < length notes = omega arith in
    let size : length c.alternatives.result.now ≡ length note = ap length c.alternatives.ensures in
    let few : length note ≤ 1 = omega (arith, size) in
    all_more (λ (n : Note). nat_le (length n) 1) notes i note within (c.note.ensures ∙ get_or_default notes i [] note within) (le-leb (length note) 1 few) c.loop-number.invariant

pub returns : goal.returns
returns c =
    let end : length c.args.notes.now ≤ c.loop-number.number = omega arith in
    all_end (λ (n : Note). nat_le (length n) 1) c.args.notes.now c.loop-number.number end c.loop-number.invariant

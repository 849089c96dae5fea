use Rattle.std.proofs.Common.{◌≡◌, ◌+◌, length, ap, ◌∙◌, arith}
use Rattle.fr_notes.proofs.AlternativesLemmas.{count_more, too_many}
use Rattle.fr_notes.proofs.alternatives.are_few.Goals as goal

pub returns-then-more-count : goal.returns-then-more-count
returns-then-more-count c =
    let size : length c.alternatives-more.result.now ≡ length c.note-item.result = ap length c.alternatives-more.ensures in
    too_many c.args.notes.now c.loop-note.note-index c.loop-note.count c.note-item.result c.loop-note-test.true c.note-item.is c.loop-note.invariant.so_far
    (omega (arith, size, c.if-more-count.true, c.loop-note.invariant.few))

pub loop-note-preserved : goal.loop-note-preserved
loop-note-preserved c =
    let size : length c.alternatives-more.result.now ≡ length c.note-item.result = ap length c.alternatives-more.ensures in
    let more = count_more c.args.notes.now c.loop-note.note-index c.loop-note.count c.note-item.result c.loop-note-test.true c.note-item.is c.loop-note.invariant.so_far in
    record { so_far = ap (λ n. c.loop-note.count + n) size ∙ more; few = omega (arith, c.if-more-count.false, c.loop-note.invariant.few) }

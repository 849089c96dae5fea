-- One line more.
use Rattle.std.proofs.Common.{below_more}
use Rattle.fr_source.specs.Kept.{KeepsLine, tidied}
use Rattle.fr_source.proofs.visible.Comparison.keeps_all.Goals as goal

pub loop-number-preserved : goal.loop-number-preserved
loop-number-preserved c =
    let s = c.args.self.now in
    let t = tidied s.program.now.variables.items s.lines.now s.marks.now s.aims.now in
    below_more (λ p. KeepsLine t s.plain.now p) c.loop-number.number c.loop-number.invariant (c.keeps_line.ensures c.if-not-keeps_line.false)

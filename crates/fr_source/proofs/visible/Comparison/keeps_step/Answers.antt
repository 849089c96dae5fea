-- An `if` that is needed is kept, or its opposite is.
use Rattle.std.proofs.Common.{◌⊎◌, inr, sym, subst}
use Rattle.fr_source.specs.Kept.{KeepsStep, OppositeIf, SameIf, tidied}
use Rattle.fr_source.proofs.visible.Comparison.keeps_step.Goals as goal

pub returns-else-skips_if : goal.returns-else-skips_if
returns-else-skips_if c = λ is.
    let s = c.args.self.now in
    let t = tidied s.program.now.variables.items s.lines.now s.marks.now s.aims.now in
    let it = c.in-If-Some in
    subst (λ a. KeepsStep t c.args.number c.args.mark a c.args.line.to) (sym it.is-0)
    (it.target, it.is-1, inr (subst (λ a. SameIf t c.args.number c.args.mark a it.target ⊎ OppositeIf t c.args.number c.args.mark a it.target) it.is-0 (c.keeps_if.ensures is)))

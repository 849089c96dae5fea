use Rattle.std.proofs.Common.{◌<◌, ℕ}
use Rattle.fr_source.specs.Kept.{KeepsLine, tidied}
use Rattle.fr_source.proofs.visible.Comparison.keeps_all.Given as goal

-- the plain lines so far are kept
abbrev pub invariant-loop-number : goal.invariant-loop-number
invariant-loop-number l = (p : ℕ) → p < l.number → KeepsLine (tidied l.self.program.now.variables.items l.self.lines.now l.self.marks.now l.self.aims.now) l.self.plain.now p

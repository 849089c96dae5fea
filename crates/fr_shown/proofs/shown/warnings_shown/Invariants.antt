use Rattle.std.proofs.Common.{take}
use Rattle.fr_outcome.specs.Each.{Each}
use Rattle.fr_shown.specs.Shows.{IsSameWarning}
use Rattle.fr_shown.proofs.shown.warnings_shown.Given as goal

-- the warnings so far are shown
abbrev pub invariant-loop-warning : goal.invariant-loop-warning
invariant-loop-warning l = Each IsSameWarning (take l.warning-index l.warnings) l.shown.items

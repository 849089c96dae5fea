use Rattle.fr_notes.proofs.Terms.{AllWithin, IsCount}
use Rattle.fr_notes.proofs.checks.check_counts.Given as goal

-- no entry so far has the fault
abbrev pub invariant-loop-entry : goal.invariant-loop-entry
invariant-loop-entry l = AllWithin (IsCount l.app) l.held 0 l.entry-index

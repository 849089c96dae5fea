use Rattle.fr_notes.proofs.Terms.{AllWithin, IsNarrowing}
use Rattle.fr_notes.proofs.checks.check_spans.Given as goal

-- no entry so far has the fault
abbrev pub invariant-loop-entry : goal.invariant-loop-entry
invariant-loop-entry l = AllWithin (IsNarrowing l.app) l.narrower 0 l.entry-index

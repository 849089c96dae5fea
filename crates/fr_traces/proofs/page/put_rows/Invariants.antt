-- The state is one of the application, after each row.
use Rattle.fr_rules.specs.State.{IsWellFormed}
use Rattle.fr_traces.proofs.page.put_rows.Given as goal

abbrev pub invariant-loop-number : goal.invariant-loop-number
invariant-loop-number l = IsWellFormed l.app l.state

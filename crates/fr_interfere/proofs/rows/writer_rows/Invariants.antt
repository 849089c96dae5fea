use Rattle.std.proofs.Common.{◌≡◌, length}
use Rattle.fr_interfere.proofs.Terms.{AreRows}
use Rattle.fr_interfere.proofs.rows.writer_rows.Given as goal

-- the rows of the variables so far
abbrev pub invariant-loop-variable : goal.invariant-loop-variable
invariant-loop-variable l = record {
  many : length l.rows.items ≡ l.variable;
  rows : AreRows l.app l.notes l.index.writers l.rows.items;
}

use Rattle.std.proofs.Common.{◌≡◌, length}
use Rattle.fr_interfere.proofs.Terms.{AreRows}
use Rattle.fr_interfere.proofs.rows.maker_rows.Given as goal

-- the rows of the objects so far
abbrev pub invariant-loop-object : goal.invariant-loop-object
invariant-loop-object l = record {
  many : length l.rows.items ≡ l.object;
  rows : AreRows l.app l.notes l.index.lives l.rows.items;
}

use Rattle.fr_interfere.proofs.Terms.{Lists, WritesOne}
use Rattle.fr_interfere.proofs.rows.writing_points.Given as goal

-- the points so far that write a variable
abbrev pub invariant-loop-number : goal.invariant-loop-number
invariant-loop-number l = Lists l.app WritesOne l.number l.numbers.items

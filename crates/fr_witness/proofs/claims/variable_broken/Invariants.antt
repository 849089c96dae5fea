use Rattle.std.proofs.Common.{◌<◌, ℕ}
use Rattle.fr_rules.specs.State.{value_of}
use Rattle.fr_notes.specs.Note.{Within, range_of}
use Rattle.fr_witness.proofs.claims.variable_broken.Given as goal

-- the variables so far are in their ranges
abbrev pub invariant-loop-number : goal.invariant-loop-number
invariant-loop-number l = (x : ℕ) → x < l.number → Within (range_of l.alternative x) (value_of l.state x)

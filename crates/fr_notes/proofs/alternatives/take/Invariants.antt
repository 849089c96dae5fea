use Rattle.std.proofs.Common.{◌≡◌, ◌≤◌, ◌+◌, ◌++◌, length, vec_len, vec_capacity}
use Rattle.fr_notes.proofs.alternatives.take.Given as goal

-- what is left completes what there is, and has room
abbrev pub invariant-loop-alts : goal.invariant-loop-alts
invariant-loop-alts l = record {
  room : vec_len l.notes + length l.alts-iterator.rest.items ≤ vec_capacity l.notes;
  all : l.notes.items ++ l.alts-iterator.rest.items ≡ l.fn.notes.items ++ l.fn.alts.items;
}

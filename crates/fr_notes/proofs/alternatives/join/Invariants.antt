use Rattle.std.proofs.Common.{◌≡◌, ◌≤◌, ◌+◌, ◌++◌, length, vec_len, vec_capacity}
use Rattle.fr_notes.proofs.Terms.{joined}
use Rattle.fr_notes.proofs.alternatives.join.Given as goal

-- what is left completes what there is, and has room
abbrev pub invariant-loop-note : goal.invariant-loop-note
invariant-loop-note l = record {
  room : vec_len l.alternatives + length (joined l.note-iterator.rest.items) ≤ vec_capacity l.alternatives;
  all : l.alternatives.items ++ joined l.note-iterator.rest.items ≡ l.fn.alternatives.items ++ joined l.fn.notes.items;
}

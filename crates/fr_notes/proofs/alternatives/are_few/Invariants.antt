use Rattle.std.proofs.Common.{◌≡◌, ◌≤◌, length, take}
use Rattle.fr_notes.proofs.Terms.{joined}
use Rattle.fr_notes.proofs.alternatives.are_few.Given as goal

abbrev pub invariant-loop-note : goal.invariant-loop-note
invariant-loop-note l = record { so_far : l.count ≡ length (joined (take l.note-index l.notes)); few : l.count ≤ 4 }

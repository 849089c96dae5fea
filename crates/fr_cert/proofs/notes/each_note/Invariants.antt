use Rattle.std.proofs.Common.{◌≡◌, List, ◌++◌}
use Rattle.fr_cert.proofs.Terms.{Value, AreReadBy}
use Rattle.fr_cert.proofs.notes.each_note.Given as goal

-- the entries in front are read
abbrev pub invariant-loop-value : goal.invariant-loop-value
invariant-loop-value l = (front : List Value) × (l.fn.list.items ≡ front ++ l.value-iterator.rest.items) × AreReadBy l.scope l.version front l.notes

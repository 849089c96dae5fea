-- The lines so far are faultless, and the entries so far are what they name.
use Rattle.std.proofs.Common.{length}
use Rattle.std.specs.Str.Lines.{lines}
use Rattle.fr_list.proofs.LineLaws.{IsKept}
use Rattle.fr_list.proofs.listed.entries_along.Given as goal

abbrev pub invariant-loop-index : goal.invariant-loop-index
invariant-loop-index l = IsKept (lines l.text) (length l.yielded) l.entries.items

use Rattle.std.proofs.Common.{◌<◌, ℕ}
use Rattle.fr_edge.proofs.Terms.{BeginsAs}
use Rattle.fr_edge.proofs.entry.begins_with_claims.Given as goal

abbrev pub invariant-loop-o : goal.invariant-loop-o
invariant-loop-o l = (k : ℕ) → k < l.o → BeginsAs l.claims l.objects k

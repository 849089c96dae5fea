use Rattle.std.proofs.Common.{◌≡◌, drop, length}
use Rattle.std.specs.Prelude.{nat_le}
use Rattle.fr_cert.proofs.Terms.{list_all}
use Rattle.fr_cert.proofs.writing.are_short.Given as goal

-- what is left decides
abbrev pub invariant-loop-number : goal.invariant-loop-number
invariant-loop-number l = list_all (λ note. nat_le (length note) 1) (drop l.number l.notes) ≡ list_all (λ note. nat_le (length note) 1) l.notes

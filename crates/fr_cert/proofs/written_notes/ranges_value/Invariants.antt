use Rattle.std.proofs.Common.{◌≡◌, drop}
use Rattle.fr_cert.proofs.Terms.{no_members, members_view, variable_of, ends_of, with_named, with_each}
use Rattle.fr_cert.proofs.written_notes.ranges_value.Given as goal

-- the variables that are left complete what there is
abbrev pub invariant-loop-index : goal.invariant-loop-index
invariant-loop-index l =
    with_each (λ v r. with_named (variable_of v) (ends_of r)) (drop l.index l.variables) (drop l.index l.ranges) (members_view l.named.entries)
    ≡ with_each (λ v r. with_named (variable_of v) (ends_of r)) l.variables l.ranges no_members

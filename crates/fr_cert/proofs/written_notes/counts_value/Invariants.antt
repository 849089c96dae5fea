use Rattle.std.proofs.Common.{◌≡◌, drop}
use Rattle.fr_cert.proofs.Terms.{no_members, members_view, object_of, with_count, with_each}
use Rattle.fr_cert.proofs.written_notes.counts_value.Given as goal

-- the objects that are left complete what there is
abbrev pub invariant-loop-index : goal.invariant-loop-index
invariant-loop-index l =
    with_each (λ o c. with_count (object_of o) c) (drop l.index l.objects) (drop l.index l.claims) (members_view l.named.entries) ≡ with_each (λ o c. with_count (object_of o) c) l.objects l.claims no_members

use Rattle.std.proofs.Common.{◌≡◌, ◌<◌, All, length, map}
use Rattle.fr_cert.proofs.Terms.{no_members, members_view, IsNumber, value_of, values_of, with_values}
use Rattle.fr_cert.proofs.written_ends.values_value.Given as goal

-- the values that are left complete what there is
abbrev pub invariant-loop-actor : goal.invariant-loop-actor
invariant-loop-actor l = record {
  fit : All (λ v. (v.0 < length l.app.actors) × IsNumber v.1) (map value_of l.actor-iterator);
  rest : with_values l.app (map value_of l.actor-iterator) (members_view l.named.entries) ≡ with_values l.app (values_of l.values) no_members;
}

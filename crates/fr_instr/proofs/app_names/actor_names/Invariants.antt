use Rattle.std.proofs.Common.{◌≡◌, map, take, string_bytes}
use Rattle.fr_instr.specs.Views.{texts}
use Rattle.fr_instr.proofs.app_names.actor_names.Given as goal

abbrev pub invariant-loop-actor : goal.invariant-loop-actor
invariant-loop-actor l = texts l.names.items ≡ map (λ x. string_bytes x.name) (take l.actor-index l.actors)

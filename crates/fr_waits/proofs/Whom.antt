-- What it takes to wait: to be inside a take without limit of a mutex that is held, and that the take can't get.
use Rattle.std.proofs.Common.{◌≡◌, ◌↔◌, ℕ, ◌<◌, length, Some, None, refl, sym, ap, ◌∙◌, arith}
use Rattle.std.proofs.lemmas.Option.{same_Some}
use Rattle.fr_program.specs.declared.instr.Instr.TheVariants.{Call as Calls}
use Rattle.fr_program.specs.declared.instr.Call.TheVariants.{On}
use Rattle.fr_program.specs.declared.instr.ObjectCall.{ObjectCall}
use Rattle.fr_program.specs.declared.ids.Side.TheVariants.{Inside}
use Rattle.fr_program.specs.Fault.{IsFaultless}
use Rattle.fr_program.specs.Program.{Program}
use Rattle.fr_rules.specs.State.{State, Held, IsWellFormed, content_of, kind_of}
use Rattle.fr_rules.specs.Rule.{Stands}
use Rattle.fr_rules.specs.Step.{taken}
use Rattle.fr_rules.proofs.Formed.{actor_below}
use Rattle.fr_waits.specs.Waits.{TakesWithoutLimit, WaitsFor, IsInCycle}
use Rattle.fr_waits.proofs.Cycles.{waits-in-cycle}

-- the call is the same as another one's, over its own object
pub takes-too : (call other : ObjectCall) (m : ℕ) → call ≡ other → TakesWithoutLimit call m → TakesWithoutLimit other other.object.0
takes-too call other m e t = record {
  form = t.form;
  or_else = t.or_else;
  object = refl;
  act = ap (λ c. c.act) (sym e) ∙ t.act;
  timing = ap (λ c. c.timing) (sym e) ∙ t.timing;
}

module _ (P : Program) (S : State) (a : ℕ) where
  pub waits : (call : ObjectCall) (h count : ℕ) → Stands P S a Inside (Calls (On call)) → TakesWithoutLimit call call.object.0 → content_of S call.object.0 ≡ Held h count → taken (kind_of P call.object.0) a (content_of S call.object.0) ≡ None → WaitsFor P S a h call.object.0
  waits call h count stands takes held refused = record {
    pc = stands.pc;
    call = call;
    count = count;
    at = stands.at;
    is = stands.is;
    takes = takes;
    held = held;
    refused = refused;
  }

  pub stands : (h m : ℕ) → (w : WaitsFor P S a h m) → Stands P S a Inside (Calls (On w.call))
  stands h m w = record { pc = w.pc; at = w.at; is = w.is }

  pub named : (call : ObjectCall) → IsFaultless P → Stands P S a Inside (Calls (On call)) → call.object.0 < length P.objects
  named call f stands = (f.names.things a stands.pc (Calls (On call)) stands.is).1

  -- the call inside which the actor is, is the one by which it waits
  pub same-call : (call : ObjectCall) (h m : ℕ) → ((other : ObjectCall) → ((Some call ≡ Some other) ↔ Stands P S a Inside (Calls (On other)))) → (w : WaitsFor P S a h m) → w.call ≡ call
  same-call call h m inside w = sym (same_Some _ _ ((inside w.call).1 (stands h m w)))

  pub takes-here : (call : ObjectCall) (h m : ℕ) → ((other : ObjectCall) → ((Some call ≡ Some other) ↔ Stands P S a Inside (Calls (On other)))) → WaitsFor P S a h m → TakesWithoutLimit call call.object.0
  takes-here call h m inside w = takes-too w.call call m (same-call call h m inside w) w.takes

  -- the mutex is that call's
  pub same-mutex : (call : ObjectCall) (h m : ℕ) → ((other : ObjectCall) → ((Some call ≡ Some other) ↔ Stands P S a Inside (Calls (On other)))) → WaitsFor P S a h m → m ≡ call.object.0
  same-mutex call h m inside w = sym w.takes.object ∙ ap (λ c. c.object.0) (same-call call h m inside w)

-- who is in a cycle is an actor of the application
pub actor-there : (P : Program) (S : State) → IsWellFormed P S → (a : ℕ) → IsInCycle P S a → a < length P.actors
actor-there P S formed a c =
    let w = waits-in-cycle P S a c in
    let l : a < length S.places = actor_below S a w.2.pc Inside w.2.at in
    omega (arith, l, formed.actors)

-- What holds of each instruction of an actor's code holds of each instruction at a place of the application.
use Rattle.std.proofs.Common.{◌≡◌, ◌<◌, ◌≤◌, ℕ, List, length, map, get_or, Some, inl, inr, subst, sym, ap, ◌∙◌, All, slice_get}
use Rattle.std.proofs.lemmas.List.{get_or-map, get_or_past}
use Rattle.std.proofs.lemmas.Option.{slice_get_within, get_or_from_slice_get, none-some}
use Rattle.std.proofs.lemmas.Bool.{cases_lt}
use Rattle.fr_program.specs.declared.instr.Instr.{Instr}
use Rattle.fr_program.specs.declared.parts.Actor.{Actor}
use Rattle.fr_program.specs.Program.{Program, ActorOf}
use Rattle.fr_program.specs.Lookup.{actor_at, instr_at, no_actor}
use Rattle.fr_program.specs.View.{actor_of}

-- what holds of each element holds of the one at a place
pub All-slice_get : {X : Type 0} (P : X → Type 0) (xs : List X) (k : ℕ) (x : X) → All P xs → slice_get xs k ≡ Some x → P x
All-slice_get P xs k x each at = subst P (get_or_from_slice_get xs k x x at) (each k x (slice_get_within xs k x at))

-- the actor with the number under which it was read
pub actor_at-read : (actors : List Actor) (a : ℕ) (actor : Actor) → a < length actors → actor ≡ get_or actors a actor →
    get_or (map actor_of actors) a no_actor ≡ actor_of actor
actor_at-read actors a actor below is = get_or-map actor_of actors a actor no_actor below ∙ ap actor_of (sym is)

-- a place belongs to an actor that is there
pub instr_at-within : (P : Program) (a pc : ℕ) (i : Instr) → instr_at P a pc ≡ Some i → a < length P.actors
instr_at-within P a pc i at =
    let none : length P.actors ≤ a → a < length P.actors = λ past.
    absurd (none-some i (ap (λ (x : ActorOf). slice_get x.code pc) (sym (get_or_past P.actors a no_actor past)) ∙ at)) in
    elim (cases_lt a (length P.actors)) [ inl below ↦ below | inr past ↦ none past ]

-- what holds of each instruction of an actor's code holds at each place of the actor
pub places-from_code : (P : Program) (F : ActorOf → Instr → Type 0) (a : ℕ) (actor : ActorOf) → actor_at P a ≡ actor →
    All (F actor) actor.code → (pc : ℕ) (i : Instr) → instr_at P a pc ≡ Some i → F (actor_at P a) i
places-from_code P F a actor is each =
    let G : ActorOf → Type 0 = λ x. (pc : ℕ) (i : Instr) → slice_get x.code pc ≡ Some i → F x i in
    subst G (sym is) (λ pc i at. All-slice_get (F actor) actor.code pc i each at)

-- The points of a code are those of its first instruction, and then those of the rest. Actors and objects with one number are one.
use Rattle.std.proofs.Common.{◌≡◌, ◌<◌, ◌+◌, ℕ, List, [], ◌++◌, length, map, slice_index_or, drop, refl, sym, ap, ◌∙◌, append_assoc, append-nil, add-one}
use Rattle.std.proofs.Math.Seq.{drop-cons}
use Rattle.fr_program.specs.declared.ids.ActorId.{ActorId}
use Rattle.fr_program.specs.declared.ids.ObjId.{ObjId}
use Rattle.fr_program.specs.declared.instr.Instr.{Instr}
use Rattle.fr_program.specs.declared.parts.Actor.{Actor}
use Rattle.fr_program.specs.View.{actor_of}
use Rattle.fr_program.specs.Points.{points_at, points_along, points_from}

pub same-actor : (a b : ActorId) → a.0 ≡ b.0 → a ≡ b
same-actor a b e = let f : ℕ → ActorId = λ k. record { 0 = k } in ap f e

pub same-object : (o p : ObjId) → o.0 ≡ p.0 → o ≡ p
same-object o p e = let f : ℕ → ObjId = λ k. record { 0 = k } in ap f e

-- what is left of a code at an instruction has that instruction's points first
pub points_along-drop : (a j : ℕ) (code : List Instr) (d : Instr) → j < length code →
    points_along a j (drop j code) ≡ points_at a j (slice_index_or code j d) ++ points_along a (j + 1) (drop (j + 1) code)
points_along-drop a j code d below = rw (drop-cons code j d below) (rw (add-one j) refl)

-- what is left of the actors has the first one's points first
pub points_from-drop : (j : ℕ) (actors : List Actor) (actor : Actor) (code : List Instr) → j < length actors →
    actor ≡ slice_index_or actors j actor → code ≡ actor.code.items →
    points_from j (map actor_of (drop j actors)) ≡ points_along j 0 code ++ points_from (j + 1) (map actor_of (drop (j + 1) actors))
points_from-drop j actors actor code below is code-is =
    rw (drop-cons actors j actor below) (rw (sym is) (rw code-is (rw (add-one j) refl)))

-- a turn of a loop that pushes the first of what is left
pub push-first : {A : Type 0} (done added more now next whole : List A) → more ≡ done ++ added → now ≡ added ++ next →
    done ++ now ≡ whole → more ++ next ≡ whole
push-first done added more now next whole pushed first left =
    ap (λ xs. xs ++ next) pushed ∙ append_assoc done added next ∙ sym (ap (λ xs. done ++ xs) first) ∙ left

-- its end, where nothing is left
pub push-all : {A : Type 0} (done now whole : List A) → now ≡ [] → done ++ now ≡ whole → done ≡ whole
push-all done now whole none left = sym (append-nil done) ∙ sym (ap (λ xs. done ++ xs) none) ∙ left

-- The worked notes, row by row: a state to show where two alternatives are together, and what they say of one thing
-- where they aren't.
use Rattle.std.proofs.Common.{◌≡◌, ℕ, zero, suc, ◌<◌, ◌≤◌, [], ◌∷◌, get_or, Option, Some, None, refl, sym, ◌∙◌, arith}
use Rattle.std.specs.Prelude.{ℤ, pos, IfSome, nat_eq}
use Rattle.std.proofs.lemmas.Int.{ints}
use Rattle.std.proofs.lemmas.Bool.{eqb-true}
use Rattle.fr_program.specs.declared.instr.Instr.TheVariants.{Goto}
use Rattle.fr_program.specs.declared.ids.Side.TheVariants.{Before}
use Rattle.fr_program.specs.declared.parts.Kind.TheVariants.{Mutex}
use Rattle.fr_rules.specs.State.{State, At, Content, Free, Held, CanHave, Exists, IsWellFormed, kind_of, place_of, content_of, value_of, depth_in}
use Rattle.fr_notes.specs.declared.claim.Claim.{Claim}
use Rattle.fr_notes.specs.declared.claim.Claim.TheVariants.{NotHeld, Alive, Gone, HeldTimes}
use Rattle.fr_notes.specs.Note.{Alternative, Meets, Within, HoldsOne, claim_of, range_of}
use Rattle.fr_notes.proofs.PairLaws.{inside-is}
use Rattle.fr_notes.proofs.ImplicationLemmas.{only-one}
use Rattle.fr_worked.specs.WorkedNotes.{two_tasks, says, any, Together, WorkedClaims, WorkedTogether}

pub worked-claims : WorkedClaims
worked-claims = record {
  held_so_often = refl;
  held_more_often = λ e. cc;
  held_by_another = λ e. cc;
  not_held_but_by_another = refl;
  not_held_and_dead = refl;
  not_held_but_own = λ e. absurd (omega (arith, e));
  alive_and_free = (λ e. cc, refl);
  alive_but_dead = λ h. h.0 refl;
  alive_but_own = λ h. absurd (omega (arith, h.1));
  gone_and_dead = refl;
  gone_but_free = λ e. cc;
  never_holds = λ a S h. absurd (omega (arith, h.1.1));
}

-- a state by the value of x, the mutex, the critical section and both suspension depths
abbrev pub state : ℤ → Content → Option (ℕ × ℕ) → ℕ → ℕ → State
state v content critical s t = record { places = At 0 Before ∷ At 0 Before ∷ []; values = v ∷ []; objects = content ∷ []; critical = critical; suspended = s ∷ t ∷ [] }

pub formed : (v : ℤ) (content : Content) (critical : Option (ℕ × ℕ)) (s t : ℕ) → CanHave two_tasks Mutex content → IfSome critical (λ c. (c.0 < 2) × (1 ≤ c.1)) → IsWellFormed two_tasks (state v content critical s t)
formed v content critical s t f h = record { actors = refl; suspensions = refl; variables = refl; objects = refl; places = places; contents = contents; critical = h }
  where
    places : (a : ℕ) → Exists two_tasks a (place_of (state v content critical s t) a)
    places zero = (Goto 0, refl, tt)
    places (suc zero) = (Goto 0, refl, tt)
    places (suc (suc a)) = tt

    contents : (o : ℕ) → CanHave two_tasks (kind_of two_tasks o) (content_of (state v content critical s t) o)
    contents zero = f
    contents (suc o) = tt

-- an alternative holds where its four parts do
pub holds : (a : ℕ) (v : ℤ) (content : Content) (critical : Option (ℕ × ℕ)) (s t k n : ℕ) (claim : Claim) (range : ℤ × ℤ) → depth_in critical a ≡ k → get_or (s ∷ t ∷ []) a 0 ≡ n → Meets a claim content → Within range v → HoldsOne (says k n claim range) a (state v content critical s t)
holds a v content critical s t k n claim range depth suspended meets within =
    record { critical = depth; suspended = suspended; objects = objects; variables = variables }
  where
    objects : (o : ℕ) → Meets a (claim_of (says k n claim range) o) (content_of (state v content critical s t) o)
    objects zero = meets
    objects (suc o) = refl

    variables : (x : ℕ) → Within (range_of (says k n claim range) x) (value_of (state v content critical s t) x)
    variables zero = within
    variables (suc x) = (omega (arith, ints), omega (arith, ints))

pub in-any : Within any (pos 0)
in-any = (omega (arith, ints), omega (arith, ints))

-- so nobody is in it beside another
no-two : (critical : Option (ℕ × ℕ)) → depth_in critical 0 ≡ 1 → depth_in critical 1 ≡ 2 → ⊥
no-two None h k = absurd (omega arith)
no-two (Some c) h k =
    let first = eqb-true c.0 0 (inside-is (nat_eq c.0 0) c.1 (omega (arith, h))) in
    let second = eqb-true c.0 1 (inside-is (nat_eq c.0 1) c.1 (omega (arith, k))) in
    absurd (omega (arith, first, second))

-- two alternatives that hold in one state are together
together : (n m : Alternative) (S : State) → IsWellFormed two_tasks S → HoldsOne n 0 S → HoldsOne m 1 S → Together n m
together n m S w h k = ((λ e. absurd (omega (arith, e))), S, w, (n, (0, omega arith, refl), h), (m, (0, omega arith, refl), k))

-- and where none of them holds beside the other, they aren't
apart : (n m : Alternative) → ((S : State) → HoldsOne n 0 S → HoldsOne m 1 S → ⊥) → Together n m → ⊥
apart n m none t = none t.1 (only-one n 0 t.1 t.3) (only-one m 1 t.1 t.4)

pub worked-together : WorkedTogether
worked-together = record {
  both_suspended = together (says 0 1 NotHeld any) (says 0 1 NotHeld any) (state (pos 0) Free None 1 1) (formed (pos 0) Free None 1 1 tt tt) (holds 0 (pos 0) Free None 1 1 0 1 NotHeld any refl refl refl in-any) (holds 1 (pos 0) Free None 1 1 0 1 NotHeld any refl refl refl in-any);
  both_in_critical = apart (says 1 0 NotHeld any) (says 2 0 NotHeld any) (λ S h k. no-two S.critical h.critical k.critical);
  one_in_critical = together (says 1 0 NotHeld any) (says 0 0 NotHeld any) (state (pos 0) Free (Some (0, 1)) 0 0) (formed (pos 0) Free (Some (0, 1)) 0 0 tt (omega arith, omega arith)) (holds 0 (pos 0) Free (Some (0, 1)) 0 0 1 0 NotHeld any refl refl refl in-any) (holds 1 (pos 0) Free (Some (0, 1)) 0 0 0 0 NotHeld any refl refl refl in-any);
  both_hold = apart (says 0 0 (HeldTimes 1) any) (says 0 0 (HeldTimes 1) any) (λ S h k. let e = sym (h.objects 0) ∙ k.objects 0 in cc);
  one_holds = together (says 0 0 (HeldTimes 1) any) (says 0 0 Alive any) (state (pos 0) (Held 0 1) None 0 0) (formed (pos 0) (Held 0 1) None 0 0 (omega arith, refl) tt) (holds 0 (pos 0) (Held 0 1) None 0 0 0 0 (HeldTimes 1) any refl refl refl in-any) (holds 1 (pos 0) (Held 0 1) None 0 0 0 0 Alive any refl refl (λ e. cc, refl) in-any);
  live_and_dead = apart (says 0 0 Alive any) (says 0 0 Gone any) (λ S h k. (h.objects 0).0 (k.objects 0));
  held_and_dead = apart (says 0 0 (HeldTimes 1) any) (says 0 0 Gone any) (λ S h k. let e = sym (h.objects 0) ∙ k.objects 0 in cc);
  ranges_meet = together (says 0 0 NotHeld (pos 0, pos 1)) (says 0 0 NotHeld (pos 1, pos 2)) (state (pos 1) Free None 0 0) (formed (pos 1) Free None 0 0 tt tt) (holds 0 (pos 1) Free None 0 0 0 0 NotHeld (pos 0, pos 1) refl refl refl (omega (arith, ints), omega (arith, ints))) (holds 1 (pos 1) Free None 0 0 0 0 NotHeld (pos 1, pos 2) refl refl refl (omega (arith, ints), omega (arith, ints)));
  ranges_apart = apart (says 0 0 NotHeld (pos 0, pos 0)) (says 0 0 NotHeld (pos 1, pos 2)) (λ S h k. absurd (omega (arith, ints, (h.variables 0).1, (k.variables 0).0)));
  one_actor = λ t. t.0 refl;
}

-- The worked states, clause by clause.
use Rattle.std.proofs.Common.{◌≡◌, ℕ, zero, suc, [], ◌∷◌, Option, Some, None, refl, sym, subst, arith}
use Rattle.std.proofs.lemmas.Option.{same_Some}
use Rattle.std.specs.Prelude.{◌<◌, ◌≤◌, ◌≤ℤ◌, ℤ, pos, true, sum, IfSome}
use Rattle.std.proofs.lemmas.Int.{ints}
use Rattle.std.proofs.lemmas.List.Elements.{All-head, All-nil, All-cons}
use Rattle.fr_program.specs.declared.instr.Instr.TheVariants.{Goto}
use Rattle.fr_program.specs.declared.ids.Side.TheVariants.{Before, Inside}
use Rattle.fr_program.specs.declared.parts.Kind.TheVariants.{Mutex}
use Rattle.fr_program.specs.Lookup.{HasSide}
use Rattle.fr_rules.specs.State.{Place, At, Done, Content, Free, Held, CanHave, Exists, place_of, content_of, kind_of}
use Rattle.fr_worked.specs.WorkedStates.{one_of, parts, Fits, WorkedFormed, WorkedContents, WorkedNew, WorkedStart}

-- a state of the one task is well formed where its place exists, its mutex fits and so does the critical section
formed : (place : Place) (v : ℤ) (content : Content) (critical : Option (ℕ × ℕ)) → Exists (one_of Mutex true) 0 place → CanHave (one_of Mutex true) Mutex content → IfSome critical (λ c. (c.0 < 1) × (1 ≤ c.1)) → Fits (parts (place ∷ []) (v ∷ []) (content ∷ []) critical (0 ∷ []))
formed place v content critical at fits h = record { actors = refl; suspensions = refl; variables = refl; objects = refl; places = places; contents = contents; critical = h }
  where
    places : (a : ℕ) → Exists (one_of Mutex true) a (place_of (parts (place ∷ []) (v ∷ []) (content ∷ []) critical (0 ∷ [])) a)
    places zero = at
    places (suc a) = tt

    contents : (o : ℕ) → CanHave (one_of Mutex true) (kind_of (one_of Mutex true) o) (content_of (parts (place ∷ []) (v ∷ []) (content ∷ []) critical (0 ∷ [])) o)
    contents zero = fits
    contents (suc o) = tt

-- nobody stands past the code, or inside what is no call
past : Exists (one_of Mutex true) 0 (At 1 Before) → ⊥
past h = let e = h.1 in cc

no-call : Exists (one_of Mutex true) 0 (At 0 Inside) → ⊥
no-call h = elim (subst (λ i. HasSide i Inside) (sym (same_Some _ _ h.1)) h.2) [ ]

pub worked-formed : WorkedFormed
worked-formed = record {
  well = formed (At 0 Before) (pos 4) (Held 0 1) (Some (0, 1)) (Goto 0, refl, tt) (omega arith, refl) (omega arith, omega arith);
  variable_out = formed Done (pos 10) Free None tt tt tt;
  actor_missing = λ w. absurd (omega (arith, w.actors));
  suspension_missing = λ w. absurd (omega (arith, w.suspensions));
  variable_missing = λ w. absurd (omega (arith, w.variables));
  object_missing = λ w. absurd (omega (arith, w.objects));
  past_the_code = λ w. past (w.places 0);
  inside_no_call = λ w. no-call (w.places 0);
  content_of_another_kind = λ w. w.contents 0;
  nobody_in_critical = λ w. absurd (omega (arith, w.critical.0));
  critical_at_zero = λ w. absurd (omega (arith, w.critical.1));
}

pub worked-contents : WorkedContents
worked-contents = record {
  full_queue = (omega (arith, ints), All-cons (λ v. (pos 0 ≤ℤ v) × (v ≤ℤ pos 9)) (pos 9) [] (omega (arith, ints), omega (arith, ints)) (All-nil (λ v. (pos 0 ≤ℤ v) × (v ≤ℤ pos 9))));
  queue_too_long = λ h. absurd (omega (arith, ints, h.0));
  queue_value_out = λ h. absurd (omega (arith, ints, (All-head (λ v. (pos 0 ≤ℤ v) × (v ≤ℤ pos 9)) (pos 10) [] h.1).1));
  binary_at_1 = omega arith;
  binary_at_2 = λ h. absurd (omega (arith, h));
  counting_at_its_size = omega (arith, ints);
  counting_above = λ h. absurd (omega (arith, ints, h));
  mutex_held_once = (omega arith, refl);
  mutex_held_twice = λ h. absurd (omega (arith, h.1));
  mutex_held_by_nobody = λ h. absurd (omega (arith, h.0));
  recursive_held_twice = (omega arith, omega arith);
  recursive_held_no_time = λ h. absurd (omega (arith, h.1));
  recursive_held_by_nobody = λ h. absurd (omega (arith, h.0));
  full_stream = omega (arith, ints);
  stream_above = λ h. absurd (omega (arith, ints, h));
  full_message_buffer = (let e : sum (5 ∷ 3 ∷ []) ≡ 8 = refl in omega (arith, ints, e), All-cons (λ n. 1 ≤ n) 5 (3 ∷ []) (omega arith) (All-cons (λ n. 1 ≤ n) 3 [] (omega arith) (All-nil (λ n. 1 ≤ n))));
  messages_above = λ h. let e : sum (5 ∷ 4 ∷ []) ≡ 9 = refl in absurd (omega (arith, ints, e, h.0));
  empty_message = λ h. absurd (omega (arith, All-head (λ n. 1 ≤ n) 0 [] h.1));
  dead_object = tt;
}

pub worked-new : WorkedNew
worked-new = record { queue = refl; binary = refl; counting = refl; mutex = refl; recursive = refl; stream = refl; message = refl }

pub worked-start : WorkedStart
worked-start = record { declared_live = refl; declared_dead = refl }

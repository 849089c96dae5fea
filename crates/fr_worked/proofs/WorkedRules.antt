-- The worked breaches, row by row.
use Rattle.std.proofs.Common.{◌≡◌, ℕ, zero, suc, [], Some, None, refl, sym, ap, ◌∙◌, subst, inr, arith}
use Rattle.std.specs.Prelude.{pos, IsTrue}
use Rattle.std.proofs.lemmas.Int.{ints}
use Rattle.std.proofs.lemmas.Option.{same_Some}
use Rattle.fr_program.specs.declared.instr.Instr.{Instr}
use Rattle.fr_program.specs.declared.instr.Instr.TheVariants.{Call as Calls}
use Rattle.fr_program.specs.declared.instr.Call.TheVariants.{Delay, DeleteSelf, On}
use Rattle.fr_program.specs.declared.instr.ObjectCall.{ObjectCall}
use Rattle.fr_program.specs.declared.instr.Act.TheVariants.{Try, Move}
use Rattle.fr_program.specs.declared.instr.Attempt.TheVariants.{Reset}
use Rattle.fr_program.specs.declared.instr.BufferKind.TheVariants.{Stream as OfStream}
use Rattle.fr_program.specs.declared.instr.Timing.TheVariants.{Now, Waits}
use Rattle.fr_program.specs.declared.ids.Side.{Side}
use Rattle.fr_program.specs.declared.ids.Side.TheVariants.{Before, Inside}
use Rattle.fr_program.specs.declared.parts.Kind.TheVariants.{Mutex, Recursive}
use Rattle.fr_program.specs.Program.{Program}
use Rattle.fr_program.specs.Lookup.{instr_at}
use Rattle.fr_rules.specs.State.{State, At, Dead, Values, Held, Bytes, place_of}
use Rattle.fr_rules.specs.declared.rules.Rule.{Rule}
use Rattle.fr_rules.specs.declared.rules.Rule.TheVariants.{OneWriter, OneReader, GivenByHolder, AllowedInCritical, IsLive, LifeInOrder, EndsInOrder, InRange}
use Rattle.fr_rules.specs.Rule.{End, Writer, Reader, is_at_end, Stands, IsInside, SharesEnd, Breach, Breaches}
use Rattle.fr_worked.specs.WorkedSteps.{x, on_thing, of_one, seen, before, inside, add_one, create, delete, give, give_recursive, queue_send, stream_send, stream_receive, reset, ten, queue, stream}
use Rattle.fr_worked.specs.WorkedRules.{two, both, both_inside, WorkedBreaches, WorkedLeast}

-- actor 0 stands at this side of its instruction 0 and breaches the rule
breach-at : (P : Program) (S : State) (side : Side) (i : Instr) (rule : Rule) → place_of S 0 ≡ At 0 side → instr_at P 0 0 ≡ Some i → Breaches P S 0 side i rule → Breach P S rule 0
breach-at P S side i rule at is b = record { side = side; instr = i; stands = record { pc = 0; at = at; is = is }; breaches = b }

abbrev sends : ObjectCall
sends = on_thing (Waits ten) (Move Writer OfStream 8 (Some x))

abbrev receives : ObjectCall
receives = on_thing (Waits ten) (Move Reader OfStream 8 (Some x))

abbrev resets : ObjectCall
resets = on_thing Now (Try (Reset OfStream) (Some 2))

-- both are inside their calls
inside-0 : (one other : ObjectCall) → one.object.0 ≡ 0 → IsInside (two stream (Calls (On one)) (Calls (On other))) both_inside 0 0 one
inside-0 one other is = (is, record { pc = 0; at = refl; is = refl })

inside-1 : (one other : ObjectCall) → other.object.0 ≡ 0 → IsInside (two stream (Calls (On one)) (Calls (On other))) both_inside 1 0 other
inside-1 one other is = (is, record { pc = 0; at = refl; is = refl })

shared : (end : End) (one other : ObjectCall) → one.object.0 ≡ 0 → other.object.0 ≡ 0 → IsTrue (is_at_end end one.act) → IsTrue (is_at_end end other.act) → SharesEnd (two stream (Calls (On one)) (Calls (On other))) both_inside 0 end
shared end one other is also h k = (0, one, other, 1, (λ e. absurd (omega (arith, e))), inside-0 one other is, inside-1 one other also, h, k)

-- an actor that stands at its instruction 0 has that instruction
one-instr : (P : Program) (S : State) (a : ℕ) (here side : Side) (i j : Instr) → place_of S a ≡ At 0 here → instr_at P a 0 ≡ Some i → Stands P S a side j → j ≡ i
one-instr P S a here side i j at is s =
    let e : At 0 here ≡ At s.pc side = sym at ∙ s.at in
    let pc : 0 ≡ s.pc = cc in
    same_Some _ _ (sym (subst (λ n. instr_at P a n ≡ Some j) (sym pc) s.is) ∙ is)

apart : (b : ℕ) (done : ObjectCall) → (b ≡ 0 → ⊥) → IsInside (two stream stream_send stream_receive) both_inside b 0 done → IsTrue (is_at_end Writer done.act) → ⊥
apart zero done ne inside h = ne refl
apart (suc zero) done ne (same, stands) h =
    let e : Calls (On done) ≡ stream_receive = one-instr (two stream stream_send stream_receive) both_inside 1 Inside Inside stream_receive (Calls (On done)) refl refl stands in
    let f : done ≡ receives = cc in
    let g : IsTrue (is_at_end Writer receives.act) = subst (λ a. IsTrue (is_at_end Writer a.act)) f h in
    cc
apart (suc (suc b)) done ne (same, stands) h = let e = stands.at in cc

no-sharing : Breach (two stream stream_send stream_receive) both_inside OneWriter 0 → ⊥
no-sharing breach =
    let b = breach.breaches in
    let zero : b.0 ≡ 0 = first b.0 b.1 b.5 in
    apart b.3 b.2 b.4 (subst (λ o. IsInside (two stream stream_send stream_receive) both_inside b.3 o b.2) zero b.6) b.8
  where
    first : (o : ℕ) (done : ObjectCall) → IsInside (two stream stream_send stream_receive) both_inside 0 o done → o ≡ 0
    first o done (same, stands) =
        let e : Calls (On done) ≡ stream_send = one-instr (two stream stream_send stream_receive) both_inside 0 Inside Inside stream_send (Calls (On done)) refl refl stands in
        let f : done ≡ sends = cc in
        sym same ∙ ap (λ done. done.object.0) f

no-giving : Breach (of_one Mutex give) (before (pos 0) (Held 0 1)) GivenByHolder 0 → ⊥
no-giving breach =
    let e = one-instr (of_one Mutex give) (before (pos 0) (Held 0 1)) 0 Before breach.side give breach.instr refl refl breach.stands in
    let b = subst (λ i. Breaches (of_one Mutex give) (before (pos 0) (Held 0 1)) 0 breach.side i GivenByHolder) e breach.breaches in
    absurd (omega (arith, b.1))

no-recursive-giving : Breach (of_one Recursive give_recursive) (before (pos 0) (Held 0 2)) GivenByHolder 0 → ⊥
no-recursive-giving breach =
    let e = one-instr (of_one Recursive give_recursive) (before (pos 0) (Held 0 2)) 0 Before breach.side give_recursive breach.instr refl refl breach.stands in
    let b = subst (λ i. Breaches (of_one Recursive give_recursive) (before (pos 0) (Held 0 2)) 0 breach.side i GivenByHolder) e breach.breaches in
    absurd (omega (arith, b.1))

pub worked-breaches : WorkedBreaches
worked-breaches = record {
  two_senders = breach-at (two stream stream_send stream_send) both_inside Inside stream_send OneWriter refl refl (shared Writer sends sends refl refl refl refl);
  sender_and_reset = breach-at (two stream stream_send reset) both_inside Inside stream_send OneWriter refl refl (shared Writer sends resets refl refl refl refl);
  receiver_and_reset = breach-at (two stream stream_receive reset) both_inside Inside stream_receive OneReader refl refl (shared Reader receives resets refl refl refl refl);
  sender_and_receiver = no-sharing;
  give_of_anothers = breach-at (of_one Mutex give) (before (pos 0) (Held 1 1)) Before give GivenByHolder refl refl (refl, refl);
  give_of_own = no-giving;
  recursive_give_of_anothers = breach-at (of_one Recursive give_recursive) (before (pos 0) (Held 1 1)) Before give_recursive GivenByHolder refl refl (refl, refl);
  recursive_give_of_own = no-recursive-giving;
  delay_in_critical = breach-at (of_one stream (Calls (Delay 1))) (seen (At 0 Before) (pos 0) Dead (Some (0, 1)) 0) Before (Calls (Delay 1)) AllowedInCritical refl refl refl;
  use_of_a_dead_buffer = breach-at (of_one stream stream_send) (inside (pos 0) Dead) Inside stream_send IsLive refl refl (0, refl, refl);
  delete_of_a_dead_buffer = breach-at (of_one stream delete) (before (pos 0) Dead) Before delete IsLive refl refl (0, refl, refl);
  delete_in_use = breach-at (two stream delete stream_receive) (both (At 0 Before) (At 0 Inside) (Bytes 0)) Before delete LifeInOrder refl refl (1, (λ e. absurd (omega (arith, e))), receives, (refl, record { pc = 0; at = refl; is = refl }));
  create_of_a_live_one = breach-at (of_one stream create) (before (pos 0) (Bytes 0)) Before create LifeInOrder refl refl (λ e. cc);
  end_with_a_mutex = breach-at (of_one Mutex (Calls DeleteSelf)) (before (pos 0) (Held 0 1)) Before (Calls DeleteSelf) EndsInOrder refl refl refl;
  end_in_a_critical_section = breach-at (of_one stream (Calls DeleteSelf)) (seen (At 0 Before) (pos 0) Dead (Some (0, 1)) 0) Before (Calls DeleteSelf) EndsInOrder refl refl refl;
  end_while_suspended = breach-at (of_one stream (Calls DeleteSelf)) (seen (At 0 Before) (pos 0) Dead None 1) Before (Calls DeleteSelf) EndsInOrder refl refl refl;
  set_out_of_range = breach-at (of_one stream add_one) (before (pos 9) Dead) Before add_one InRange refl refl (inr (omega (arith, ints)));
  send_out_of_range = breach-at (of_one queue queue_send) (inside (pos 10) (Values [])) Inside queue_send InRange refl refl (inr (omega (arith, ints)));
}

pub worked-least : WorkedLeast
worked-least = record {
  send_in_critical = refl;
  send_forever_in_critical = refl;
  send_at_once_in_critical = refl;
  send_from_isr_in_critical = refl;
  queue_send_in_critical = refl;
  take_in_critical = refl;
  delay_suspended = refl;
  send_suspended = refl;
  enter_suspended = refl;
  give_in_interrupt = refl;
  enter_in_interrupt = refl;
  mutex_in_interrupt = refl;
  binary_in_interrupt = refl;
  plain_of_recursive = refl;
  recursive_of_plain = refl;
  exit_at_zero = refl;
  resume_at_zero = refl;
  return_of_a_task = refl;
  return_in_critical = refl;
  return_of_an_interrupt = refl;
  end_at_zero = refl;
  end_in_critical = refl;
  end_suspended = refl;
  end_holding = refl;
}

-- The worked steps, row by row. Each is the row of the table, and that nothing stops the actor.
use Rattle.std.proofs.Common.{◌≡◌, [], ◌∷◌, Some, None, refl, sym, ◌∙◌, subst, arith}
use Rattle.std.specs.Prelude.{ℤ, pos, IsTrue}
use Rattle.std.proofs.lemmas.Int.{ints}
use Rattle.std.proofs.lemmas.Option.{same_Some}
use Rattle.fr_program.specs.declared.instr.Instr.{Instr}
use Rattle.fr_program.specs.declared.instr.Instr.TheVariants.{Goto, Pick, Call as Calls, Return}
use Rattle.fr_program.specs.declared.instr.Call.TheVariants.{SuspendAll, ResumeAll, Delay, DeleteSelf}
use Rattle.fr_program.specs.declared.instr.BlockTime.TheVariants.{Ticks, MaxDelay}
use Rattle.fr_program.specs.declared.ids.Side.{Side}
use Rattle.fr_program.specs.declared.ids.Side.TheVariants.{Before, Inside}
use Rattle.fr_program.specs.declared.parts.Kind.{Kind}
use Rattle.fr_program.specs.declared.parts.Kind.TheVariants.{Binary, Counting, Mutex, Recursive}
use Rattle.fr_program.specs.declared.parts.ActorKind.TheVariants.{Interrupt}
use Rattle.fr_program.specs.Program.{Program}
use Rattle.fr_program.specs.Lookup.{instr_at}
use Rattle.fr_rules.specs.State.{State, At, Dead, Values, Count, Free, Held, Bytes, Lengths, place_of, content_of, goes_to}
use Rattle.fr_rules.specs.declared.rules.Rule.{Rule}
use Rattle.fr_rules.specs.declared.rules.Rule.TheVariants.{GivenByHolder, AllowedInCritical, AllowedSuspended, AllowedInInterrupt, IsLive, SuitsSemaphore, DepthAboveZero, EndsInOrder}
use Rattle.fr_rules.specs.Rule.{GivesUnheld, UsesDead, Breaches, used_object}
use Rattle.fr_rules.specs.declared.way.Way.{Way}
use Rattle.fr_rules.specs.declared.way.Way.TheVariants.{Then, Else}
use Rattle.fr_rules.specs.Step.{Row, SuitsInside, Step, StepBy, landing, stops, sent_bytes, received_bytes, transition}
use Rattle.fr_worked.specs.WorkedSteps.{x, beside, of_one, seen, before, inside, next, other, Steps, ten, add_one, if_below, enter, exit, create, create_counting, delete, take, take_at_once, take_recursive, give, give_recursive, queue_send, queue_receive, queue_receive_at_once, stream_send, stream_receive, message_send, message_receive, reset, queue, stream, message, counts_once, WorkedInstrs, WorkedEnds, HasNoStep, WorkedStops, HasNoChoice, WorkedBounds, WorkedComparisons, WorkedRun}
use Rattle.fr_rules.proofs.Free.{before-free, inside-free, no-use, live-use, least_here}

-- a step before the instruction, by its row
before-steps : (kind : Kind) (i : Instr) (way : Way) (S : State) (c : ℤ) (mid S' : State) → place_of S 0 ≡ At 0 Before → least_here (of_one kind i) S 0 i ≡ None → (GivesUnheld (of_one kind i) S 0 i → ⊥) → (UsesDead S i Before → ⊥) → Row (of_one kind i) (transition S 0 c mid) Before i way → S' ≡ goes_to 0 (landing 0 Before i way) mid → Steps kind i S c S'
before-steps kind i way S c mid S' at least gives uses row moved =
    (way, record { pc = 0; side = Before; instr = i; at = at; is = refl; free = before-free (of_one kind i) S 0 i least gives uses; mid = mid; row = row; moved = moved })

-- the same of an instruction that uses no object
plain-steps : (kind : Kind) (i : Instr) (way : Way) (S : State) (c : ℤ) (mid S' : State) → place_of S 0 ≡ At 0 Before → least_here (of_one kind i) S 0 i ≡ None → (GivesUnheld (of_one kind i) S 0 i → ⊥) → used_object i Before ≡ None → Row (of_one kind i) (transition S 0 c mid) Before i way → S' ≡ goes_to 0 (landing 0 Before i way) mid → Steps kind i S c S'
plain-steps kind i way S c mid S' at least gives none row moved =
    before-steps kind i way S c mid S' at least gives (no-use (of_one kind i) S 0 i Before none) row moved

-- a step inside an object call, by its row
inside-steps : (kind : Kind) (i : Instr) (way : Way) (S : State) (c : ℤ) (mid S' : State) → place_of S 0 ≡ At 0 Inside → SuitsInside (of_one kind i) Inside i → (GivesUnheld (of_one kind i) S 0 i → ⊥) → used_object i Inside ≡ Some 0 → (content_of S 0 ≡ Dead → ⊥) → Row (of_one kind i) (transition S 0 c mid) Inside i way → S' ≡ goes_to 0 (landing 0 Inside i way) mid → Steps kind i S c S'
inside-steps kind i way S c mid S' at suits gives used live row moved =
    (way, record { pc = 0; side = Inside; instr = i; at = at; is = refl; free = inside-free (of_one kind i) S 0 i suits gives (live-use (of_one kind i) S 0 i Inside 0 used live); mid = mid; row = row; moved = moved })

none : ⊥ → ⊥
none h = h

pub worked-instrs : WorkedInstrs
worked-instrs = record {
  set_adds = plain-steps stream add_one Then (before (pos 4) Dead) (pos 0) (before (pos 5) Dead) (next (pos 5) Dead) refl refl none refl (refl, refl) refl;
  set_leaves_the_range = plain-steps stream add_one Then (before (pos 9) Dead) (pos 0) (before (pos 10) Dead) (next (pos 10) Dead) refl refl none refl (refl, refl) refl;
  if_is_true = plain-steps stream if_below Then (before (pos 4) Dead) (pos 0) (before (pos 4) Dead) (other (pos 4) Dead) refl refl none refl (refl, refl, refl) refl;
  if_is_false = plain-steps stream if_below Else (before (pos 5) Dead) (pos 0) (before (pos 5) Dead) (next (pos 5) Dead) refl refl none refl (refl, refl, refl) refl;
  goto_goes = plain-steps stream (Goto 2) Then (before (pos 0) Dead) (pos 0) (before (pos 0) Dead) (other (pos 0) Dead) refl refl none refl (refl, refl) refl;
  pick_picks = plain-steps stream (Pick x (pos 3) (pos 7)) Then (before (pos 0) Dead) (pos 6) (before (pos 6) Dead) (next (pos 6) Dead) refl refl none refl (omega (arith, ints), omega (arith, ints), refl) refl;
  enter_goes_in = plain-steps stream enter Then (before (pos 0) Dead) (pos 0) (seen (At 0 Before) (pos 0) Dead (Some (0, 1)) 0) (seen (At 1 Before) (pos 0) Dead (Some (0, 1)) 0) refl refl none refl (refl, tt, refl) refl;
  enter_goes_deeper = plain-steps stream enter Then (seen (At 0 Before) (pos 0) Dead (Some (0, 1)) 0) (pos 0) (seen (At 0 Before) (pos 0) Dead (Some (0, 2)) 0) (seen (At 1 Before) (pos 0) Dead (Some (0, 2)) 0) refl refl none refl (refl, refl, refl) refl;
  exit_goes_up = plain-steps stream exit Then (seen (At 0 Before) (pos 0) Dead (Some (0, 2)) 0) (pos 0) (seen (At 0 Before) (pos 0) Dead (Some (0, 1)) 0) (seen (At 1 Before) (pos 0) Dead (Some (0, 1)) 0) refl refl none refl (refl, refl) refl;
  exit_goes_out = plain-steps stream exit Then (seen (At 0 Before) (pos 0) Dead (Some (0, 1)) 0) (pos 0) (before (pos 0) Dead) (next (pos 0) Dead) refl refl none refl (refl, refl) refl;
  suspend_goes_up = plain-steps stream (Calls SuspendAll) Then (before (pos 0) Dead) (pos 0) (seen (At 0 Before) (pos 0) Dead None 1) (seen (At 1 Before) (pos 0) Dead None 1) refl refl none refl (refl, refl) refl;
  resume_goes_down = plain-steps stream (Calls ResumeAll) Then (seen (At 0 Before) (pos 0) Dead None 1) (pos 0) (before (pos 0) Dead) (next (pos 0) Dead) refl refl none refl (refl, refl) refl;
  delay_goes_on = plain-steps stream (Calls (Delay 1)) Then (before (pos 0) Dead) (pos 0) (before (pos 0) Dead) (next (pos 0) Dead) refl refl none refl (refl, refl) refl;
  delete_self_ends = plain-steps stream (Calls DeleteSelf) Then (before (pos 0) Dead) (pos 0) (before (pos 0) Dead) _ refl refl none refl (refl, refl) refl;
  create_works = plain-steps stream create Then (before (pos 0) Dead) (pos 1) (before (pos 0) (Bytes 0)) (next (pos 0) (Bytes 0)) refl refl none refl (refl, refl, refl) refl;
  create_counting_begins_at_its_first_count = plain-steps (Counting (pos 3) (pos 2)) create_counting Then (before (pos 0) Dead) (pos 1) (before (pos 0) (Count 2)) (next (pos 0) (Count 2)) refl refl none refl (refl, refl, refl) refl;
  create_fails = plain-steps stream create Else (before (pos 0) Dead) (pos 0) (before (pos 0) Dead) (other (pos 0) Dead) refl refl none refl (refl, refl, refl) refl;
  delete_works = before-steps stream delete Then (before (pos 0) (Bytes 3)) (pos 0) (before (pos 0) Dead) (next (pos 0) Dead) refl refl none (live-use (of_one stream delete) (before (pos 0) (Bytes 3)) 0 delete Before 0 refl (λ e. cc)) (refl, refl) refl;
  call_begins = before-steps Mutex (take ten) Then (before (pos 0) (Held 1 1)) (pos 0) (before (pos 0) (Held 1 1)) (inside (pos 0) (Held 1 1)) refl refl none (live-use (of_one Mutex (take ten)) (before (pos 0) (Held 1 1)) 0 (take ten) Before 0 refl (λ e. cc)) (refl, refl) refl;
}

pub worked-ends : WorkedEnds
worked-ends = record {
  take_of_recursive = inside-steps Recursive take_recursive Then (inside (pos 0) Free) (pos 1) (inside (pos 0) (Held 0 1)) (next (pos 0) (Held 0 1)) refl refl none refl (λ e. cc) (refl, (_, refl, refl)) refl;
  take_from_interrupt_fails = inside-steps Binary take_at_once Else (inside (pos 0) (Count 0)) (pos 0) (inside (pos 0) (Count 0)) (other (pos 0) (Count 0)) refl refl none refl (λ e. cc) (refl, refl, refl) refl;
  give_of_binary = inside-steps Binary give Then (inside (pos 0) (Count 0)) (pos 1) (inside (pos 0) (Count 1)) (next (pos 0) (Count 1)) refl refl (λ h. let e = h.0 in cc) refl (λ e. cc) (refl, (_, refl, refl)) refl;
  give_of_full_binary = inside-steps Binary give Else (inside (pos 0) (Count 1)) (pos 0) (inside (pos 0) (Count 1)) (other (pos 0) (Count 1)) refl refl (λ h. let e = h.0 in cc) refl (λ e. cc) (refl, refl, refl) refl;
  queue_receive_from_interrupt_fails = inside-steps queue queue_receive_at_once Else (inside (pos 0) (Values [])) (pos 0) (inside (pos 0) (Values [])) (other (pos 0) (Values [])) refl refl none refl (λ e. cc) (refl, refl, refl) refl;
  queue_receive_times_out = inside-steps queue queue_receive Else (inside (pos 4) (Values [])) (pos 0) (inside (pos 4) (Values [])) (other (pos 4) (Values [])) refl refl none refl (λ e. cc) (refl, refl, refl) refl;
  take_of_mutex = inside-steps Mutex (take MaxDelay) Then (inside (pos 0) Free) (pos 1) (inside (pos 0) (Held 0 1)) (next (pos 0) (Held 0 1)) refl refl none refl (λ e. cc) (refl, (_, refl, refl)) refl;
  take_again = inside-steps Recursive take_recursive Then (inside (pos 0) (Held 0 1)) (pos 1) (inside (pos 0) (Held 0 2)) (next (pos 0) (Held 0 2)) refl refl none refl (λ e. cc) (refl, (_, refl, refl)) refl;
  take_of_binary = inside-steps Binary (take ten) Then (inside (pos 0) (Count 1)) (pos 1) (inside (pos 0) (Count 0)) (next (pos 0) (Count 0)) refl refl none refl (λ e. cc) (refl, (_, refl, refl)) refl;
  take_times_out = inside-steps Mutex (take ten) Else (inside (pos 0) (Held 1 1)) (pos 0) (inside (pos 0) (Held 1 1)) (other (pos 0) (Held 1 1)) refl refl none refl (λ e. cc) (refl, refl, refl) refl;
  take_fails_at_once = inside-steps Mutex (take (Ticks 0)) Else (inside (pos 0) Free) (pos 0) (inside (pos 0) Free) (other (pos 0) Free) refl refl none refl (λ e. cc) (refl, refl, refl) refl;
  give_of_mutex = inside-steps Mutex give Then (inside (pos 0) (Held 0 1)) (pos 1) (inside (pos 0) Free) (next (pos 0) Free) refl refl (λ h. absurd (omega (arith, h.1))) refl (λ e. cc) (refl, (_, refl, refl)) refl;
  give_once = inside-steps Recursive give_recursive Then (inside (pos 0) (Held 0 2)) (pos 1) (inside (pos 0) (Held 0 1)) (next (pos 0) (Held 0 1)) refl refl (λ h. absurd (omega (arith, h.1))) refl (λ e. cc) (refl, (_, refl, refl)) refl;
  give_last = inside-steps Recursive give_recursive Then (inside (pos 0) (Held 0 1)) (pos 1) (inside (pos 0) Free) (next (pos 0) Free) refl refl (λ h. absurd (omega (arith, h.1))) refl (λ e. cc) (refl, (_, refl, refl)) refl;
  give_of_counting = inside-steps (Counting (pos 2) (pos 0)) give Then (inside (pos 0) (Count 1)) (pos 1) (inside (pos 0) (Count 2)) (next (pos 0) (Count 2)) refl refl (λ h. let e = h.0 in cc) refl (λ e. cc) (refl, (_, refl, refl)) refl;
  give_is_refused = inside-steps (Counting (pos 2) (pos 0)) give Else (inside (pos 0) (Count 2)) (pos 0) (inside (pos 0) (Count 2)) (other (pos 0) (Count 2)) refl refl (λ h. let e = h.0 in cc) refl (λ e. cc) (refl, refl, refl) refl;
  queue_send_puts_last = inside-steps queue queue_send Then (inside (pos 4) (Values (pos 3 ∷ []))) (pos 1) (inside (pos 4) (Values (pos 3 ∷ pos 4 ∷ []))) (next (pos 4) (Values (pos 3 ∷ pos 4 ∷ []))) refl refl none refl (λ e. cc) (refl, (_, refl, refl)) refl;
  queue_send_times_out = inside-steps queue queue_send Else (inside (pos 4) (Values (pos 3 ∷ []))) (pos 0) (inside (pos 4) (Values (pos 3 ∷ []))) (other (pos 4) (Values (pos 3 ∷ []))) refl refl none refl (λ e. cc) (refl, refl, refl) refl;
  queue_receive_takes_first = inside-steps queue queue_receive Then (inside (pos 0) (Values (pos 3 ∷ pos 4 ∷ []))) (pos 1) (inside (pos 3) (Values (pos 4 ∷ []))) (next (pos 3) (Values (pos 4 ∷ []))) refl refl none refl (λ e. cc) (refl, (pos 3, pos 4 ∷ [], refl, refl)) refl;
  stream_send_moves_some = inside-steps stream stream_send Then (inside (pos 0) (Bytes 2)) (pos 3) (inside (pos 3) (Bytes 5)) (next (pos 3) (Bytes 5)) refl refl none refl (λ e. cc) (3, refl, omega arith, (inside (pos 0) (Bytes 5), (_, refl, refl), refl)) refl;
  stream_receive_moves_some = inside-steps stream stream_receive Then (inside (pos 0) (Bytes 5)) (pos 2) (inside (pos 2) (Bytes 3)) (next (pos 2) (Bytes 3)) refl refl none refl (λ e. cc) (2, refl, omega arith, (inside (pos 0) (Bytes 3), (_, refl, refl), refl)) refl;
  message_send_sends_none = inside-steps message message_send Else (inside (pos 0) (Lengths (5 ∷ []))) (pos 0) (inside (pos 0) (Lengths (5 ∷ []))) (next (pos 0) (Lengths (5 ∷ []))) refl refl none refl (λ e. cc) (refl, refl) refl;
  message_send_sends_all = inside-steps message message_send Then (inside (pos 0) (Lengths (5 ∷ []))) (pos 8) (inside (pos 0) (Lengths (5 ∷ 8 ∷ []))) (next (pos 0) (Lengths (5 ∷ 8 ∷ []))) refl refl none refl (λ e. cc) (refl, (inside (pos 0) (Lengths (5 ∷ 8 ∷ [])), (_, refl, refl), refl)) refl;
  message_receive_gets_none = inside-steps message message_receive Else (inside (pos 4) (Lengths (3 ∷ 5 ∷ []))) (pos 0) (inside (pos 0) (Lengths (3 ∷ 5 ∷ []))) (next (pos 0) (Lengths (3 ∷ 5 ∷ []))) refl refl none refl (λ e. cc) (refl, refl) refl;
  message_receive_takes_first = inside-steps message message_receive Then (inside (pos 0) (Lengths (3 ∷ 5 ∷ []))) (pos 3) (inside (pos 3) (Lengths (5 ∷ []))) (next (pos 3) (Lengths (5 ∷ []))) refl refl none refl (λ e. cc) (3, refl, omega arith, (inside (pos 0) (Lengths (5 ∷ [])), (_, refl, refl), refl)) refl;
  reset_empties = inside-steps stream reset Then (inside (pos 0) (Bytes 5)) (pos 1) (inside (pos 0) (Bytes 0)) (next (pos 0) (Bytes 0)) refl refl none refl (λ e. cc) (refl, refl) refl;
  reset_fails = inside-steps stream reset Else (inside (pos 0) (Bytes 5)) (pos 0) (inside (pos 0) (Bytes 5)) (other (pos 0) (Bytes 5)) refl refl none refl (λ e. cc) (refl, refl, refl) refl;
}

-- A step of actor 0 from this side of its instruction 0 is by a row of that instruction, and nothing stops it.
module _ (P : Program) (S : State) (side : Side) (i : Instr) (at : place_of S 0 ≡ At 0 side) (is : instr_at P 0 0 ≡ Some i) where
  where-it-is : (way : Way) (c : ℤ) (S' : State) → (t : StepBy P way S 0 c S') → (t.side ≡ side) × (t.instr ≡ i)
  where-it-is way c S' t =
      let e : At 0 side ≡ At t.pc t.side = sym at ∙ t.at in
      let pc : 0 ≡ t.pc = cc in
      (cc, same_Some _ _ (sym (subst (λ n. instr_at P 0 n ≡ Some t.instr) (sym pc) t.is) ∙ is))

  row-of : (way : Way) (c : ℤ) (S' : State) → (t : StepBy P way S 0 c S') → Row P (transition S 0 c t.mid) side i way
  row-of way c S' t =
      let e = where-it-is way c S' t in
      subst (λ s. Row P (transition S 0 c t.mid) s i way) e.0 (subst (λ j. Row P (transition S 0 c t.mid) t.side j way) e.1 t.row)

  -- no row fits the state
  rowless : ((way : Way) (c : ℤ) (mid : State) → Row P (transition S 0 c mid) side i way → ⊥) → HasNoStep P S
  rowless none c S' (way, t) = none way c t.mid (row-of way c S' t)

  -- the actor breaches a rule at whose breach there is no step
  stopped : (rule : Rule) → IsTrue (stops rule) → Breaches P S 0 side i rule → HasNoStep P S
  stopped rule s b c S' (way, t) =
      let e = where-it-is way c S' t in
      t.free.0 rule s (subst (λ z. Breaches P S 0 z t.instr rule) (sym e.0) (subst (λ j. Breaches P S 0 side j rule) (sym e.1) b))

  -- the actor is inside a take or give that doesn't suit the kind of semaphore
  unsuited : (SuitsInside P side i → ⊥) → HasNoStep P S
  unsuited not c S' (way, t) =
      let e = where-it-is way c S' t in
      not (subst (λ s. SuitsInside P s i) e.0 (subst (λ j. SuitsInside P t.side j) e.1 t.free.1))

enter-rowless : (way : Way) (c : ℤ) (mid : State) → Row (of_one stream enter) (transition (seen (At 0 Before) (pos 0) Dead (Some (1, 1)) 0) 0 c mid) Before enter way → ⊥
enter-rowless Then c mid h = absurd (omega (arith, h.1))
enter-rowless Else c mid h = h

take-rowless : (way : Way) (c : ℤ) (mid : State) → Row (of_one Mutex (take MaxDelay)) (transition (inside (pos 0) (Held 1 1)) 0 c mid) Inside (take MaxDelay) way → ⊥
take-rowless Then c mid h = let e = h.1.1 in cc
take-rowless Else c mid h = let e = h.1 in cc

create-rowless : (way : Way) (c : ℤ) (mid : State) → Row (of_one stream create) (transition (before (pos 0) (Bytes 0)) 0 c mid) Before create way → ⊥
create-rowless Then c mid h = let e = h.1 in cc
create-rowless Else c mid h = let e = h.1 in cc

pub worked-stops : WorkedStops
worked-stops = record {
  enter_waits = rowless (of_one stream enter) (seen (At 0 Before) (pos 0) Dead (Some (1, 1)) 0) Before enter refl refl enter-rowless;
  take_waits = rowless (of_one Mutex (take MaxDelay)) (inside (pos 0) (Held 1 1)) Inside (take MaxDelay) refl refl take-rowless;
  delay_needs_no_critical_section = stopped (of_one stream (Calls (Delay 1))) (seen (At 0 Before) (pos 0) Dead (Some (0, 1)) 0) Before (Calls (Delay 1)) refl refl AllowedInCritical refl refl;
  delay_needs_no_suspension = stopped (of_one stream (Calls (Delay 1))) (seen (At 0 Before) (pos 0) Dead None 1) Before (Calls (Delay 1)) refl refl AllowedSuspended refl refl;
  delay_needs_a_task = stopped (beside Interrupt stream (Calls (Delay 1) ∷ Goto 0 ∷ []) (Goto 0)) (before (pos 0) Dead) Before (Calls (Delay 1)) refl refl AllowedInInterrupt refl refl;
  send_needs_a_live_buffer = stopped (of_one stream stream_send) (before (pos 0) Dead) Before stream_send refl refl IsLive refl (0, refl, refl);
  send_needs_it_to_the_end = stopped (of_one stream stream_send) (inside (pos 0) Dead) Inside stream_send refl refl IsLive refl (0, refl, refl);
  delete_needs_a_live_object = stopped (of_one stream delete) (before (pos 0) Dead) Before delete refl refl IsLive refl (0, refl, refl);
  take_needs_its_kind = stopped (of_one Recursive (take ten)) (before (pos 0) Free) Before (take ten) refl refl SuitsSemaphore refl refl;
  recursive_give_needs_a_holder = stopped (of_one Recursive give_recursive) (inside (pos 0) (Held 1 1)) Inside give_recursive refl refl GivenByHolder refl (refl, refl);
  take_inside_needs_its_kind = unsuited (of_one Recursive (take ten)) (inside (pos 0) Free) Inside (take ten) refl refl (λ h. cc);
  give_needs_a_holder = stopped (of_one Mutex give) (inside (pos 0) (Held 1 1)) Inside give refl refl GivenByHolder refl (refl, refl);
  exit_needs_a_depth = stopped (of_one stream exit) (before (pos 0) Dead) Before exit refl refl DepthAboveZero refl refl;
  a_task_never_returns = stopped (of_one stream Return) (before (pos 0) Dead) Before Return refl refl EndsInOrder refl refl;
  create_needs_a_dead_object = rowless (of_one stream create) (before (pos 0) (Bytes 0)) Before create refl refl create-rowless;
  done_is_done = λ c S' t. let e = t.1.at in cc;
}

-- A step of actor 0 with a choice is by a row with that choice, so there is none where no row has it.
choiceless : (kind : Kind) (S : State) (side : Side) (i : Instr) (c : ℤ) → place_of S 0 ≡ At 0 side → ((way : Way) (mid : State) → Row (of_one kind i) (transition S 0 c mid) side i way → ⊥) → HasNoChoice kind i S c
choiceless kind S side i c at none S' (way, t) = none way t.mid (row-of (of_one kind i) S side i at refl way c S' t)

pick-bound : (way : Way) (mid : State) → Row (of_one stream (Pick x (pos 3) (pos 7))) (transition (before (pos 0) Dead) 0 (pos 8) mid) Before (Pick x (pos 3) (pos 7)) way → ⊥
pick-bound Then mid h = absurd (omega (arith, ints, h.1))
pick-bound Else mid h = h

send-bound : (way : Way) (mid : State) → Row (of_one stream stream_send) (transition (inside (pos 0) (Bytes 6)) 0 (pos 3) mid) Inside stream_send way → ⊥
send-bound Then mid h =
    let k : h.0 ≡ 3 = omega (arith, ints, h.1) in
    let e = subst (λ n. sent_bytes n stream (Bytes 6) ≡ Some h.3.1.0) k h.3.1.1 in
    cc
send-bound Else mid h = h

receive-bound : (way : Way) (mid : State) → Row (of_one stream stream_receive) (transition (inside (pos 0) (Bytes 2)) 0 (pos 3) mid) Inside stream_receive way → ⊥
receive-bound Then mid h =
    let k : h.0 ≡ 3 = omega (arith, ints, h.1) in
    let e = subst (λ n. received_bytes n (Bytes 2) ≡ Some h.3.1.0) k h.3.1.1 in
    cc
receive-bound Else mid h = h

whole-message : (way : Way) (mid : State) → Row (of_one message message_send) (transition (inside (pos 0) (Lengths [])) 0 (pos 3) mid) Inside message_send way → ⊥
whole-message Then mid h = absurd (omega (arith, ints, h.0))
whole-message Else mid h = absurd (omega (arith, ints, h.0))

long-message : (way : Way) (mid : State) → Row (of_one message message_receive) (transition (inside (pos 0) (Lengths (9 ∷ []))) 0 (pos 9) mid) Inside message_receive way → ⊥
long-message Then mid h = absurd (omega (arith, ints, h.1, h.2))
long-message Else mid h = absurd (omega (arith, ints, h.0))

full-queue : (way : Way) (mid : State) → Row (of_one queue queue_send) (transition (inside (pos 4) (Values (pos 3 ∷ pos 3 ∷ []))) 0 (pos 1) mid) Inside queue_send way → ⊥
full-queue Then mid h = let e = h.1.1 in cc
full-queue Else mid h = absurd (omega (arith, ints, h.0))

pub worked-bounds : WorkedBounds
worked-bounds = record {
  pick_stays_within = choiceless stream (before (pos 0) Dead) Before (Pick x (pos 3) (pos 7)) (pos 8) refl pick-bound;
  stream_send_stays_within = choiceless stream (inside (pos 0) (Bytes 6)) Inside stream_send (pos 3) refl send-bound;
  stream_receive_stays_within = choiceless stream (inside (pos 0) (Bytes 2)) Inside stream_receive (pos 3) refl receive-bound;
  message_send_is_whole = choiceless message (inside (pos 0) (Lengths [])) Inside message_send (pos 3) refl whole-message;
  message_receive_has_room = choiceless message (inside (pos 0) (Lengths (9 ∷ []))) Inside message_receive (pos 9) refl long-message;
  queue_send_has_room = choiceless queue (inside (pos 4) (Values (pos 3 ∷ pos 3 ∷ []))) Inside queue_send (pos 1) refl full-queue;
}

pub worked-comparisons : WorkedComparisons
worked-comparisons = record { less = refl; at_most = refl; greater = refl; at_least = refl; equal = refl; not_equal = refl }

counting : Step counts_once (before (pos 0) (Bytes 0)) 0 (pos 0) (next (pos 1) (Bytes 0))
counting =
    (Then, record { pc = 0; side = Before; instr = add_one; at = refl; is = refl; free = before-free counts_once (before (pos 0) (Bytes 0)) 0 add_one refl none (no-use counts_once (before (pos 0) (Bytes 0)) 0 add_one Before refl); mid = before (pos 1) (Bytes 0); row = (refl, refl); moved = refl })

returning : Step counts_once (next (pos 1) (Bytes 0)) 0 (pos 0) (before (pos 1) (Bytes 0))
returning =
    (Then, record { pc = 1; side = Before; instr = Return; at = refl; is = refl; free = before-free counts_once (next (pos 1) (Bytes 0)) 0 Return refl none (no-use counts_once (next (pos 1) (Bytes 0)) 0 Return Before refl); mid = next (pos 1) (Bytes 0); row = (refl, refl); moved = refl })

pub worked-run : WorkedRun
worked-run = (refl, ((0, pos 0, counting), ((0, pos 0, returning), tt)))

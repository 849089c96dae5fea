-- What a step changes of what the notes of other actors say, row by row. The actor a moves, and b is another one.
use Rattle.std.proofs.Common.{◌≡◌, ◌≢◌, ℕ, suc, ◌+◌, ◌-◌, ◌≤◌, [], ◌∷◌, ◌++◌, length, Option, Some, None, Bool, true, false, refl, sym, ap, ◌∙◌, subst, arith, inl, inr}
use Rattle.std.specs.Prelude.{◌<◌, ℤ, pos, All, ◌⊎◌, IsTrue, IsFalse, IfSome, nat_eq, nat_lt, int_lt, int_le, if◌then◌else◌, sum}
use Rattle.fr_effects.proofs.Terms.{ints, eqb-true, same_Some, cond_some, ObjId, VarId, Side, Before, Inside, Instr, Set, If, Goto, Pick, Calls, Return, Call, EnterCritical, ExitCritical, SuspendAll}
use Rattle.fr_effects.proofs.Terms.{ResumeAll, Yield, Delay, DeleteSelf, Create, Delete, On, ObjectCall, Act, Try, Move, Attempt, QueueSend, QueueReceive, Take, Give, Reset, End, Writer, Reader}
use Rattle.fr_effects.proofs.Terms.{Timing, BufferKind, OfStream, OfMessage, Kind, Queue, Binary, Counting, Mutex, Recursive, Stream, Message, Program, is_buffer, acts_on, State, Content, Dead}
use Rattle.fr_effects.proofs.Terms.{Values, Count, Free, Held, Bytes, Lengths, CanHave, IsWellFormed, content_of, value_of, depth_in, depth_of, suspension_of, count_held, kind_of, new_content, write}
use Rattle.fr_effects.proofs.Terms.{becomes, suspend_at, held_at, GivesUnheld, is_unsuited, operand_of, Way, Then, Else, Row, Does, Works, Ends, Puts, Moves, with_result, transition, taken, given}
use Rattle.fr_effects.proofs.Terms.{queued, moved_bytes, sent_message, received_message, set_case, Claim, NotHeld, Alive, Gone, HeldTimes, Meets, depth_for-other, held_at-other, Effect, Nothing}
use Rattle.fr_effects.proofs.Terms.{Life, Gives, Sets, effect_inside, effect_of, IsMade, IsWritten, IsSeen, HasTarget, NamesThings, act_variables}
use Rattle.fr_program.specs.declared.instr.Timing.TheVariants.{Now, FromIsr, Waits}
use Rattle.fr_program.specs.declared.instr.SemaphoreForm.{SemaphoreForm}
use Rattle.fr_program.specs.declared.instr.SemaphoreForm.TheVariants.{Plain as PlainForm, Recursive as RecursiveForm}
use Rattle.fr_program.specs.Timings.{suits_timing}
use Rattle.fr_rules.specs.declared.rules.Rule.TheVariants.{GivenByHolder, IsLive, DepthAboveZero}
use Rattle.fr_rules.specs.Step.{IsFree}
use Rattle.fr_rules.proofs.Endings.{on}

-- ---- contents

-- a live content that this actor doesn't hold
abbrev IsOthers : ℕ → Content → Type 0
IsOthers b Dead = ⊥
IsOthers b (Held holder n) = holder ≢ b
IsOthers b content = Unit {0}

others-unheld : (b : ℕ) (content : Content) → IsOthers b content → count_held b content ≡ 0
others-unheld b Dead h = absurd h
others-unheld b (Held holder n) h = depth_for-other holder n b (λ e. h (sym e))
others-unheld b (Values vs) h = refl
others-unheld b (Count n) h = refl
others-unheld b Free h = refl
others-unheld b (Bytes n) h = refl
others-unheld b (Lengths ls) h = refl

others-live : (b : ℕ) (content : Content) → IsOthers b content → content ≢ Dead
others-live b Dead h e = h
others-live b content h e = cc

others-apart : (b : ℕ) (content : Content) (n : ℕ) → IsOthers b content → content ≡ Held b n → ⊥
others-apart b content n h e = let k : IsOthers b (Held b n) = subst (λ c. IsOthers b c) e h in k refl

-- from one such content to another, each claim stays true
others-alike : (b : ℕ) (old new : Content) → IsOthers b old × IsOthers b new → (claim : Claim) → Meets b claim old → Meets b claim new
others-alike b old new o NotHeld m = others-unheld b new o.1
others-alike b old new o Alive m = (others-live b new o.1, others-unheld b new o.1)
others-alike b old new o Gone m = absurd (others-live b old o.0 m)
others-alike b old new o (HeldTimes n) m = absurd (others-apart b old n o.0 m)

new-others : (b : ℕ) (kind : Kind) → IsOthers b (new_content kind)
new-others b (Queue size lo hi) = tt
new-others b kind = tt

module _ (a b : ℕ) (ne : b ≢ a) where
  taken-others : (kind : Kind) (content new : Content) → taken kind a content ≡ Some new → IsOthers b content × IsOthers b new
  taken-others Mutex Free new e = (tt, subst (λ c. IsOthers b c) (same_Some _ _ e) (λ h. ne (sym h)))
  taken-others Recursive Free new e = (tt, subst (λ c. IsOthers b c) (same_Some _ _ e) (λ h. ne (sym h)))
  taken-others Recursive (Held holder n) new e =
      let f = cond_some (nat_eq holder a) (Held a (n + 1)) new e in
      let mine = eqb-true holder a f.0 in
      ((λ h. ne (sym h ∙ mine)), subst (λ c. IsOthers b c) f.1 (λ h. ne (sym h)))
  taken-others Binary (Count (suc n)) new e = (tt, subst (λ c. IsOthers b c) (same_Some _ _ e) tt)
  taken-others (Counting size first) (Count (suc n)) new e = (tt, subst (λ c. IsOthers b c) (same_Some _ _ e) tt)
  taken-others kind content new e = cc

module _ (b : ℕ) where
  -- what is left of a recursive mutex
  back-others : (holder n : ℕ) (last : Bool) → holder ≢ b → IsOthers b (if last then Free else Held holder (n - 1))
  back-others holder n true apart = tt
  back-others holder n false apart = apart

  given-others : (kind : Kind) (content new : Content) → ((holder n : ℕ) → content ≡ Held holder n → holder ≢ b) → given kind content ≡ Some new → IsOthers b content × IsOthers b new
  given-others Mutex (Held holder n) new own e = (own holder n refl, subst (λ c. IsOthers b c) (same_Some _ _ e) tt)
  given-others Recursive (Held holder n) new own e =
      (own holder n refl, subst (λ c. IsOthers b c) (same_Some _ _ e) (back-others holder n (nat_eq n 1) (own holder n refl)))
  given-others Binary (Count n) new own e = (tt, subst (λ c. IsOthers b c) (cond_some (nat_lt n 1) (Count (n + 1)) new e).1 tt)
  given-others (Counting size first) (Count n) new own e = (tt, subst (λ c. IsOthers b c) (cond_some (int_lt (pos n) size) (Count (n + 1)) new e).1 tt)
  given-others kind content new own e = cc

  queued-others : (v : ℤ) (kind : Kind) (content new : Content) → queued v kind content ≡ Some new → IsOthers b content × IsOthers b new
  queued-others v (Queue size lo hi) (Values vs) new e =
      (tt, subst (λ c. IsOthers b c) (cond_some (int_lt (pos (length vs)) size) (Values (vs ++ v ∷ [])) new e).1 tt)
  queued-others v kind content new e = cc

  moved-others : (end : End) (k : ℕ) (kind : Kind) (content new : Content) → moved_bytes end k kind content ≡ Some new → IsOthers b content × IsOthers b new
  moved-others Writer k (Stream size) (Bytes n) new e =
      (tt, subst (λ c. IsOthers b c) (cond_some (int_le (pos (n + k)) size) (Bytes (n + k)) new e).1 tt)
  moved-others Reader k kind (Bytes n) new e = less (nat_lt n k) e
    where
      less : (d : Bool) → (if d then None else Some (Bytes (n - k))) ≡ Some new → IsOthers b (Bytes n) × IsOthers b new
      less true f = cc
      less false f = (tt, subst (λ c. IsOthers b c) (same_Some _ _ f) tt)
  moved-others end k kind content new e = cc

  sent-message-others : (n : ℕ) (kind : Kind) (content new : Content) → sent_message n kind content ≡ Some new → IsOthers b content × IsOthers b new
  sent-message-others n (Message size) (Lengths ls) new e =
      (tt, subst (λ c. IsOthers b c) (cond_some (int_le (pos (sum ls + n)) size) (Lengths (ls ++ n ∷ [])) new e).1 tt)
  sent-message-others n kind content new e = cc

  received-message-others : (k : ℕ) (content new : Content) → received_message k content ≡ Some new → IsOthers b content × IsOthers b new
  received-message-others k (Lengths (l ∷ ls)) new e =
      (tt, subst (λ c. IsOthers b c) (cond_some (nat_eq l k) (Lengths ls) new e).1 tt)
  received-message-others k content new e = cc

  reset-others : (P : Program) (buffer : BufferKind) (kind : Kind) (content : Content) → IsTrue (is_buffer buffer kind) → CanHave P kind content → content ≢ Dead → IsOthers b content
  reset-others P OfStream (Stream size) (Bytes n) t can live = tt
  reset-others P OfMessage (Message size) (Lengths ls) t can live = tt
  reset-others P buffer kind Dead t can live = absurd (live refl)
  reset-others P OfStream (Stream size) content t can live = absurd can
  reset-others P OfMessage (Message size) content t can live = absurd can
  reset-others P buffer kind content t can live = cc

-- an object call is for its object's kind, and has a timing that its act can have
abbrev pub Suits : Program → ObjectCall → Type 0
Suits P call = IsTrue (acts_on call.act (kind_of P call.object.0)) × IsTrue (suits_timing call.timing call.act)

-- a mutex that is given is the giver's
module _ (P : Program) (S : State) (a b : ℕ) (ne : b ≢ a) (o : ObjId) (e : Option ℕ) where
  not-others : (holder n : ℕ) → content_of S o.0 ≡ Held holder n → (count_held a (content_of S o.0) ≡ 0 → ⊥) → holder ≢ b
  not-others holder n has held same =
      held (ap (λ c. count_held a c) has ∙ depth_for-other holder n a (λ f. ne (sym same ∙ sym f)))

  giver-holds : (timing : Timing) (form : SemaphoreForm) (kind : Kind) → kind_of P o.0 ≡ kind → IsTrue (suits_timing timing (Try (Give form) e)) → (GivesUnheld P S a (Calls (On (on o timing (Give form) e))) → ⊥) → IsFalse (is_unsuited kind timing (Try (Give form) e)) → CanHave P kind (content_of S o.0) → (holder n : ℕ) → content_of S o.0 ≡ Held holder n → holder ≢ b
  giver-holds Now PlainForm Mutex is timed gives suits can holder n has =
      not-others holder n has (λ none. gives (is, none))
  giver-holds Now RecursiveForm Recursive is timed gives suits can holder n has =
      not-others holder n has (λ none. gives (is, none))
  giver-holds Now RecursiveForm Mutex is timed gives suits can holder n has = cc
  giver-holds Now PlainForm Recursive is timed gives suits can holder n has = cc
  giver-holds FromIsr form Mutex is timed gives suits can holder n has = cc
  giver-holds FromIsr form Recursive is timed gives suits can holder n has = cc
  giver-holds (Waits time) form kind is timed gives suits can holder n has = cc
  giver-holds timing form kind is timed gives suits can holder n has =
      absurd (subst (λ c. CanHave P kind c) has can)

-- ---- states

module _ (effect : Effect) (b : ℕ) (S : State) where
  same-seen : (T : State) → T ≡ S → IsSeen effect b S T
  same-seen T e = subst (λ U. IsSeen effect b S U) (sym e) (record { critical = refl; suspended = refl; objects = λ o claim free m. m; values = λ x. inl refl })

  critical-seen : (c : Option (ℕ × ℕ)) → depth_in c b ≡ depth_of S b → IsSeen effect b S (record S { critical = c })
  critical-seen c same =
      record { critical = same; suspended = refl; objects = λ o claim free m. m; values = λ x. inl refl }

  suspend-seen : (a depth : ℕ) → b ≢ a → IsSeen effect b S (suspend_at a depth S)
  suspend-seen a depth ne = record {
    critical = refl;
    suspended = set_case S.suspended a b depth 0 (λ d. d ≡ suspension_of S b) refl (λ e. absurd (ne e));
    objects = λ o claim free m. m;
    values = λ x. inl refl;
  }

  becomes-seen : (o : ℕ) (new : Content) → ((claim : Claim) → (IsMade effect o → claim ≡ NotHeld) → Meets b claim (content_of S o) → Meets b claim new) → IsSeen effect b S (becomes o new S)
  becomes-seen o new keeps = record {
    critical = refl;
    suspended = refl;
    objects = λ k claim free m.
        set_case S.objects o k new Dead (λ c. Meets b claim c) m (λ e. keeps claim (subst (λ j. IsMade effect j → claim ≡ NotHeld) e free) (subst (λ j. Meets b claim (content_of S j)) e m));
    values = λ x. inl refl;
  }

  others-seen : (o : ℕ) (new : Content) → IsOthers b (content_of S o) × IsOthers b new → IsSeen effect b S (becomes o new S)
  others-seen o new others =
      becomes-seen o new (λ claim free m. others-alike b (content_of S o) new others claim m)

  write-seen : (x : ℕ) (v : ℤ) (T : State) → IsSeen effect b S T → IsWritten effect S x v → IsSeen effect b S (write x v T)
  write-seen x v T seen written = record {
    critical = seen.critical;
    suspended = seen.suspended;
    objects = seen.objects;
    values = λ y. set_case T.values x y v (pos 0) (λ u. (u ≡ value_of S y) ⊎ IsWritten effect S y u) (seen.values y) (λ e. inr (subst (λ j. IsWritten effect S j v) (sym e) written));
  }

  puts-seen : (o : ℕ) (new : Option Content) (T : State) → ((c : Content) → new ≡ Some c → IsOthers b (content_of S o) × IsOthers b c) → Puts o new S T → IsSeen effect b S T
  puts-seen o new T others put =
      subst (λ U. IsSeen effect b S U) (sym put.2) (others-seen o put.0 (others put.0 put.1))

-- the number of the bytes that a call moves goes to its variable
module _ (b : ℕ) (S : State) (end : End) (buffer : BufferKind) (n : ℕ) (kind : Kind) (k : ℕ) (c : ℤ) (is : c ≡ pos k) (l : k ≤ n) where
  abbrev moved : Option VarId → Effect
  moved result = effect_inside (Move end buffer n result) kind

  result-seen : (result : Option VarId) (T : State) → IsSeen (moved result) b S T → IsSeen (moved result) b S (with_result result c T)
  result-seen None T seen = seen
  result-seen (Some x) T seen =
      write-seen (moved (Some x)) b S x.0 c T seen (refl, omega (arith, ints, is), omega (arith, ints, is, l))

  moves-seen : (result : Option VarId) (T : State) (o : ℕ) (new : Option Content) → ((d : Content) → new ≡ Some d → IsOthers b (content_of S o) × IsOthers b d) → Moves o new result c S T → IsSeen (moved result) b S T
  moves-seen result T o new others (mid, put, same) =
      subst (λ U. IsSeen (moved result) b S U) (sym same) (result-seen result mid (puts-seen (moved result) b S o new mid others put))

-- an actor that is alone in the critical section is the only one with a depth
none-in : (a b : ℕ) → b ≢ a → (c : Option (ℕ × ℕ)) → IfSome c (λ h. h.0 ≡ a) → depth_in c b ≡ 0
none-in a b ne None h = refl
none-in a b ne (Some c) h = depth_for-other c.0 c.1 b (λ e. ne (e ∙ h))

own-section : (a : ℕ) (c : Option (ℕ × ℕ)) → (IsTrue (nat_eq (depth_in c a) 0) → ⊥) → IfSome c (λ h. h.0 ≡ a)
own-section a None deep = tt
own-section a (Some c) deep = go (nat_eq c.0 a) refl
  where
    go : (t : Bool) → nat_eq c.0 a ≡ t → c.0 ≡ a
    go true e = eqb-true c.0 a e
    go false e = absurd (deep (ap (λ t. nat_eq (if t then c.1 else 0) 0) e))

module _ (P : Program) (S T : State) (a b : ℕ) (ne : b ≢ a) (w : IsWellFormed P S) (c : ℤ) where
  does-seen : (call : Call) (way : Way) → IsFree P S a Before (Calls call) → Does P (transition S a c T) call way → IsSeen (effect_of P Before (Calls call)) b S T
  does-seen (EnterCritical form) Then free h =
      subst (λ U. IsSeen Nothing b S U) (sym h.2) (critical-seen Nothing b S (Some (a, depth_of S a + 1)) (depth_for-other a (depth_of S a + 1) b ne ∙ sym (none-in a b ne S.critical h.1)))
  does-seen (ExitCritical form) Then free h =
      let alone = own-section a S.critical (free.0 DepthAboveZero refl) in
      subst (λ U. IsSeen Nothing b S U) (sym h.1) (critical-seen Nothing b S (held_at a (depth_of S a - 1)) (held_at-other a (depth_of S a - 1) b ne ∙ sym (none-in a b ne S.critical alone)))
  does-seen SuspendAll Then free h = subst (λ U. IsSeen Nothing b S U) (sym h.1) (suspend-seen Nothing b S a _ ne)
  does-seen ResumeAll Then free h = subst (λ U. IsSeen Nothing b S U) (sym h.1) (suspend-seen Nothing b S a _ ne)
  does-seen Yield Then free h = same-seen Nothing b S T h.1
  does-seen (Delay ticks) Then free h = same-seen Nothing b S T h.1
  does-seen DeleteSelf Then free h = same-seen Nothing b S T h.1
  does-seen (Create kind o e) Then free h =
      subst (λ U. IsSeen (Life o) b S U) (sym h.2) (becomes-seen (Life o) b S o.0 (new_content (kind_of P o.0)) (λ claim none m.
      subst (λ d. Meets b d (new_content (kind_of P o.0))) (sym (none refl)) (others-unheld b (new_content (kind_of P o.0)) (new-others b (kind_of P o.0)))))
  does-seen (Create kind o e) Else free h = same-seen (Life o) b S T h.2
  does-seen (Delete kind o) Then free h =
      subst (λ U. IsSeen (Life o) b S U) (sym h.1) (becomes-seen (Life o) b S o.0 Dead (λ claim none m. subst (λ d. Meets b d Dead) (sym (none refl)) refl))
  does-seen (On call) Then free h = same-seen Nothing b S T h.1
  does-seen call Else free h = elim h [ ]

  works-seen : (o : ObjId) (timing : Timing) (attempt : Attempt) (e : Option ℕ) → Suits P (on o timing attempt e) → IsFree P S a Inside (Calls (On (on o timing attempt e))) → Works P S a o.0 attempt T → IsSeen (effect_inside (Try attempt e) (kind_of P o.0)) b S T
  works-seen o timing (QueueSend value) e suits free h =
      puts-seen Nothing b S o.0 _ T (λ new q. queued-others b (operand_of S value) (kind_of P o.0) (content_of S o.0) new q) h
  works-seen o timing (QueueReceive into) e suits free h =
      got (kind_of P o.0) (subst (λ d. CanHave P (kind_of P o.0) d) h.2 (w.contents o.0))
    where
      got : (kind : Kind) → CanHave P kind (Values (h.0 ∷ h.1)) → IsSeen (effect_inside (Try (QueueReceive into) e) kind) b S T
      got (Queue size lo hi) can =
          let first = can.1 0 h.0 (omega arith) in
          subst (λ U. IsSeen (Gives into lo hi) b S U) (sym h.3) (write-seen (Gives into lo hi) b S into.0 h.0 _ (others-seen (Gives into lo hi) b S o.0 (Values h.1) (subst (λ d. IsOthers b d) (sym h.2) tt, tt)) (refl, first.0, first.1))
      got kind can = absurd can
  works-seen o timing (Take form) e suits free h =
      puts-seen Nothing b S o.0 _ T (λ new q. taken-others a b ne (kind_of P o.0) (content_of S o.0) new q) h
  works-seen o timing (Give form) e suits free h =
      let own = giver-holds P S a b ne o e timing form (kind_of P o.0) refl suits.1 (free.0 GivenByHolder refl) free.1 (w.contents o.0) in
      puts-seen Nothing b S o.0 _ T (λ new q. given-others b (kind_of P o.0) (content_of S o.0) new own q) h
  works-seen o timing (Reset buffer) e suits free h =
      let live : content_of S o.0 ≢ Dead = λ dead. free.0 IsLive refl (o.0, refl, dead) in
      subst (λ U. IsSeen Nothing b S U) (sym h) (others-seen Nothing b S o.0 (new_content (kind_of P o.0)) (reset-others b P buffer (kind_of P o.0) (content_of S o.0) suits.0 (w.contents o.0) live, new-others b (kind_of P o.0)))

  ends-seen : (o : ObjId) (timing : Timing) (act : Act) (way : Way) → Suits P (record { object = o; timing = timing; act = act }) → IsFree P S a Inside (Calls (On (record { object = o; timing = timing; act = act }))) → Ends P (transition S a c T) (record { object = o; timing = timing; act = act }) way → IsSeen (effect_inside act (kind_of P o.0)) b S T
  ends-seen o timing (Try attempt e) Then suits free h = works-seen o timing attempt e suits free h.1
  ends-seen o timing (Try attempt e) Else suits free h =
      same-seen (effect_inside (Try attempt e) (kind_of P o.0)) b S T h.2
  ends-seen o timing (Move end OfStream n result) Then suits free h =
      moves-seen b S end OfStream n (kind_of P o.0) h.0 c h.1 h.2 result T o.0 _ (λ new q. moved-others b end h.0 (kind_of P o.0) (content_of S o.0) new q) h.3
  ends-seen o timing (Move end OfStream n result) Else suits free h = elim h [ ]
  ends-seen o timing (Move Writer OfMessage n result) Then suits free h =
      moves-seen b S Writer OfMessage n (kind_of P o.0) n c h.0 (omega arith) result T o.0 _ (λ new q. sent-message-others b n (kind_of P o.0) (content_of S o.0) new q) h.1
  ends-seen o timing (Move Reader OfMessage n result) Then suits free h =
      moves-seen b S Reader OfMessage n (kind_of P o.0) h.0 c h.1 h.2 result T o.0 _ (λ new q. received-message-others b h.0 (content_of S o.0) new q) h.3
  ends-seen o timing (Move end OfMessage n result) Else suits free h =
      let nothing = same-seen (effect_inside (Move end OfMessage n result) (kind_of P o.0)) b S S refl in
      subst (λ U. IsSeen (effect_inside (Move end OfMessage n result) (kind_of P o.0)) b S U) (sym h.1) (result-seen b S end OfMessage n (kind_of P o.0) 0 c h.0 (omega arith) result S nothing)

  -- what a row changes is the effect of its instruction
  pub row-seen : (side : Side) (i : Instr) (way : Way) → ((call : ObjectCall) → i ≡ Calls (On call) → Suits P call) → IsFree P S a side i → Row P (transition S a c T) side i way → IsSeen (effect_of P side i) b S T
  row-seen Before (Set x l op r) Then suits free h =
      subst (λ U. IsSeen (Sets x l op r) b S U) (sym h.1) (write-seen (Sets x l op r) b S x.0 _ S (same-seen (Sets x l op r) b S S refl) (refl, refl))
  row-seen Before (If l comparison r target) Then suits free h = same-seen Nothing b S T h.2
  row-seen Before (If l comparison r target) Else suits free h = same-seen Nothing b S T h.2
  row-seen Before (Goto target) Then suits free h = same-seen Nothing b S T h.1
  row-seen Before (Pick x lo hi) Then suits free h =
      subst (λ U. IsSeen (Gives x lo hi) b S U) (sym h.2) (write-seen (Gives x lo hi) b S x.0 c S (same-seen (Gives x lo hi) b S S refl) (refl, h.0, h.1))
  row-seen Before Return Then suits free h = same-seen Nothing b S T h.1
  row-seen Before (Calls call) way suits free h = does-seen call way free h
  row-seen Inside (Calls (On call)) way suits free h =
      ends-seen call.object call.timing call.act way (suits call refl) free h
  row-seen side i way suits free h = elim h [ ]

-- the variable that an application's step writes is there
inside-target : (P : Program) (act : Act) (kind : Kind) → All (λ x. x.0 < length P.variables) (act_variables act) →
    HasTarget P (effect_inside act kind)
inside-target P (Try (QueueReceive into) e) (Queue size lo hi) names = names 0 into (omega arith)
inside-target P (Move end buffer n (Some x)) kind names = names 0 x (omega arith)
inside-target P act kind names = tt

pub has-target : (P : Program) (side : Side) (i : Instr) → NamesThings P i → HasTarget P (effect_of P side i)
has-target P Before (Set x l op r) names = names.0 0 x (omega arith)
has-target P Before (Pick x lo hi) names = names.0 0 x (omega arith)
has-target P Before (Calls call) names = by_call call
  where
    by_call : (call : Call) → HasTarget P (effect_of P Before (Calls call))
    by_call (Create kind o e) = tt
    by_call (Delete kind o) = tt
    by_call call = tt
has-target P Inside (Calls (On call)) names = inside-target P call.act (kind_of P call.object.0) names.0
has-target P Before i names = tt
has-target P Inside i names = tt

-- A wait is still one after a step of another actor than the one that waits and than the holder. Row by row: what an
-- object has changes only by a create, which needs a dead one, by a delete, which the law leaves out, and by calls on it;
-- and of those only a give by the holder changes a held mutex.
use Rattle.std.proofs.Common.{◌≡◌, ◌≢◌, ℕ, ◌<◌, ◌+◌, List, [], ◌∷◌, length, get_or, Option, Some, None, true, false, refl, sym, ap, ◌∙◌, subst, get_or-set_other}
use Rattle.std.specs.Prelude.{ℤ, IsTrue, IsFalse, IfSome, Contains, nat_eq}
use Rattle.std.proofs.lemmas.Bool.{eqb-true, ne_eqb}
use Rattle.std.proofs.lemmas.Option.{cond_some, slice_get-get_or}
use Rattle.fr_program.specs.declared.instr.Instr.{Instr}
use Rattle.fr_program.specs.declared.instr.Instr.TheVariants.{Set, If, Goto, Pick, Call as Calls, Return}
use Rattle.fr_program.specs.declared.instr.Call.{Call}
use Rattle.fr_program.specs.declared.instr.Call.TheVariants.{EnterCritical, ExitCritical, SuspendAll, ResumeAll, Yield, Delay, DeleteSelf, Create, Delete, On}
use Rattle.fr_program.specs.declared.instr.ObjectCall.{ObjectCall}
use Rattle.fr_program.specs.declared.instr.Act.{Act}
use Rattle.fr_program.specs.declared.instr.Act.TheVariants.{Try, Move}
use Rattle.fr_program.specs.declared.instr.Attempt.{Attempt}
use Rattle.fr_program.specs.declared.instr.Attempt.TheVariants.{QueueSend, QueueReceive, Take, Give, Reset}
use Rattle.fr_program.specs.declared.instr.SemaphoreForm.{SemaphoreForm}
use Rattle.fr_program.specs.declared.instr.SemaphoreForm.TheVariants.{Plain as PlainForm, Recursive as RecursiveForm}
use Rattle.fr_program.specs.declared.instr.End.{End}
use Rattle.fr_program.specs.declared.instr.End.TheVariants.{Writer, Reader}
use Rattle.fr_program.specs.declared.instr.Timing.{Timing}
use Rattle.fr_program.specs.declared.instr.Timing.TheVariants.{Now, Waits, FromIsr}
use Rattle.fr_program.specs.declared.instr.BufferKind.{BufferKind}
use Rattle.fr_program.specs.declared.instr.BufferKind.TheVariants.{Stream as OfStream, Message as OfMessage}
use Rattle.fr_program.specs.declared.ids.VarId.{VarId}
use Rattle.fr_program.specs.declared.ids.Side.{Side}
use Rattle.fr_program.specs.declared.ids.Side.TheVariants.{Before, Inside}
use Rattle.fr_program.specs.declared.parts.Kind.{Kind}
use Rattle.fr_program.specs.declared.parts.Kind.TheVariants.{Queue, Mutex, Recursive, Stream, Message}
use Rattle.fr_program.specs.Program.{Program}
use Rattle.fr_program.specs.Lookup.{instr_at, no_object}
use Rattle.fr_program.specs.Timings.{suits_timing}
use Rattle.fr_program.specs.Uses.{is_buffer, is_semaphore, acts_on}
use Rattle.fr_program.specs.Fault.{IsFaultless}
use Rattle.fr_rules.specs.State.{State, Done, Content, Dead, Values, Held, place_of, content_of, kind_of, count_held, write, becomes, new_content}
use Rattle.fr_rules.specs.Rule.{LacksMutex, given_kind, is_unsuited, operand_of}
use Rattle.fr_rules.specs.Step.{Step, Row, Does, Completes, Works, Puts, Moves, IsFree, landing, taken, given, queued, moved_bytes, sent_message, received_message, with_result, transition}
use Rattle.fr_rules.specs.declared.rules.Rule.TheVariants.{GivenByHolder}
use Rattle.fr_rules.specs.declared.way.Way.{Way}
use Rattle.fr_rules.specs.declared.way.Way.TheVariants.{Then, Else}
use Rattle.fr_rules.proofs.Contents.{set_case}
use Rattle.fr_waits.specs.declared.wait.Wait.{Wait}
use Rattle.fr_waits.specs.Waits.{WaitsFor, WaitInTurn, IsCycle, IsInCycle, IsForGood}
use Rattle.fr_waits.proofs.Cycles.{contains_first, contains_rest, next-in-cycle, waits-in-cycle}
use Rattle.fr_waits.proofs.Stuck.{stuck}

-- what no call makes of a held mutex
not-taken : (kind : Kind) (b h n : ℕ) (c : Content) → h ≢ b → taken kind b (Held h n) ≡ Some c → ⊥
not-taken Recursive b h n c other e = other (eqb-true h b (cond_some (nat_eq h b) (Held b (n + 1)) c e).0)
not-taken kind b h n c other e = cc

not-queued : (v : ℤ) (kind : Kind) (h n : ℕ) (c : Content) → queued v kind (Held h n) ≡ Some c → ⊥
not-queued v (Queue size lo hi) h n c e = cc
not-queued v kind h n c e = cc

not-moved : (end : End) (k : ℕ) (kind : Kind) (h n : ℕ) (c : Content) → moved_bytes end k kind (Held h n) ≡ Some c → ⊥
not-moved Writer k (Stream size) h n c e = cc
not-moved Writer k kind h n c e = cc
not-moved Reader k kind h n c e = cc

not-sent : (k : ℕ) (kind : Kind) (h n : ℕ) (c : Content) → sent_message k kind (Held h n) ≡ Some c → ⊥
not-sent k (Message size) h n c e = cc
not-sent k kind h n c e = cc

not-given : (kind : Kind) (timing : Timing) (form : SemaphoreForm) (e : Option ℕ) (h n : ℕ) (c : Content) →
    IsFalse (is_unsuited kind timing (Try (Give form) e)) → ((k : Kind) → given_kind (Try (Give form) e) timing ≡ Some k → kind ≡ k → ⊥) → IsTrue (suits_timing timing (Try (Give form) e)) → given kind (Held h n) ≡ Some c → ⊥
not-given Mutex Now PlainForm e h n c suits gives times is = gives Mutex refl refl
not-given Mutex Now RecursiveForm e h n c suits gives times is = let q : true ≡ false = suits in cc
not-given Mutex FromIsr form e h n c suits gives times is = let q : true ≡ false = suits in cc
not-given Mutex (Waits time) form e h n c suits gives times is = let q : false ≡ true = times in cc
not-given Recursive Now PlainForm e h n c suits gives times is = let q : true ≡ false = suits in cc
not-given Recursive Now RecursiveForm e h n c suits gives times is = gives Recursive refl refl
not-given Recursive FromIsr form e h n c suits gives times is = let q : true ≡ false = suits in cc
not-given Recursive (Waits time) form e h n c suits gives times is = let q : false ≡ true = times in cc
not-given kind timing form e h n c suits gives times is = cc

-- no kind is both a semaphore and a buffer
not-both : (buffer : BufferKind) (kind : Kind) → IsTrue (is_buffer buffer kind) → IsTrue (is_semaphore kind) → false ≡ true
not-both OfStream (Stream size) b s = s
not-both OfStream kind b s = b
not-both OfMessage (Message size) b s = s
not-both OfMessage kind b s = b

-- the object of a call is of a kind that the call is for
suits-kind : (P : Program) (a pc : ℕ) (call : ObjectCall) → IsFaultless P → instr_at P a pc ≡ Some (Calls (On call)) → IsTrue (acts_on call.act (kind_of P call.object.0))
suits-kind P a pc call f is =
    let l : call.object.0 < length P.objects = (f.names.things a pc (Calls (On call)) is).1 in
    subst (λ o. IfSome o (λ object. IsTrue (acts_on call.act object.kind))) (slice_get-get_or P.objects call.object.0 no_object l) (f.kinds a pc (Calls (On call)) is)

-- a state with each actor where it was, in which the mutex is held as it was, if it lives
record Calm (S T : State) (m h n : ℕ) : Type 0 where
  places : T.places ≡ S.places
  held : content_of T m ≢ Dead → content_of T m ≡ Held h n

-- a step of b while another actor holds the mutex
module _ (P : Program) (S : State) (b m h n : ℕ) (held : content_of S m ≡ Held h n) (other : h ≢ b) (semaphore : IsTrue (is_semaphore (kind_of P m))) where
  -- a state with the same places and objects
  aside : (U T : State) → U.places ≡ S.places → U.objects ≡ S.objects → T ≡ U → Calm S T m h n
  aside U T p o e =
      record {
        places = ap (λ V. V.places) e ∙ p;
        held = λ _. ap (λ V. content_of V m) e ∙ ap (λ l. get_or l m Dead) o ∙ held;
      }

  write-calm : (T : State) (x : ℕ) (v : ℤ) → Calm S T m h n → Calm S (write x v T) m h n
  write-calm T x v q = record { places = q.places; held = q.held }

  becomes-calm : (o : ℕ) (new : Content) → (o ≡ m → new ≢ Dead → new ≡ Held h n) → Calm S (becomes o new S) m h n
  becomes-calm o new f =
      record {
        places = refl;
        held = set_case S.objects o m new Dead (λ c. c ≢ Dead → c ≡ Held h n) (λ _. held) (λ e. f (sym e));
      }

  held-at : (o : ℕ) → o ≡ m → content_of S o ≡ Held h n
  held-at o e = ap (content_of S) e ∙ held

  puts-calm : (o : ℕ) (f : Content → Option Content) (T : State) → ((c : Content) → o ≡ m → f (Held h n) ≡ Some c → ⊥) → Puts o (f (content_of S o)) S T → Calm S T m h n
  puts-calm o f T never q =
      subst (λ U. Calm S U m h n) (sym q.2)
      (becomes-calm o q.0 (λ e _. absurd (never q.0 e (ap f (sym (held-at o e)) ∙ q.1))))

  result-calm : (result : Option VarId) (c : ℤ) (T : State) → Calm S T m h n → Calm S (with_result result c T) m h n
  result-calm None c T q = q
  result-calm (Some x) c T q = write-calm T x.0 c q

  moves-calm : (o : ℕ) (f : Content → Option Content) (result : Option VarId) (c : ℤ) (T : State) → ((d : Content) → o ≡ m → f (Held h n) ≡ Some d → ⊥) → Moves o (f (content_of S o)) result c S T → Calm S T m h n
  moves-calm o f result c T never (mid, puts, same) = subst (λ U. Calm S U m h n) (sym same) (result-calm result c mid (puts-calm o f mid never puts))

  here : Calm S S m h n
  here = record { places = refl; held = λ _. held }

  -- what holds of a call inside which a free actor is
  record Fits (o : ℕ) (timing : Timing) (act : Act) : Type 0 where
    suits : IsFalse (is_unsuited (kind_of P o) timing act)
    gives : LacksMutex P S b o (given_kind act timing) → ⊥
    times : IsTrue (suits_timing timing act)
    kind : IsTrue (acts_on act (kind_of P o))

  none-held : (o : ℕ) → o ≡ m → count_held b (content_of S o) ≡ 0
  none-held o e = let f : nat_eq h b ≡ false = ne_eqb h b other in ap (count_held b) (held-at o e) ∙ rw f

  works-calm : (o : ℕ) (timing : Timing) (attempt : Attempt) (e : Option ℕ) (T : State) → Fits o timing (Try attempt e) → Works P S b o attempt T → Calm S T m h n
  works-calm o timing (QueueSend value) e T fits q =
      puts-calm o (queued (operand_of S value) (kind_of P o)) T (λ c _. not-queued (operand_of S value) (kind_of P o) h n c) q
  works-calm o timing (QueueReceive into) e T fits (v, rest, there, same) =
      subst (λ U. Calm S U m h n) (sym same)
      (write-calm (becomes o (Values rest) S) into.0 v (becomes-calm o (Values rest) (λ q _. let f : Values (v ∷ rest) ≡ Held h n = sym there ∙ held-at o q in cc)))
  works-calm o timing (Take form) e T fits q =
      puts-calm o (taken (kind_of P o) b) T (λ c _. not-taken (kind_of P o) b h n c other) q
  works-calm o timing (Give form) e T fits q =
      puts-calm o (given (kind_of P o)) T (λ c same. not-given (kind_of P o) timing form e h n c fits.suits (λ k g is. fits.gives (subst (λ z. LacksMutex P S b o z) (sym g) (is, none-held o same))) fits.times) q
  works-calm o timing (Reset buffer) e T fits q =
      subst (λ U. Calm S U m h n) (sym q)
      (becomes-calm o (new_content (kind_of P o)) (λ same _. let f = not-both buffer (kind_of P o) fits.kind (subst (λ k. IsTrue (is_semaphore (kind_of P k))) (sym same) semaphore) in cc))

  ends-calm : (o : ℕ) (timing : Timing) (act : Act) (way : Way) (c : ℤ) (T : State) → Fits o timing act → Completes P (transition S b c T) o timing act way → Calm S T m h n
  ends-calm o timing (Try attempt e) Then c T fits q = works-calm o timing attempt e T fits q.1
  ends-calm o timing (Try attempt e) Else c T fits q = aside S T refl refl q.2
  ends-calm o timing (Move end OfStream k result) Then c T fits (j, chosen, most, q) =
      moves-calm o (moved_bytes end j (kind_of P o)) result c T (λ d _. not-moved end j (kind_of P o) h n d) q
  ends-calm o timing (Move end OfStream k result) Else c T fits q = elim q [ ]
  ends-calm o timing (Move end OfMessage k result) Else c T fits q =
      subst (λ U. Calm S U m h n) (sym q.1) (result-calm result c S here)
  ends-calm o timing (Move Writer OfMessage k result) Then c T fits q =
      moves-calm o (sent_message k (kind_of P o)) result c T (λ d _. not-sent k (kind_of P o) h n d) q.1
  ends-calm o timing (Move Reader OfMessage k result) Then c T fits (j, chosen, most, q) =
      moves-calm o (received_message j) result c T (λ d _ e. cc) q

  does-calm : (call : Call) (way : Way) (c : ℤ) (T : State) → Does P (transition S b c T) call way → Calm S T m h n
  does-calm (EnterCritical form) Then c T q = aside _ T refl refl q.2
  does-calm (ExitCritical form) Then c T q = aside _ T refl refl q.1
  does-calm SuspendAll Then c T q = aside _ T refl refl q.1
  does-calm ResumeAll Then c T q = aside _ T refl refl q.1
  does-calm Yield Then c T q = aside S T refl refl q.1
  does-calm (Delay ticks) Then c T q = aside S T refl refl q.1
  does-calm DeleteSelf Then c T q = aside S T refl refl q.1
  does-calm (Create kind o e) Then c T q =
      subst (λ U. Calm S U m h n) (sym q.2)
      (becomes-calm o.0 (new_content (kind_of P o.0)) (λ same _. let f : Dead ≡ Held h n = sym q.1 ∙ held-at o.0 same in cc))
  does-calm (Create kind o e) Else c T q = aside S T refl refl q.2
  does-calm (Delete kind o) Then c T q =
      subst (λ U. Calm S U m h n) (sym q.1) (becomes-calm o.0 Dead (λ _ lives. absurd (lives refl)))
  does-calm (On call) Then c T q = aside S T refl refl q.1
  does-calm call Else c T q = elim q [ ]

  row-calm : (side : Side) (i : Instr) (way : Way) (c : ℤ) (T : State) → ((call : ObjectCall) → side ≡ Inside → i ≡ Calls (On call) → Fits call.object.0 call.timing call.act) → Row P (transition S b c T) side i way → Calm S T m h n
  row-calm Before (Set x l op r) Then c T fits q = aside _ T refl refl q.1
  row-calm Before (If l comparison r target) Then c T fits q = aside S T refl refl q.2
  row-calm Before (If l comparison r target) Else c T fits q = aside S T refl refl q.2
  row-calm Before (Goto target) Then c T fits q = aside S T refl refl q.1
  row-calm Before (Pick x lo hi) Then c T fits q = aside _ T refl refl q.2
  row-calm Before Return Then c T fits q = aside S T refl refl q.1
  row-calm Before (Calls call) way c T fits q = does-calm call way c T q
  row-calm Inside (Calls (On call)) way c T fits q = ends-calm call.object.0 call.timing call.act way c T (fits call refl refl) q
  row-calm side i way c T fits q = elim q [ ]

  -- a free actor inside a call
  fits-inside : (pc : ℕ) (side : Side) (i : Instr) → IsFaultless P → instr_at P b pc ≡ Some i → IsFree P S b side i → (call : ObjectCall) → side ≡ Inside → i ≡ Calls (On call) → Fits call.object.0 call.timing call.act
  fits-inside pc side i f is free call inside same =
      let is' : instr_at P b pc ≡ Some (Calls (On call)) = is ∙ ap (λ j. Some j) same in
      let free' : IsFree P S b Inside (Calls (On call)) = subst (λ j. IsFree P S b Inside j) same (subst (λ z. IsFree P S b z i) inside free) in
      record {
        suits = free'.1;
        gives = free'.0 GivenByHolder refl;
        times = (f.limits.code b pc (Calls (On call)) is').0;
        kind = suits-kind P b pc call f is';
      }

-- what is known after a step of b: an actor other than b is where it was, and waits if it did
waits-still : (P : Program) (S : State) (a h m b : ℕ) (c : ℤ) (T : State) → IsFaultless P → WaitsFor P S a h m → a ≢ b → h ≢ b → Step P S b c T → content_of T m ≢ Dead → WaitsFor P T a h m
waits-still P S a h m b c T f w apart other (way, t) lives =
    let on-act : IsTrue (acts_on w.call.act (kind_of P m)) = subst (λ o. IsTrue (acts_on w.call.act (kind_of P o))) w.takes.object (suits-kind P a w.pc w.call f w.is) in
    let semaphore : IsTrue (is_semaphore (kind_of P m)) = subst (λ (act : Act). IsTrue (acts_on act (kind_of P m))) w.takes.act on-act in
    let q = row-calm P S b m h w.count w.held other semaphore t.side t.instr way c t.mid (fits-inside P S b m h w.count w.held other semaphore t.pc t.side t.instr f t.is t.free) t.row in
    let place = landing t.pc t.side t.instr way in
    let there : content_of T m ≡ Held h w.count = (let same : content_of T m ≡ content_of t.mid m = ap (λ V. content_of V m) t.moved in same ∙ q.held (λ e. lives (same ∙ e))) in
    record {
      pc = w.pc;
      call = w.call;
      count = w.count;
      at = ap (λ V. place_of V a) t.moved ∙ get_or-set_other t.mid.places b a place Done apart ∙ ap (λ l. get_or l a Done) q.places ∙ w.at;
      is = w.is;
      takes = w.takes;
      held = there;
      refused = ap (taken (kind_of P m) a) (there ∙ sym w.held) ∙ w.refused;
    }

in-turn-still : (P : Program) (S T : State) (xs : List Wait) (to : ℕ) → ((w : Wait) → Contains xs w → (h : ℕ) → WaitsFor P S w.actor.0 h w.mutex.0 → WaitsFor P T w.actor.0 h w.mutex.0) → WaitInTurn P S xs to → WaitInTurn P T xs to
in-turn-still P S T [] to still q = tt
in-turn-still P S T (x ∷ []) to still q = still x (contains_first x []) to q
in-turn-still P S T (x ∷ v ∷ rest) to still q =
    (still x (contains_first x (v ∷ rest)) v.actor.0 q.0, in-turn-still P S T (v ∷ rest) to (λ w in'. still w (contains_rest x (v ∷ rest) w in')) q.1)

still-cycle : (P : Program) (S T : State) (cycle : List Wait) → ((w : Wait) → Contains cycle w → (h : ℕ) → WaitsFor P S w.actor.0 h w.mutex.0 → WaitsFor P T w.actor.0 h w.mutex.0) → IsCycle P S cycle → IsCycle P T cycle
still-cycle P S T [] still q = q
still-cycle P S T (x ∷ rest) still q = in-turn-still P S T (x ∷ rest) x.actor.0 still q

pub for-good : IsForGood
for-good = λ P f S cycle is b c T t lives.
    let not-b : (a : ℕ) → IsInCycle P S a → a ≢ b = λ a q e.
    let r = waits-in-cycle P S a q in
    stuck P S a r.0 r.1 r.2 c T (subst (λ k. Step P S k c T) (sym e) t) in
    still-cycle P S T cycle (λ w in' h waits.
    let mine : IsInCycle P S w.actor.0 = (cycle, is, w, in', refl) in
    waits-still P S w.actor.0 h w.mutex.0 b c T f waits (not-b w.actor.0 mine) (not-b h (next-in-cycle P S w.actor.0 h w.mutex.0 waits mine)) t (lives w in')) is

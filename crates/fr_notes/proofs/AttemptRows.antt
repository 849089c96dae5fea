-- The ends of takes, gives, queue sends and receives, and resets.
use Rattle.std.proofs.Common.{◌≡◌, ℕ, List, [], ◌∷◌, ◌++◌, length, Option, Some, None, Bool, true, false, refl, sym, ap, ◌∙◌, subst, arith}
use Rattle.std.specs.Prelude.{ℤ, pos, ◌≤ℤ◌, IsTrue, int_lt}
use Rattle.fr_notes.proofs.Terms.{ints, false≢true, same_Some, cond_some, All-nil, All-cons, All-head, ObjId, VarId, Try, Attempt, QueueSend, QueueReceive, Take, Give, Reset, BufferKind, OfStream}
use Rattle.fr_notes.proofs.Terms.{OfMessage, Operand, PlainForm, RecursiveForm, Timing, Now, Kind, Queue, Mutex, Recursive, Stream, Message, Range, Program, KindInLimits, suits_timing, attempts_on}
use Rattle.fr_notes.proofs.Terms.{is_buffer, written_by, Then, Else, State, Content, Values, CanHave, content_of, kind_of, new_content, becomes, operand_of, is_unsuited, given_kind, Works, Puts}
use Rattle.fr_notes.proofs.Terms.{taken, given, queued, can_fail, Within, HeldTimes, ends_of, CanClaim, Holding, Living, Own, worked_by, can_fail_on, is_mutex, is_given_unheld, results_of}
use Rattle.fr_program.specs.declared.instr.SemaphoreForm.{SemaphoreForm}
use Rattle.fr_notes.proofs.Shown.{new-live}
use Rattle.fr_notes.proofs.Holdings.{IsIn, new-unheld}
use Rattle.fr_notes.proofs.Seen.{Site, mover, other}
use Rattle.fr_notes.proofs.Left.{end_of}
use Rattle.fr_notes.proofs.ObjectRows.{same-content}
use Rattle.fr_notes.proofs.EndRows.{IsEndRow}
use Rattle.fr_notes.proofs.Ends.{IsTarget, end-in, some-content, living-only}
use Rattle.fr_notes.proofs.SemaphoreContents.{taken-in, take-shown, taken-none, given-in, give-shown, given-none, full-shown, never-full, room-for}

-- what queues and buffers hold is in nobody's hands
send-unheld : (value : Operand) (kind : Kind) (n : ℕ) → IsTrue (attempts_on (QueueSend value) kind) → CanClaim kind (HeldTimes n) → ⊥
send-unheld value (Queue size lo hi) n t c = c
send-unheld value kind n t c = cc

receive-unheld : (into : VarId) (kind : Kind) (n : ℕ) → IsTrue (attempts_on (QueueReceive into) kind) → CanClaim kind (HeldTimes n) → ⊥
receive-unheld into (Queue size lo hi) n t c = c
receive-unheld into kind n t c = cc

pub buffer-unheld : (buffer : BufferKind) (kind : Kind) (n : ℕ) → IsTrue (is_buffer buffer kind) → CanClaim kind (HeldTimes n) → ⊥
buffer-unheld OfStream (Stream size) n t c = c
buffer-unheld OfMessage (Message size) n t c = c
buffer-unheld buffer kind n t c = cc

values-in : (a b : ℕ) (vs : List ℤ) → IsIn a b Living (Values vs)
values-in a b vs = (λ e. cc, λ k e. cc, λ k e. cc)

queued-in : (a b : ℕ) (v : ℤ) (kind : Kind) (content made : Content) → queued v kind content ≡ Some made → IsIn a b Living made
queued-in a b v (Queue size lo hi) (Values vs) made m =
    let t = cond_some (int_lt (pos (length vs)) size) (Values (vs ++ v ∷ [])) made m in
    subst (λ c. IsIn a b Living c) t.1 (values-in a b (vs ++ v ∷ []))
queued-in a b v kind content made m = cc

-- a queue that is empty takes a value
empty-takes : (P : Program) (value : Operand) (kind : Kind) → IsTrue (attempts_on (QueueSend value) kind) → KindInLimits kind → CanHave P kind (Values []) × ((v : ℤ) → queued v kind (Values []) ≡ Some (Values (v ∷ [])))
empty-takes P value (Queue size lo hi) t h =
    let room : int_lt (pos 0) size ≡ true = room-for size h.0.0 in
    ((omega (arith, ints, h.0.0), All-nil (λ v. (lo ≤ℤ v) × (v ≤ℤ hi))), λ v. rw room)
empty-takes P value kind t h = cc

-- a received value is one that the queue can hold
module _ (P : Program) (into : VarId) (e : Option ℕ) (span : Range) where
  value-within : (kind : Kind) (v : ℤ) (rest : List ℤ) → IsTrue (attempts_on (QueueReceive into) kind) → ends_of span ≡ results_of kind (Try (QueueReceive into) e) → CanHave P kind (Values (v ∷ rest)) → Within (ends_of span) v
  value-within (Queue size lo hi) v rest t is can =
      subst (λ r. Within r v) (sym is) (All-head (λ v. (lo ≤ℤ v) × (v ≤ℤ hi)) v rest can.1)
  value-within kind v rest t is can = cc

  one-value : (kind : Kind) (d : Bool) → IsTrue (attempts_on (QueueReceive into) kind) → KindInLimits kind → ends_of span ≡ results_of kind (Try (QueueReceive into) e) → CanHave P kind (Values (end_of d (ends_of span) ∷ []))
  one-value (Queue size lo hi) d t h is =
      let v = end_of d (ends_of span) in
      (h.0.0, All-cons (λ v. (lo ≤ℤ v) × (v ≤ℤ hi)) v [] (subst (λ r. Within r v) is (end-in span d)) (All-nil (λ v. (lo ≤ℤ v) × (v ≤ℤ hi))))
  one-value kind d t h is = cc

-- what an attempt makes of the content: what is known of it after, and a content before
record IsMade (P : Program) (a b : ℕ) (kind : Kind) (known new : Holding) (make : State → Content → Option Content) : Type 0 where
  into : (S : State) (content made : Content) → IsIn a b known content → make S content ≡ Some made → IsIn a b new made
  from : (before : Content) × CanHave P kind before × IsIn a b known before × ((S : State) → (made : Content) × (make S before ≡ Some made))

module _ (s : Site) (o : ObjId) (timing : Timing) (attempt : Attempt) (e : Option ℕ) (span : Range) where
  -- an attempt that puts what it makes, and writes nothing
  made-row : (known new : Holding) (make : State → Content → Option Content) → ((S mid : State) → Works s.app S (mover s) o.0 attempt mid → Puts o.0 (make S (content_of S o.0)) S mid) → ((S mid : State) → Puts o.0 (make S (content_of S o.0)) S mid → Works s.app S (mover s) o.0 attempt mid) → IsMade s.app (mover s) (other s) (kind_of s.app o.0) known new make → IsEndRow s o known new timing (Try attempt e) Then None span
  made-row known new make to from m = record {
    after = λ S c mid is inside ends.
        let t = to S mid ends.1 in
        (t.0, span.lo, t.2, m.into S (content_of S o.0) t.0 inside t.1, end-in span false);
    shown = λ d. (
      m.from.0,
      m.from.1,
      m.from.2,
      λ S has.
          let made = m.from.3 S in
          (pos 1, made.0, (refl, from S (becomes o.0 made.0 S) (made.0, ap (λ c. make S c) has ∙ made.1, refl))),
    );
  }

module _ (s : Site) (o : ObjId) (known : Holding) (t : IsTarget s.app (mover s) (other s) (kind_of s.app o.0) known) where
  abbrev kind : Kind
  kind = kind_of s.app o.0

  -- of an object that can't be held as much is known as that it is live
  living-in : ((n : ℕ) → CanClaim kind (HeldTimes n) → ⊥) → (content : Content) → IsIn (mover s) (other s) Living content → IsIn (mover s) (other s) known content
  living-in none content i =
      subst (λ h. IsIn (mover s) (other s) h content) (sym (living-only s.app (mover s) (other s) kind known t none)) i

  receive-row : (timing : Timing) (into : VarId) (e : Option ℕ) (span : Range) → IsTrue (attempts_on (QueueReceive into) kind) → ends_of span ≡ results_of kind (Try (QueueReceive into) e) → IsEndRow s o known known timing (Try (QueueReceive into) e) Then (Some into) span
  receive-row timing into e span acts is =
      let inside = λ (vs : List ℤ). living-in (λ n c. receive-unheld into kind n acts c) (Values vs) (values-in (mover s) (other s) vs) in record {
        after = λ S c mid is_known i ends.
            let r = ends.1 in
            (Values r.1, r.0, r.3, inside r.1, value-within s.app into e span kind r.0 r.1 acts is (subst (λ c. CanHave s.app kind c) r.2 (is_known.mover.formed.contents o.0)));
        shown = λ d.
            let v = end_of d (ends_of span) in
            (Values (v ∷ []), one-value s.app into e span kind d acts t.limits is, inside (v ∷ []), λ S has. (pos 1, Values [], (refl, (v, [], has, refl))));
      }

  -- the row of each attempt that works
  pub attempt-row : (timing : Timing) (attempt : Attempt) (e : Option ℕ) (new : Holding) (span : Range) → IsTrue (attempts_on attempt kind) → worked_by kind (Try attempt e) known ≡ Some new → ends_of span ≡ results_of kind (Try attempt e) → IsEndRow s o known new timing (Try attempt e) Then (written_by (Try attempt e)) span
  attempt-row timing (Take form) e new span acts w is = made-row s o timing (Take form) e span known new (λ S c. taken kind (mover s) c) (λ S mid r. r) (λ S mid r. r) (record {
    into = λ S content made i m. taken-in s.app (mover s) (other s) kind known new content made w i m;
    from = let b = take-shown s.app (mover s) (other s) kind known new t w in (b.0, b.1, b.2, λ S. (b.3, b.4));
  })
  attempt-row timing (Give form) e new span acts w is = made-row s o timing (Give form) e span known new (λ S c. given kind c) (λ S mid r. r) (λ S mid r. r) (record {
    into = λ S content made i m. given-in s.app (mover s) (other s) kind known new content made w i m;
    from = let b = give-shown s.app (mover s) (other s) kind known new t w in (b.0, b.1, b.2, λ S. (b.3, b.4));
  })
  attempt-row timing (QueueSend value) e new span acts w is =
      let none = λ (n : ℕ) (c : CanClaim kind (HeldTimes n)). send-unheld value kind n acts c in
      let takes = empty-takes s.app value kind acts t.limits in
      subst (λ h. IsEndRow s o known h timing (Try (QueueSend value) e) Then None span) (same_Some _ _ w) (made-row s o timing (QueueSend value) e span known known (λ S c. queued (operand_of S value) kind c) (λ S mid r. r) (λ S mid r. r) (record {
        into = λ S content made i m. living-in none made (queued-in (mover s) (other s) (operand_of S value) kind content made m);
        from = (Values [], takes.0, living-in none (Values []) (values-in (mover s) (other s) []), λ S. (Values (operand_of S value ∷ []), takes.1 (operand_of S value)));
      }))
  attempt-row timing (QueueReceive into) e new span acts w is =
      subst (λ h. IsEndRow s o known h timing (Try (QueueReceive into) e) Then (Some into) span) (same_Some _ _ w) (receive-row timing into e span acts is)
  attempt-row timing (Reset buffer) e new span acts w is =
      let none = λ (n : ℕ) (c : CanClaim kind (HeldTimes n)). buffer-unheld buffer kind n acts c in
      let before = some-content s.app (mover s) (other s) kind known t in
      let empty = living-in none (new_content kind) (new-live kind, λ n f. new-unheld (mover s) n kind f, λ n f. new-unheld (other s) n kind f) in
      subst (λ h. IsEndRow s o known h timing (Try (Reset buffer) e) Then None span) (same_Some _ _ w) (made-row s o timing (Reset buffer) e span known known (λ S c. Some (new_content kind)) (λ S mid r. (new_content kind, refl, r)) (λ S mid r. r.2 ∙ ap (λ c. becomes o.0 c S) (sym (same_Some _ _ r.1))) (record {
        into = λ S content made i m. subst (λ c. IsIn (mover s) (other s) known c) (same_Some _ _ m) empty;
        from = (before.0, before.1, before.2, λ S. (new_content kind, refl));
      }))

  -- where an attempt can't work, it doesn't
  pub attempt-never : (attempt : Attempt) (e : Option ℕ) → (((form : SemaphoreForm) → attempt ≡ Give form → is_mutex kind (Some kind) ≡ true → (n : ℕ) × (known ≡ Own n))) → worked_by kind (Try attempt e) known ≡ None → (S mid : State) → IsIn (mover s) (other s) known (content_of S o.0) → Works s.app S (mover s) o.0 attempt mid → ⊥
  attempt-never (Take form) e own w S mid i r = taken-none s.app (mover s) (other s) kind known (content_of S o.0) r.0 t w i r.1
  attempt-never (Give form) e own w S mid i r = given-none s.app (mover s) (other s) kind known (content_of S o.0) r.0 t (own form refl) w r.1
  attempt-never attempt e own w S mid i r = cc

  -- the row of an attempt that fails
  fails-shown : (timing : Timing) (attempt : Attempt) (e : Option ℕ) → can_fail_on kind timing (Try attempt e) ≡ true → (before : Content) × CanHave s.app kind before × IsIn (mover s) (other s) known before × IsTrue (can_fail timing kind before attempt)
  fails-shown timing (Give form) e f = full-shown s.app (mover s) (other s) kind known t f
  fails-shown timing attempt e f =
      let before = some-content s.app (mover s) (other s) kind known t in (before.0, before.1, before.2, f)

  pub failed-row : (timing : Timing) (attempt : Attempt) (e : Option ℕ) (span : Range) → can_fail_on kind timing (Try attempt e) ≡ true → IsEndRow s o known known timing (Try attempt e) Else None span
  failed-row timing attempt e span f = record {
    after = λ S c mid is inside ends. (content_of S o.0, span.lo, ends.2 ∙ same-content o S, inside, end-in span false);
    shown = λ d.
        let b = fails-shown timing attempt e f in
        (b.0, b.1, b.2, λ S has. (pos 0, content_of S o.0, (refl, subst (λ c. IsTrue (can_fail timing kind c attempt)) (sym has) b.3, sym (same-content o S))));
  }

pub fails-never : (timing : Timing) (sort : Kind) (content : Content) (attempt : Attempt) (e : Option ℕ) → can_fail_on sort timing (Try attempt e) ≡ false → IsTrue (can_fail timing sort content attempt) → ⊥
fails-never timing sort content (Give form) e f t = never-full sort content f t
fails-never timing sort content attempt e f t = false≢true (sym f ∙ t)

-- a give that suits a mutex is the one that rule 3 is about
suits-given : (sort : Kind) (timing : Timing) (form : SemaphoreForm) (e : Option ℕ) → IsTrue (suits_timing timing (Try (Give form) e)) → is_unsuited sort timing (Try (Give form) e) ≡ false → is_mutex sort (Some sort) ≡ true → is_mutex sort (given_kind (Try (Give form) e) timing) ≡ true
suits-given Mutex Now PlainForm e timed suits m = refl
suits-given Recursive Now RecursiveForm e timed suits m = refl
suits-given sort timing form e timed suits m = cc

-- so the mutex is the mover's, where it isn't given unheld
pub given-own : (sort : Kind) (o : ObjId) (timing : Timing) (form : SemaphoreForm) (e : Option ℕ) (known : Holding) → IsTrue (suits_timing timing (Try (Give form) e)) → is_unsuited sort timing (Try (Give form) e) ≡ false → is_given_unheld sort (record { object = o; timing = timing; act = Try (Give form) e }) known ≡ false → is_mutex sort (Some sort) ≡ true → (n : ℕ) × (known ≡ Own n)
given-own sort o timing form e (Own n) timed suits held m = (n, refl)
given-own sort o timing form e known timed suits held m = absurd (false≢true (sym held ∙ suits-given sort timing form e timed suits m))

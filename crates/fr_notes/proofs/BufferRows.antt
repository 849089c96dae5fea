-- The ends of calls that move bytes: sends to stream and message buffers and receives from them.
use Rattle.std.proofs.Common.{◌≡◌, ℕ, ◌+◌, ◌-◌, ◌≤◌, List, [], ◌∷◌, ◌++◌, Option, Some, None, Bool, true, false, refl, sym, ap, ◌∙◌, subst, arith, ⊎_elim, eq-eqb}
use Rattle.std.specs.Prelude.{ℤ, pos, negsuc, ◌≤ℤ◌, ◌<ℤ◌, IsTrue, int_le, nat_lt, nat_eq, sum, if◌then◌else◌}
use Rattle.fr_notes.proofs.Terms.{int_min, ints, clamps, cases_lt, eqb-true, same_Some, cond_some, All-nil, All-cons, All-head, common_steps, ObjId, VarId, Act, Move, BufferKind, OfStream, OfMessage}
use Rattle.fr_notes.proofs.Terms.{Timing, Kind, Stream, Message, Range, Program, KindInLimits, is_buffer, Then, Else, State, Content, Bytes, Lengths, CanHave, content_of, kind_of, becomes, Completes}
use Rattle.fr_notes.proofs.Terms.{Moves, sent_bytes, received_bytes, sent_message, received_message, with_result, transition, Within, ends_of, Holding, Living, size_of, least_moved, results_of}
use Rattle.std.proofs.lemmas.List.Sums.{sum_by-cons}
use Rattle.fr_program.specs.declared.instr.End.{End}
use Rattle.fr_program.specs.declared.instr.End.TheVariants.{Writer, Reader}
use Rattle.fr_notes.proofs.Holdings.{IsIn}
use Rattle.fr_notes.proofs.Seen.{Site, mover, other}
use Rattle.fr_notes.proofs.Left.{end_of}
use Rattle.fr_notes.proofs.ObjectRows.{same-content}
use Rattle.fr_notes.proofs.EndRows.{IsEndRow}
use Rattle.fr_notes.proofs.Ends.{IsTarget, some-content, living-only}
use Rattle.fr_notes.proofs.AttemptRows.{buffer-unheld}

-- the range goes from one number to another
record IsSpan (span : Range) (lo hi : ℤ) : Type 0 where
  lo_is : span.lo ≡ lo
  hi_is : span.hi ≡ hi

span-is : (span : Range) (lo hi : ℤ) → ends_of span ≡ (lo, hi) → IsSpan span lo hi
span-is span lo hi is = record { lo_is = ap (λ r. r.0) is; hi_is = ap (λ r. r.1) is }

pub bytes-in : (a b n : ℕ) → IsIn a b Living (Bytes n)
bytes-in a b n = (λ e. cc, λ k e. cc, λ k e. cc)

pub lengths-in : (a b : ℕ) (ls : List ℕ) → IsIn a b Living (Lengths ls)
lengths-in a b ls = (λ e. cc, λ k e. cc, λ k e. cc)

-- the lesser of a number and a size, as a number
least-number : (n : ℕ) (size : ℤ) → pos 0 ≤ℤ size → (j : ℕ) × (pos j ≡ int_min (pos n) size) × (j ≤ n) × (pos j ≤ℤ size)
least-number n (negsuc m) h = absurd (omega (arith, ints, h))
least-number n (pos m) h =
    ⊎_elim (λ l. (n, omega (arith, ints, clamps), omega arith, omega (arith, ints))) (λ l. (m, omega (arith, ints, clamps), omega arith, omega (arith, ints))) (cases_lt n m)

-- an end that makes something of the content and writes how much it moved; so much fits
module _ (s : Site) (o : ObjId) (known : Holding) (only : known ≡ Living) (timing : Timing) (act : Act) (result : Option VarId) (span : Range) (Fits : ℕ → Type 0) (move : ℕ → Content → Option Content) (to : (S : State) (c : ℤ) (mid : State) → Completes s.app (transition S (mover s) c mid) o.0 timing act Then → (j : ℕ) × (c ≡ pos j) × Fits j × Moves o.0 (move j (content_of S o.0)) result c S mid) (from : (j : ℕ) (S mid : State) → Fits j → Moves o.0 (move j (content_of S o.0)) result (pos j) S mid → Completes s.app (transition S (mover s) (pos j) mid) o.0 timing act Then) where
  moves-row : ((j : ℕ) (content made : Content) → CanHave s.app (kind_of s.app o.0) content → Fits j → move j content ≡ Some made → IsIn (mover s) (other s) Living made × Within (ends_of span) (pos j)) → ((d : Bool) → (before : Content) × CanHave s.app (kind_of s.app o.0) before × IsIn (mover s) (other s) Living before × (j : ℕ) × Fits j × (pos j ≡ end_of d (ends_of span)) × (made : Content) × (move j before ≡ Some made)) → IsEndRow s o known known timing act Then result span
  moves-row into shown = record {
    after = λ S c mid is inside ends.
        let t = to S c mid ends in
        let put = t.3.1 in
        let w = into t.0 (content_of S o.0) put.0 (is.mover.formed.contents o.0) t.2 put.1 in
        (put.0, c, t.3.2 ∙ ap (λ U. with_result result c U) put.2, subst (λ h. IsIn (mover s) (other s) h put.0) (sym only) w.0, subst (λ v. Within (ends_of span) v) (sym t.1) w.1);
    shown = λ d.
        let t = shown d in (
          t.0,
          t.1,
          subst (λ h. IsIn (mover s) (other s) h t.0) (sym only) t.2,
          λ S has.
              (pos t.3, t.6, subst (λ v. Completes s.app (transition S (mover s) (pos t.3) (with_result result v (becomes o.0 t.6 S))) o.0 timing act Then) t.5 (from t.3 S (with_result result (pos t.3) (becomes o.0 t.6 S)) t.4 (becomes o.0 t.6 S, (t.6, ap (λ c. move t.3 c) has ∙ t.7, refl), refl))),
        );
  }

-- the size of a buffer of this kind
abbrev pub HasSize : Kind → ℤ → Type 0
HasSize (Stream size) s = size ≡ s
HasSize (Message size) s = size ≡ s
HasSize kind s = ⊥

at-most : (x y : ℤ) → int_le x y ≡ true → x ≤ℤ y
at-most x y h = grind (arith, ints)

is-at-most : (x y : ℤ) → x ≤ℤ y → int_le x y ≡ true
is-at-most x y h = grind (arith, ints)

-- a number that is at most the length and the size is in the range up to the lesser of them
up-to : (span : Range) (lo n j : ℕ) (size : ℤ) → IsSpan span (pos lo) (int_min (pos n) size) → lo ≤ j → j ≤ n → pos j ≤ℤ size → Within (ends_of span) (pos j)
up-to span lo n j size is from l fits =
    let low = is.lo_is in
    let high = is.hi_is in
    (omega (arith, ints, low, from), omega (arith, ints, clamps, high, fits, l))

-- a stream takes up to the lesser of the length and its size
module _ (P : Program) (x y n : ℕ) (span : Range) where
  sent-bytes-in : (j : ℕ) (kind : Kind) (size : ℤ) (content made : Content) → IsTrue (is_buffer OfStream kind) → HasSize kind size → IsSpan span (pos 0) (int_min (pos n) size) → j ≤ n → sent_bytes j kind content ≡ Some made → IsIn x y Living made × Within (ends_of span) (pos j)
  sent-bytes-in j (Stream s) size (Bytes m) made t same is l e =
      let f = cond_some (int_le (pos (m + j)) s) (Bytes (m + j)) made e in
      let fits = at-most (pos (m + j)) s f.0 in
      (subst (λ c. IsIn x y Living c) f.1 (bytes-in x y (m + j)), up-to span 0 n j size is (omega arith) l (omega (arith, ints, fits, same)))
  sent-bytes-in j kind size content made t same is l e = cc

  received-bytes-in : (j : ℕ) (kind : Kind) (size : ℤ) (content made : Content) → IsTrue (is_buffer OfStream kind) → HasSize kind size → CanHave P kind content → IsSpan span (pos 0) (int_min (pos n) size) → j ≤ n → received_bytes j content ≡ Some made → IsIn x y Living made × Within (ends_of span) (pos j)
  received-bytes-in j (Stream s) size (Bytes m) made t same can is l e = less (nat_lt m j) refl
    where
      less : (d : Bool) → nat_lt m j ≡ d → IsIn x y Living made × Within (ends_of span) (pos j)
      less true f = let g : (if true then None else Some (Bytes (m - j))) ≡ Some made = rw f at e in cc
      less false f =
          let g = rw f at e in
          let there : j ≤ m = grind (arith, common_steps) in
          (subst (λ c. IsIn x y Living c) (same_Some _ _ g) (bytes-in x y (m - j)), up-to span 0 n j size is (omega arith) l (omega (arith, ints, can, same, there)))
  received-bytes-in j (Stream s) size content made t same can is l e = cc
  received-bytes-in j kind size content made t same can is l e = cc

  sent-message-in : (kind : Kind) (content made : Content) → IsTrue (is_buffer OfMessage kind) → IsSpan span (pos n) (pos n) → sent_message n kind content ≡ Some made → IsIn x y Living made × Within (ends_of span) (pos n)
  sent-message-in (Message s) (Lengths ls) made t is e =
      let f = cond_some (int_le (pos (sum ls + n)) s) (Lengths (ls ++ n ∷ [])) made e in
      let low = is.lo_is in
      let high = is.hi_is in
      (subst (λ c. IsIn x y Living c) f.1 (lengths-in x y (ls ++ n ∷ [])), (omega (arith, ints, low), omega (arith, ints, high)))
  sent-message-in kind content made t is e = cc

  received-message-in : (j : ℕ) (kind : Kind) (size : ℤ) (content made : Content) → IsTrue (is_buffer OfMessage kind) → HasSize kind size → CanHave P kind content → IsSpan span (pos 1) (int_min (pos n) size) → j ≤ n → received_message j content ≡ Some made → IsIn x y Living made × Within (ends_of span) (pos j)
  received-message-in j (Message s) size (Lengths (l ∷ ls)) made t same can is le e =
      let f = cond_some (nat_eq l j) (Lengths ls) made e in
      let is_j = eqb-true l j f.0 in
      let some = All-head (λ n. 1 ≤ n) l ls can.1 in
      let total = sum_by-cons (λ x. x) l ls in
      (subst (λ c. IsIn x y Living c) f.1 (lengths-in x y ls), up-to span 1 n j size is (omega (arith, some, is_j)) le (omega (arith, ints, can.0, total, same, is_j)))
  received-message-in j (Message s) size content made t same can is le e = cc
  received-message-in j kind size content made t same can is le e = cc

-- no message is sent that is longer than the buffer
message-too-long : (n : ℕ) (kind : Kind) (size : ℤ) (content made : Content) → HasSize kind size → size <ℤ pos n → sent_message n kind content ≡ Some made → ⊥
message-too-long n (Message s) size (Lengths ls) made same long e =
    let f = cond_some (int_le (pos (sum ls + n)) s) (Lengths (ls ++ n ∷ [])) made e in
    let fits = at-most (pos (sum ls + n)) s f.0 in
    absurd (omega (arith, ints, fits, same, long))
message-too-long n kind size content made same long e = cc

-- one of these numbers of bytes fits an empty stream, or comes from one that has just so many
module _ (P : Program) (x y n : ℕ) (span : Range) where
  -- the two ends of the range, as numbers
  end-number : (lo : ℕ) (size : ℤ) (d : Bool) → IsSpan span (pos lo) (int_min (pos n) size) → lo ≤ n → pos lo ≤ℤ size → (j : ℕ) × (j ≤ n) × (pos j ≤ℤ size) × (lo ≤ j) × (pos j ≡ end_of d (ends_of span))
  end-number lo size false is l h = (lo, l, h, omega arith, sym is.lo_is)
  end-number lo size true is l h =
      let k = least-number n size (omega (arith, ints, h)) in
      (k.0, k.2, k.3, omega (arith, ints, clamps, k.1, l, h), k.1 ∙ sym is.hi_is)

  stream-sends : (kind : Kind) (size : ℤ) (d : Bool) → IsTrue (is_buffer OfStream kind) → HasSize kind size → KindInLimits kind → IsSpan span (pos 0) (int_min (pos n) size) → (before : Content) × CanHave P kind before × IsIn x y Living before × (j : ℕ) × (j ≤ n) × (pos j ≡ end_of d (ends_of span)) × (made : Content) × (sent_bytes j kind before ≡ Some made)
  stream-sends (Stream s) size d t same h is =
      let k = end-number 0 size d is (omega arith) (omega (arith, ints, h.0, same)) in
      let room = is-at-most (pos (0 + k.0)) s (omega (arith, ints, k.2, same)) in
      (Bytes 0, omega (arith, ints, h.0), bytes-in x y 0, k.0, k.1, k.4, Bytes (0 + k.0), rw room)
  stream-sends kind size d t same h is = cc

  stream-receives : (kind : Kind) (size : ℤ) (d : Bool) → IsTrue (is_buffer OfStream kind) → HasSize kind size → KindInLimits kind → IsSpan span (pos 0) (int_min (pos n) size) → (before : Content) × CanHave P kind before × IsIn x y Living before × (j : ℕ) × (j ≤ n) × (pos j ≡ end_of d (ends_of span)) × (made : Content) × (received_bytes j before ≡ Some made)
  stream-receives (Stream s) size d t same h is =
      let k = end-number 0 size d is (omega arith) (omega (arith, ints, h.0, same)) in
      let there : nat_lt k.0 k.0 ≡ false = not-below k.0 in
      (Bytes k.0, omega (arith, ints, k.2, same), bytes-in x y k.0, k.0, k.1, k.4, Bytes (k.0 - k.0), rw there)
    where
      not-below : (j : ℕ) → nat_lt j j ≡ false
      not-below j = grind (arith, common_steps)
  stream-receives kind size d t same h is = cc

  message-sends : (kind : Kind) (size : ℤ) (d : Bool) → IsTrue (is_buffer OfMessage kind) → HasSize kind size → KindInLimits kind → pos n ≤ℤ size → IsSpan span (pos n) (pos n) → (before : Content) × CanHave P kind before × IsIn x y Living before × (pos n ≡ end_of d (ends_of span)) × (made : Content) × (sent_message n kind before ≡ Some made)
  message-sends (Message s) size d t same h fits is =
      let room = is-at-most (pos (0 + n)) s (omega (arith, ints, fits, same)) in
      (Lengths [], (omega (arith, ints, h.0), All-nil (λ n. 1 ≤ n)), lengths-in x y [], ends d, Lengths (n ∷ []), rw room)
    where
      ends : (d : Bool) → pos n ≡ end_of d (ends_of span)
      ends false = sym is.lo_is
      ends true = sym is.hi_is
  message-sends kind size d t same h fits is = cc

  message-receives : (kind : Kind) (size : ℤ) (d : Bool) → IsTrue (is_buffer OfMessage kind) → HasSize kind size → KindInLimits kind → 1 ≤ n → IsSpan span (pos 1) (int_min (pos n) size) → (before : Content) × CanHave P kind before × IsIn x y Living before × (j : ℕ) × (j ≤ n) × (pos j ≡ end_of d (ends_of span)) × (made : Content) × (received_message j before ≡ Some made)
  message-receives (Message s) size d t same h some is =
      let k = end-number 1 size d is some (omega (arith, ints, h.0, same)) in
      let total = sum_by-cons (λ x. x) k.0 [] in
      let first = eq-eqb k.0 k.0 refl in
      (Lengths (k.0 ∷ []), (omega (arith, ints, k.2, same, total), All-cons (λ n. 1 ≤ n) k.0 [] k.3 (All-nil (λ n. 1 ≤ n))), lengths-in x y (k.0 ∷ []), k.0, k.1, k.4, Lengths [], rw first)
  message-receives kind size d t same h some is = cc

-- the size of a buffer, in one word
has-size : (buffer : BufferKind) (kind : Kind) → IsTrue (is_buffer buffer kind) → HasSize kind (size_of kind)
has-size OfStream (Stream size) t = refl
has-size OfMessage (Message size) t = refl
has-size buffer kind t = cc

some-size : (buffer : BufferKind) (kind : Kind) → IsTrue (is_buffer buffer kind) → KindInLimits kind → pos 1 ≤ℤ size_of kind
some-size OfStream (Stream size) t h = h.0
some-size OfMessage (Message size) t h = h.0
some-size buffer kind t h = cc

module _ (s : Site) (o : ObjId) (known : Holding) (t : IsTarget s.app (mover s) (other s) (kind_of s.app o.0) known) (timing : Timing) (n : ℕ) (result : Option VarId) where
  abbrev kind : Kind
  kind = kind_of s.app o.0

  abbrev a : ℕ
  a = mover s

  abbrev b : ℕ
  b = other s

  only-living : (buffer : BufferKind) → IsTrue (is_buffer buffer kind) → known ≡ Living
  only-living buffer acts = living-only s.app a b kind known t (λ m c. buffer-unheld buffer kind m acts c)

  -- a call that moves bytes
  pub move-row : (end : End) (buffer : BufferKind) (span : Range) → IsTrue (is_buffer buffer kind) → 1 ≤ n → ends_of span ≡ results_of kind (Move end buffer n result) → IsEndRow s o known known timing (Move end buffer n result) Then result span
  move-row Writer OfStream span acts some is =
      let spans = span-is span (pos 0) (int_min (pos n) (size_of kind)) is in
      moves-row s o known (only-living OfStream acts) timing (Move Writer OfStream n result) result span (λ j. j ≤ n) (λ j c. sent_bytes j kind c) (λ S c mid r. (r.0, r.1, r.2, r.3)) (λ j S mid l m. (j, refl, l, m))
      (λ j content made can l m. sent-bytes-in s.app a b n span j kind (size_of kind) content made acts (has-size OfStream kind acts) spans l m)
      (λ d. stream-sends s.app a b n span kind (size_of kind) d acts (has-size OfStream kind acts) t.limits spans)
  move-row Reader OfStream span acts some is =
      let spans = span-is span (pos 0) (int_min (pos n) (size_of kind)) is in
      moves-row s o known (only-living OfStream acts) timing (Move Reader OfStream n result) result span (λ j. j ≤ n) (λ j c. received_bytes j c) (λ S c mid r. (r.0, r.1, r.2, r.3)) (λ j S mid l m. (j, refl, l, m))
      (λ j content made can l m. received-bytes-in s.app a b n span j kind (size_of kind) content made acts (has-size OfStream kind acts) can spans l m)
      (λ d. stream-receives s.app a b n span kind (size_of kind) d acts (has-size OfStream kind acts) t.limits spans)
  move-row Writer OfMessage span acts some is =
      let spans = span-is span (pos n) (int_min (pos n) (size_of kind)) is in
      let low = spans.lo_is in
      let high = spans.hi_is in
      let fits : pos n ≤ℤ size_of kind = omega (arith, ints, clamps, low, high, span.ordered) in
      let one : IsSpan span (pos n) (pos n) = record { lo_is = low; hi_is = omega (arith, ints, clamps, high, fits) } in
      moves-row s o known (only-living OfMessage acts) timing (Move Writer OfMessage n result) result span (λ j. j ≡ n) (λ j c. sent_message j kind c) (λ S c mid r. (n, r.0, refl, r.1)) (λ j S mid l m. (ap (λ i. pos i) l, subst (λ i. Moves o.0 (sent_message i kind (content_of S o.0)) result (pos j) S mid) l m))
      (λ j content made can l m. subst (λ i. IsIn a b Living made × Within (ends_of span) (pos i)) (sym l) (sent-message-in s.app a b n span kind content made acts one (subst (λ i. sent_message i kind content ≡ Some made) l m)))
      (λ d.
      let sends = message-sends s.app a b n span kind (size_of kind) d acts (has-size OfMessage kind acts) t.limits fits one in
      (sends.0, sends.1, sends.2, n, refl, sends.3, sends.4, sends.5))
  move-row Reader OfMessage span acts some is =
      let spans = span-is span (pos 1) (int_min (pos n) (size_of kind)) is in
      moves-row s o known (only-living OfMessage acts) timing (Move Reader OfMessage n result) result span (λ j. j ≤ n) (λ j c. received_message j c) (λ S c mid r. (r.0, r.1, r.2, r.3)) (λ j S mid l m. (j, refl, l, m))
      (λ j content made can l m. received-message-in s.app a b n span j kind (size_of kind) content made acts (has-size OfMessage kind acts) can spans l m)
      (λ d. message-receives s.app a b n span kind (size_of kind) d acts (has-size OfMessage kind acts) t.limits some spans)

  -- there is no such call where no number of bytes can be moved: only of a message that is longer than the buffer
  pub move-never : (end : End) (buffer : BufferKind) → IsTrue (is_buffer buffer kind) → 1 ≤ n → int_min (pos n) (size_of kind) <ℤ pos (least_moved end buffer n) → (S : State) (c : ℤ) (mid : State) → Completes s.app (transition S a c mid) o.0 timing (Move end buffer n result) Then → ⊥
  move-never Writer OfMessage acts some none S c mid r =
      let long : size_of kind <ℤ pos n = omega (arith, ints, clamps, none) in
      message-too-long n kind (size_of kind) (content_of S o.0) r.1.1.0 (has-size OfMessage kind acts) long r.1.1.1
  move-never Reader OfMessage acts some none S c mid r =
      let size = some-size OfMessage kind acts t.limits in absurd (omega (arith, ints, clamps, size, some, none))
  move-never Writer OfStream acts some none S c mid r =
      let size = some-size OfStream kind acts t.limits in absurd (omega (arith, ints, clamps, size, some, none))
  move-never Reader OfStream acts some none S c mid r =
      let size = some-size OfStream kind acts t.limits in absurd (omega (arith, ints, clamps, size, some, none))

  -- a call on a message buffer that moves nothing, and writes so
  pub nothing-row : (end : End) (span : Range) → span.lo ≡ pos 0 → span.hi ≡ pos 0 → IsEndRow s o known known timing (Move end OfMessage n result) Else result span
  nothing-row end span lo hi = record {
    after = λ S c mid is inside ends.
        let zero_c = ends.0 in
        (content_of S o.0, c, ends.1 ∙ ap (λ U. with_result result c U) (same-content o S), inside, (omega (arith, ints, lo, zero_c), omega (arith, ints, hi, zero_c)));
    shown = λ d.
        let before = some-content s.app a b kind known t in
        (before.0, before.1, before.2, λ S has. (pos 0, content_of S o.0, (refl, ap (λ v. with_result result v (becomes o.0 (content_of S o.0) S)) (ends_at d) ∙ ap (λ U. with_result result (pos 0) U) (sym (same-content o S)))));
  }
    where
      ends_at : (d : Bool) → end_of d (ends_of span) ≡ pos 0
      ends_at false = lo
      ends_at true = hi

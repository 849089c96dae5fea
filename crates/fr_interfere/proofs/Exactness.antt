-- The lists of an index against the step table: what a row changes is listed, and for what is listed there is a state from which a
-- row changes it.
use Rattle.std.proofs.Common.{◌≡◌, ◌≢◌, ℕ, suc, ◌+◌, ◌-◌, ◌<◌, ◌≤◌, List, [], ◌∷◌, ◌++◌, length, Option, Some, None, Bool, true, false, refl, sym, ap, ◌∙◌, subst, arith, ⊎_elim, inl, inr}
use Rattle.std.specs.Prelude.{ℤ, pos, ◌≤ℤ◌, ◌+ℤ◌, ◌*ℤ◌, ◌⊎◌, ◌↔◌, IsTrue, Contains, nat_eq, int_lt, int_le, nat_lt, if◌then◌else◌, slice_get, sum}
use Rattle.std.specs.Ordering.{int_eq}
use Rattle.fr_interfere.proofs.Terms.{ints, cases_eq, eqb-true, same_Some, cond_some, get_or-set_same, get_or-set_other, length-map-range_with_len, get_or-map-range_with_len, ObjId, VarId, Point}
use Rattle.fr_interfere.proofs.Terms.{Side, Before, Inside, Instr, Set, If, Goto, Pick, Calls, Return, Call, EnterCritical, Create}
use Rattle.fr_interfere.proofs.Terms.{Delete, On, ObjectCall, Act, Try, Move, Attempt, QueueSend, QueueReceive, Take, Give, Reset, BufferKind, OfStream, OfMessage, End, Writer, Reader, Operand}
use Rattle.fr_interfere.proofs.Terms.{Number, Variable, Operator, Plus, Minus, Times, Timing, Kind, Queue, Binary, Counting, Mutex, Recursive, Stream, Message, Program, InstrInLimits, instr_of}
use Rattle.fr_interfere.proofs.Terms.{IsFaultless, points_of, attempts_on, acts_on, State, Content, Dead, Values, Count, Free, Held, Bytes, Lengths, content_of, value_of, kind_of, new_content, write}
use Rattle.fr_interfere.proofs.Terms.{becomes, UsesDead, operand_of, result_of, Way, Then, Else, Row, Does, Works, Completes, Puts, with_result, transition, taken, given, queued, moved_bytes}
use Rattle.fr_interfere.proofs.Terms.{sent_message, received_message, set_case, listed, instead, instead-same, Effect, effect_inside, effect_of, effect_by, effect_at, target_of, made_of, IndexOf}
use Rattle.fr_interfere.proofs.Terms.{IsIndexOf, Lists, list_at}
use Rattle.std.proofs.Math.IntN.{*ℤ_comm, *ℤ-one}
use Rattle.std.proofs.lemmas.Bool.Decides.{Decides-int_eq}
use Rattle.std.proofs.lemmas.Option.{slice_get_within}
use Rattle.fr_program.specs.declared.instr.CreatedKind.{CreatedKind}
use Rattle.fr_program.specs.declared.instr.DeletedKind.{DeletedKind}
use Rattle.fr_rules.proofs.Built.{HasSizes, is-built}
use Rattle.fr_interfere.specs.IndexLaw.{ChangesNumber, KeepsNumber, IsTurned, ChangesLife, IsAt, IsExact}
use Rattle.fr_effects.proofs.BearLaws.{call-suits}
use Rattle.fr_effects.proofs.EffectLaws.{Suits}
use Rattle.fr_notes.proofs.Shown.{new-live}

-- ---- what a row changes is listed

-- the variable whose number a row changes is the one that it writes
module _ (P : Program) (S T : State) (a : ℕ) (c : ℤ) (x : ℕ) (other : value_of T x ≢ value_of S x) where
  moved : (U : State) → value_of U x ≡ value_of S x → T ≢ U
  moved U same e = other (ap (λ V. value_of V x) e ∙ same)

  written : (U : State) (y : ℕ) (v : ℤ) → value_of U x ≡ value_of S x → T ≡ write y v U → x ≡ y
  written U y v same e =
      ⊎_elim (λ one. one) (λ two. absurd (moved (write y v U) (get_or-set_other U.values y x v (pos 0) two ∙ same) e)) (cases_eq x y)

  result-written : (result : Option VarId) (U : State) → value_of U x ≡ value_of S x → T ≡ with_result result c U → (y : VarId) × (result ≡ Some y) × (x ≡ y.0)
  result-written None U same e = absurd (moved U same e)
  result-written (Some y) U same e = (y, refl, written U y.0 c same e)

  put-same : (o : ℕ) (new : Option Content) (U : State) → Puts o new S U → value_of U x ≡ value_of S x
  put-same o new U h = ap (λ V. value_of V x) h.2

  does-none : (call : Call) (way : Way) → Does P (transition S a c T) call way → ⊥
  does-none (EnterCritical form) Then h = moved _ refl h.2
  does-none (Create kind o e) Then h = moved _ refl h.2
  does-none (Create kind o e) Else h = moved _ refl h.2
  does-none call Else h = elim h [ ]
  does-none call Then h = moved _ refl h.1

  move-target : (end : End) (buffer : BufferKind) (n : ℕ) (kind : Kind) (result : Option VarId) → (y : VarId) × (result ≡ Some y) × (x ≡ y.0) → target_of (effect_inside (Move end buffer n result) kind) ≡ Some x
  move-target end buffer n kind result h =
      subst (λ r. target_of (effect_inside (Move end buffer n r) kind) ≡ Some x) (sym h.1) (ap (λ k. Some k) (sym h.2))

  works-target : (o : ℕ) (e : Option ℕ) (attempt : Attempt) → IsTrue (attempts_on attempt (kind_of P o)) → Works P S a o attempt T → target_of (effect_inside (Try attempt e) (kind_of P o)) ≡ Some x
  works-target o e (QueueSend value) suits h = absurd (moved _ (put-same o _ _ h) refl)
  works-target o e (QueueReceive into) suits h = got (kind_of P o) suits
    where
      got : (kind : Kind) → IsTrue (attempts_on (QueueReceive into) kind) → target_of (effect_inside (Try (QueueReceive into) e) kind) ≡ Some x
      got (Queue size lo hi) t = ap (λ k. Some k) (sym (written (becomes o (Values h.1) S) into.0 h.0 refl h.3))
      got kind t = cc
  works-target o e (Take form) suits h = absurd (moved _ (put-same o _ _ h) refl)
  works-target o e (Give form) suits h = absurd (moved _ (put-same o _ _ h) refl)
  works-target o e (Reset buffer) suits h = absurd (moved _ refl h)

  ends-target : (o : ℕ) (timing : Timing) (act : Act) (way : Way) → IsTrue (acts_on act (kind_of P o)) → Completes P (transition S a c T) o timing act way → target_of (effect_inside act (kind_of P o)) ≡ Some x
  ends-target o timing (Try attempt e) Then suits h = works-target o e attempt suits h.1
  ends-target o timing (Try attempt e) Else suits h = absurd (moved S refl h.2)
  ends-target o timing (Move end OfStream n result) Then suits h =
      move-target end OfStream n (kind_of P o) result (result-written result h.3.0 (put-same o _ _ h.3.1) h.3.2)
  ends-target o timing (Move end OfStream n result) Else suits h = elim h [ ]
  ends-target o timing (Move Writer OfMessage n result) Then suits h =
      move-target Writer OfMessage n (kind_of P o) result (result-written result h.1.0 (put-same o _ _ h.1.1) h.1.2)
  ends-target o timing (Move Reader OfMessage n result) Then suits h =
      move-target Reader OfMessage n (kind_of P o) result (result-written result h.3.0 (put-same o _ _ h.3.1) h.3.2)
  ends-target o timing (Move end OfMessage n result) Else suits h =
      move-target end OfMessage n (kind_of P o) result (result-written result S refl h.1)

  row-target : (side : Side) (i : Instr) (way : Way) → ((call : ObjectCall) → i ≡ Calls (On call) → Suits P call) → Row P (transition S a c T) side i way → target_of (effect_of P side i) ≡ Some x
  row-target Before (Set y l op r) Then suits h = ap (λ k. Some k) (sym (written S y.0 _ refl h.1))
  row-target Before (If l comparison r target) Then suits h = absurd (moved S refl h.2)
  row-target Before (If l comparison r target) Else suits h = absurd (moved S refl h.2)
  row-target Before (Goto target) Then suits h = absurd (moved S refl h.1)
  row-target Before (Pick y lo hi) Then suits h = ap (λ k. Some k) (sym (written S y.0 c refl h.2))
  row-target Before Return Then suits h = absurd (moved S refl h.1)
  row-target Before (Calls call) way suits h = absurd (does-none call way h)
  row-target Inside (Calls (On call)) way suits h =
      ends-target call.object.0 call.timing call.act way (suits call refl).0 h
  row-target side i way suits h = elim h [ ]

keeps-target : (P : Program) (side : Side) (i : Instr) (x : ℕ) → KeepsNumber side i x → target_of (effect_of P side i) ≡ Some x
keeps-target P Before (Set y l op r) x h = ap (λ k. Some k) h.0
keeps-target P side i x h = elim h [ ]

-- ---- what is listed some row changes

-- a state with these values and contents
abbrev shown : ℕ → (ℕ → ℤ) → (ℕ → Content) → State
shown n values contents = record { places = []; values = listed n values; objects = listed n contents; critical = None; suspended = [] }

value-shown : (n : ℕ) (f : ℕ → ℤ) (g : ℕ → Content) (x : ℕ) → x < n → value_of (shown n f g) x ≡ f x
value-shown n f g x l = get_or-map-range_with_len f 0 n x x (pos 0) l (omega arith)

content-shown : (n : ℕ) (f : ℕ → ℤ) (g : ℕ → Content) (o : ℕ) → o < n → content_of (shown n f g) o ≡ g o
content-shown n f g o l = get_or-map-range_with_len g 0 n o o Dead l (omega arith)

-- a number written to a variable that is there
written-value : (x : ℕ) (v : ℤ) (S : State) → x < length S.values → value_of (write x v S) x ≡ v
written-value x v S l = get_or-set_same S.values x v (pos 0) l

-- what an operand is beside the variable x: a number, the variable itself, or another one
data Sort : Type 0 where
  Constant : ℤ → Sort
  Own : Sort
  Another : Sort

-- its number, where x has the number v and each other variable w
abbrev number_of : Sort → ℤ → ℤ → ℤ
number_of (Constant z) v w = z
number_of Own v w = v
number_of Another v w = w

abbrev sort_by : Bool → Sort
sort_by true = Own
sort_by false = Another

abbrev sort_of : ℕ → Operand → Sort
sort_of x (Number z) = Constant z
sort_of x (Variable y) = sort_by (nat_eq y.0 x)

-- past each variable that the operand is
abbrev end_of : Operand → ℕ
end_of (Number z) = 0
end_of (Variable y) = suc y.0

module _ (x : ℕ) where
  sorted : (n : ℕ) (v w : ℤ) (g : ℕ → Content) (o : Operand) → end_of o ≤ n → operand_of (shown n (instead x v (λ y. w)) g) o ≡ number_of (sort_of x o) v w
  sorted n v w g (Number z) l = refl
  sorted n v w g (Variable y) l = value-shown n (instead x v (λ y. w)) g y.0 (omega (arith, l)) ∙ by (nat_eq y.0 x)
    where
      by : (t : Bool) → (if t then v else w) ≡ number_of (sort_by t) v w
      by true = refl
      by false = refl

  own-number : (S : State) (o : Operand) → sort_of x o ≡ Own → operand_of S o ≡ value_of S x
  own-number S (Number z) e = cc
  own-number S (Variable y) e = ap (λ k. value_of S k) (is (nat_eq y.0 x) refl)
    where
      is : (t : Bool) → nat_eq y.0 x ≡ t → y.0 ≡ x
      is true t = eqb-true y.0 x t
      is false t = let f : sort_by false ≡ Own = subst (λ b. sort_by b ≡ Own) t e in cc

  constant-number : (S : State) (o : Operand) (z : ℤ) → sort_of x o ≡ Constant z → operand_of S o ≡ z
  constant-number S (Number n) z e = cc
  constant-number S (Variable y) z e = absurd (never (nat_eq y.0 x) e)
    where
      never : (t : Bool) → sort_by t ≡ Constant z → ⊥
      never true f = cc
      never false f = cc

-- a `set` that keeps the number of its variable in four states adds or takes away 0, or multiplies by 1
abbrev Keepers : Operator → Sort → Sort → Type 0
Keepers op s t =
    ((z : ℤ) × (s ≡ Own) × (t ≡ Constant z) × ((v : ℤ) → result_of op v z ≡ v))
    ⊎ ((z : ℤ) × (s ≡ Constant z) × (t ≡ Own) × ((v : ℤ) → result_of op z v ≡ v))

abbrev gives : Operator → Sort → Sort → ℤ → ℤ → ℤ
gives op s t v w = result_of op (number_of s v w) (number_of t v w)

kept : (op : Operator) (s t : Sort) → gives op s t (pos 0) (pos 0) ≡ pos 0 → gives op s t (pos 1) (pos 0) ≡ pos 1 → gives op s t (pos 1) (pos 1) ≡ pos 1 → gives op s t (pos 2) (pos 0) ≡ pos 2 → Keepers op s t
unfolding lib.IntN.one
kept Plus Own (Constant z) e f g h = inl (z, refl, refl, λ v. omega (arith, ints, e))
kept Plus (Constant z) Own e f g h = inr (z, refl, refl, λ v. omega (arith, ints, e))
kept Minus Own (Constant z) e f g h = inl (z, refl, refl, λ v. omega (arith, ints, e))
kept Times Own (Constant z) e f g h =
    let is : z ≡ pos 1 = sym (*ℤ-one z) ∙ *ℤ_comm z (pos 1) ∙ f in
    inl (z, refl, refl, λ v. ap (λ k. v *ℤ k) is ∙ *ℤ-one v)
kept Times (Constant z) Own e f g h =
    let is : z ≡ pos 1 = sym (*ℤ-one z) ∙ f in
    inr (z, refl, refl, λ v. ap (λ k. k *ℤ v) is ∙ *ℤ_comm (pos 1) v ∙ *ℤ-one v)
kept Minus (Constant z) Own e f g h = absurd (omega (arith, ints, e, f))
kept op Own Own e f g h = absurd (both op f h)
  where
    both : (op : Operator) → result_of op (pos 1) (pos 1) ≡ pos 1 → result_of op (pos 2) (pos 2) ≡ pos 2 → ⊥
    both Plus f h = cc
    both Minus f h = cc
    both Times f h = cc
kept op Own Another e f g h = absurd (first op f g)
  where
    first : (op : Operator) → result_of op (pos 1) (pos 0) ≡ pos 1 → result_of op (pos 1) (pos 1) ≡ pos 1 → ⊥
    first Plus f g = cc
    first Minus f g = cc
    first Times f g = cc
kept op Another Own e f g h = absurd (second op f g)
  where
    second : (op : Operator) → result_of op (pos 0) (pos 1) ≡ pos 1 → result_of op (pos 1) (pos 1) ≡ pos 1 → ⊥
    second Plus f g = cc
    second Minus f g = cc
    second Times f g = cc
kept op (Constant y) (Constant z) e f g h = let one : pos 0 ≡ pos 1 = sym e ∙ f in cc
kept op (Constant y) Another e f g h = let one : pos 0 ≡ pos 1 = sym e ∙ f in cc
kept op Another (Constant z) e f g h = let one : pos 0 ≡ pos 1 = sym e ∙ f in cc
kept op Another Another e f g h = let one : pos 0 ≡ pos 1 = sym e ∙ f in cc

-- a `set` changes the number of its variable in some state, or keeps it in each
module _ (P : Program) (y : VarId) (l : Operand) (op : Operator) (r : Operand) where
  abbrev x : ℕ
  x = y.0

  abbrev size : ℕ
  size = suc (x + end_of l + end_of r)

  abbrev tried : ℤ → ℤ → State
  tried v w = shown size (instead x v (λ k. w)) (λ o. Dead)

  result-tried : (v w : ℤ) → result_of op (operand_of (tried v w) l) (operand_of (tried v w) r) ≡ gives op (sort_of x l) (sort_of x r) v w
  result-tried v w =
      ap (λ k. result_of op k (operand_of (tried v w) r)) (sorted x size v w (λ o. Dead) l (omega arith))
      ∙ ap (λ k. result_of op (number_of (sort_of x l) v w) k) (sorted x size v w (λ o. Dead) r (omega arith))

  abbrev new_number : State → ℤ
  new_number S = result_of op (operand_of S l) (operand_of S r)

  trial : (v w : ℤ) → ChangesNumber P Before (Set y l op r) x ⊎ (gives op (sort_of x l) (sort_of x r) v w ≡ v)
  trial v w = by (int_eq (gives op (sort_of x l) (sort_of x r) v w) v) refl
    where
      by : (t : Bool) → int_eq (gives op (sort_of x l) (sort_of x r) v w) v ≡ t → ChangesNumber P Before (Set y l op r) x ⊎ (gives op (sort_of x l) (sort_of x r) v w ≡ v)
      by true t = inr ((Decides-int_eq _ v).0 t)
      by false t = inl (record {
        before = tried v w;
        actor = 0;
        choice = pos 0;
        after = write x (new_number (tried v w)) (tried v w);
        way = Then;
        row = (refl, refl);
        other = λ same.
            let here : value_of (tried v w) x ≡ v = value-shown size (instead x v (λ k. w)) (λ o. Dead) x (omega arith) ∙ instead-same x v (λ k. w) in
            let there : value_of (write x (new_number (tried v w)) (tried v w)) x ≡ new_number (tried v w) = written-value x (new_number (tried v w)) (tried v w) (let long = length-map-range_with_len (instead x v (λ k. w)) 0 size in omega (arith, long)) in
            let is : int_eq (gives op (sort_of x l) (sort_of x r) v w) v ≡ true = (Decides-int_eq _ v).1 (sym (result-tried v w) ∙ sym there ∙ same ∙ here) in
            let no : true ≡ false = sym is ∙ t in cc;
      })

  keeps : Keepers op (sort_of x l) (sort_of x r) → KeepsNumber Before (Set y l op r) x
  keeps (inl (z, s, t, k)) = (
    refl,
    λ S.
        ap (λ n. result_of op n (operand_of S r)) (own-number x S l s) ∙ ap (λ n. result_of op (value_of S x) n) (constant-number x S r z t) ∙ k (value_of S x),
  )
  keeps (inr (z, s, t, k)) = (
    refl,
    λ S.
        ap (λ n. result_of op n (operand_of S r)) (constant-number x S l z s) ∙ ap (λ n. result_of op z n) (own-number x S r t) ∙ k (value_of S x),
  )

  set-listed : ChangesNumber P Before (Set y l op r) x ⊎ KeepsNumber Before (Set y l op r) x
  set-listed =
      ⊎_elim inl (λ e. ⊎_elim inl (λ f. ⊎_elim inl (λ g. ⊎_elim inl (λ h. inr (keeps (kept op (sort_of x l) (sort_of x r) e f g h))) (trial (pos 2) (pos 0))) (trial (pos 1) (pos 1))) (trial (pos 1) (pos 0))) (trial (pos 0) (pos 0))

-- a row that writes a variable writes it in a state in which it has another number
module _ (P : Program) (o : ℕ) (y : VarId) where
  abbrev held : ℤ → Content → State
  held v content = shown (suc (y.0 + o)) (instead y.0 v (λ k. v)) (instead o content (λ k. content))

  held-value : (v : ℤ) (content : Content) → value_of (held v content) y.0 ≡ v
  held-value v content = value-shown (suc (y.0 + o)) (instead y.0 v (λ k. v)) (instead o content (λ k. content)) y.0 (omega arith) ∙ instead-same y.0 v (λ k. v)

  held-content : (v : ℤ) (content : Content) → content_of (held v content) o ≡ content
  held-content v content = content-shown (suc (y.0 + o)) (instead y.0 v (λ k. v)) (instead o content (λ k. content)) o (omega arith) ∙ instead-same o content (λ k. content)

  held-long : (v : ℤ) (content : Content) → y.0 < length (held v content).values
  held-long v content = let long = length-map-range_with_len (instead y.0 v (λ k. v)) 0 (suc (y.0 + o)) in omega (arith, long)

  -- the variable has this number, and gets another one
  changed : (v w : ℤ) (content : Content) (T : State) → (v ≡ w → ⊥) → length T.values ≡ length (held v content).values → value_of (write y.0 w T) y.0 ≢ value_of (held v content) y.0
  changed v w content T apart long same =
      let there = written-value y.0 w T (let l = held-long v content in omega (arith, l, long)) in
      apart (sym (held-value v content) ∙ sym same ∙ there)

  pick-listed : (lo hi : ℤ) → lo ≤ℤ hi → ChangesNumber P Before (Pick y lo hi) y.0
  pick-listed lo hi order = record {
    before = held (lo +ℤ pos 1) Dead;
    actor = 0;
    choice = lo;
    after = write y.0 lo (held (lo +ℤ pos 1) Dead);
    way = Then;
    row = (omega (arith, ints), order, refl);
    other = changed (lo +ℤ pos 1) lo Dead (held (lo +ℤ pos 1) Dead) (λ e. absurd (omega (arith, ints, e))) refl;
  }

  -- one value is in the queue
  abbrev filled_queue : State
  filled_queue = held (pos 0) (Values (pos 1 ∷ []))

  -- no byte is in the buffer
  abbrev empty_buffer : State
  empty_buffer = held (pos 1) (Bytes 0)

  received-listed : (object : ObjId) → object.0 ≡ o → (timing : Timing) (e : Option ℕ) → ChangesNumber P Inside (Calls (On (record { object = object; timing = timing; act = Try (QueueReceive y) e }))) y.0
  received-listed object is timing e = record {
    before = filled_queue;
    actor = 0;
    choice = pos 1;
    after = write y.0 (pos 1) (becomes object.0 (Values []) filled_queue);
    way = Then;
    row = (refl, (pos 1, [], subst (λ k. content_of filled_queue k ≡ Values (pos 1 ∷ [])) (sym is) (held-content (pos 0) (Values (pos 1 ∷ []))), refl));
    other = changed (pos 0) (pos 1) (Values (pos 1 ∷ [])) (becomes object.0 (Values []) filled_queue) (λ e. cc) refl;
  }

  -- no byte is moved, and the variable had another number
  moved-listed : (object : ObjId) → object.0 ≡ o → (timing : Timing) (end : End) (buffer : BufferKind) (n : ℕ) → HasSizes (kind_of P object.0) → IsTrue (acts_on (Move end buffer n (Some y)) (kind_of P object.0)) → ChangesNumber P Inside (Calls (On (record { object = object; timing = timing; act = Move end buffer n (Some y) }))) y.0
  moved-listed object is timing end OfMessage n sizes suits = record {
    before = held (pos 1) Dead;
    actor = 0;
    choice = pos 0;
    after = write y.0 (pos 0) (held (pos 1) Dead);
    way = Else;
    row = (refl, refl);
    other = changed (pos 1) (pos 0) Dead (held (pos 1) Dead) (λ e. cc) refl;
  }
  moved-listed object is timing end OfStream n sizes suits = record {
    before = empty_buffer;
    actor = 0;
    choice = pos 0;
    after = write y.0 (pos 0) (becomes object.0 (Bytes 0) empty_buffer);
    way = Then;
    row = (0, refl, omega arith, (becomes object.0 (Bytes 0) empty_buffer, (Bytes 0, room, refl), refl));
    other = changed (pos 1) (pos 0) (Bytes 0) (becomes object.0 (Bytes 0) empty_buffer) (λ e. cc) refl;
  }
    where
      free : (end : End) (kind : Kind) → HasSizes kind → IsTrue (acts_on (Move end OfStream n (Some y)) kind) → moved_bytes end 0 kind (Bytes 0) ≡ Some (Bytes 0)
      free Writer (Stream size) sizes t = let roomy : int_le (pos 0) size ≡ true = grind (arith, ints, sizes) in ap (λ b. if b then Some (Bytes 0) else None) roomy
      free Reader (Stream size) sizes t = refl
      free end kind sizes t = cc

      room : moved_bytes end 0 (kind_of P object.0) (content_of empty_buffer object.0) ≡ Some (Bytes 0)
      room = subst (λ d. moved_bytes end 0 (kind_of P object.0) d ≡ Some (Bytes 0)) (sym (subst (λ k. content_of empty_buffer k ≡ Bytes 0) (sym is) (held-content (pos 1) (Bytes 0)))) (free end (kind_of P object.0) sizes suits)

-- ---- lives

-- no object call leaves a dead object
module _ where
  back-live : (holder n : ℕ) (b : Bool) → Some (if b then Free else Held holder n) ≡ Some Dead → ⊥
  back-live holder n true e = cc
  back-live holder n false e = cc

  taken-live : (kind : Kind) (a : ℕ) (content : Content) → taken kind a content ≡ Some Dead → ⊥
  taken-live Mutex a Free e = cc
  taken-live Recursive a Free e = cc
  taken-live Recursive a (Held holder n) e = let f = (cond_some (nat_eq holder a) (Held a (n + 1)) Dead e).1 in cc
  taken-live Binary a (Count (suc n)) e = cc
  taken-live (Counting size first) a (Count (suc n)) e = cc
  taken-live kind a content e = cc

  given-live : (kind : Kind) (content : Content) → given kind content ≡ Some Dead → ⊥
  given-live Mutex (Held holder n) e = cc
  given-live Recursive (Held holder n) e = back-live holder _ (nat_eq n 1) e
  given-live Binary (Count n) e = let f = (cond_some (nat_lt n 1) (Count (n + 1)) Dead e).1 in cc
  given-live (Counting size first) (Count n) e = let f = (cond_some (int_lt (pos n) size) (Count (n + 1)) Dead e).1 in cc
  given-live kind content e = cc

  queued-live : (v : ℤ) (kind : Kind) (content : Content) → queued v kind content ≡ Some Dead → ⊥
  queued-live v (Queue size lo hi) (Values vs) e = let f = (cond_some (int_lt (pos (length vs)) size) (Values (vs ++ v ∷ [])) Dead e).1 in cc
  queued-live v kind content e = cc

  moved-live : (end : End) (k : ℕ) (kind : Kind) (content : Content) → moved_bytes end k kind content ≡ Some Dead → ⊥
  moved-live Writer k (Stream size) (Bytes n) e = let f = (cond_some (int_le (pos (n + k)) size) (Bytes (n + k)) Dead e).1 in cc
  moved-live Reader k kind (Bytes n) e = less (nat_lt n k) e
    where
      less : (b : Bool) → (if b then None else Some (Bytes (n - k))) ≡ Some Dead → ⊥
      less true f = cc
      less false f = cc
  moved-live end k kind content e = cc

  sent-live : (n : ℕ) (kind : Kind) (content : Content) → sent_message n kind content ≡ Some Dead → ⊥
  sent-live n (Message size) (Lengths ls) e = let f = (cond_some (int_le (pos (sum ls + n)) size) (Lengths (ls ++ n ∷ [])) Dead e).1 in cc
  sent-live n kind content e = cc

  received-live : (k : ℕ) (content : Content) → received_message k content ≡ Some Dead → ⊥
  received-live k (Lengths (l ∷ ls)) e = let f = (cond_some (nat_eq l k) (Lengths ls) Dead e).1 in cc
  received-live k content e = cc

-- the object that becomes live or dead by a row is the one that is created or deleted
module _ (P : Program) (S T : State) (a : ℕ) (c : ℤ) (k : ℕ) (turned : IsTurned (content_of S k) (content_of T k)) where
  same-life : (d : Content) → IsTurned d d → ⊥
  same-life d (inl h) = h.1 h.0
  same-life d (inr h) = h.0 h.1

  stays : (U : State) → content_of U k ≡ content_of S k → T ≢ U
  stays U same e = same-life (content_of S k) (subst (λ d. IsTurned (content_of S k) d) (ap (λ V. content_of V k) e ∙ same) turned)

  both-live : (o : ℕ) (new : Content) → content_of S o ≢ Dead → new ≢ Dead → k ≡ o → IsTurned (content_of S k) new → ⊥
  both-live o new was is q (inl h) = was (subst (λ j. content_of S j ≡ Dead) q h.0)
  both-live o new was is q (inr h) = is h.1

  alive : (o : ℕ) (new : Content) → content_of S o ≢ Dead → new ≢ Dead → content_of T k ≢ content_of (becomes o new S) k
  alive o new was is e =
      set_case S.objects o k new Dead (λ d. IsTurned (content_of S k) d → ⊥) (same-life (content_of S k)) (both-live o new was is) (subst (λ d. IsTurned (content_of S k) d) e turned)

  made : (o : ℕ) (new : Content) → T ≡ becomes o new S → o ≡ k
  made o new e =
      ⊎_elim (λ same. sym same) (λ apart. absurd (stays (becomes o new S) (get_or-set_other S.objects o k new Dead apart) e)) (cases_eq k o)

  does-made : (call : Call) (way : Way) → Does P (transition S a c T) call way → made_of (effect_of P Before (Calls call)) ≡ Some k
  does-made (EnterCritical form) Then h = absurd (stays _ refl h.2)
  does-made (Create kind o e) Then h = ap (λ j. Some j) (made o.0 _ h.2)
  does-made (Create kind o e) Else h = absurd (stays _ refl h.2)
  does-made (Delete kind o) Then h = ap (λ j. Some j) (made o.0 _ h.1)
  does-made call Else h = elim h [ ]
  does-made call Then h = absurd (stays _ refl h.1)

  put-live : (o : ℕ) (new : Option Content) (U V : State) → content_of S o ≢ Dead → (new ≡ Some Dead → ⊥) → Puts o new S U → content_of V k ≡ content_of U k → T ≢ V
  put-live o new U V was is h same e =
      alive o h.0 was (λ dead. is (h.1 ∙ ap (λ d. Some d) dead)) (ap (λ W. content_of W k) e ∙ same ∙ ap (λ W. content_of W k) h.2)

  result-same : (result : Option VarId) (U : State) → content_of (with_result result c U) k ≡ content_of U k
  result-same None U = refl
  result-same (Some y) U = refl

  works-none : (o : ℕ) (attempt : Attempt) → content_of S o ≢ Dead → Works P S a o attempt T → ⊥
  works-none o (QueueSend value) was h = put-live o _ T T was (queued-live _ (kind_of P o) (content_of S o)) h refl refl
  works-none o (QueueReceive into) was h = alive o (Values h.1) was (λ e. cc) (ap (λ W. content_of W k) h.3)
  works-none o (Take form) was h = put-live o _ T T was (taken-live (kind_of P o) a (content_of S o)) h refl refl
  works-none o (Give form) was h = put-live o _ T T was (given-live (kind_of P o) (content_of S o)) h refl refl
  works-none o (Reset buffer) was h = alive o (new_content (kind_of P o)) was (new-live (kind_of P o)) (ap (λ W. content_of W k) h)

  ends-none : (o : ℕ) (timing : Timing) (act : Act) (way : Way) → content_of S o ≢ Dead → Completes P (transition S a c T) o timing act way → ⊥
  ends-none o timing (Try attempt e) Then was h = works-none o attempt was h.1
  ends-none o timing (Try attempt e) Else was h = stays S refl h.2
  ends-none o timing (Move end OfStream n result) Then was h =
      put-live o _ h.3.0 _ was (moved-live end h.0 (kind_of P o) (content_of S o)) h.3.1 (result-same result h.3.0) h.3.2
  ends-none o timing (Move end OfStream n result) Else was h = elim h [ ]
  ends-none o timing (Move Writer OfMessage n result) Then was h =
      put-live o _ h.1.0 _ was (sent-live n (kind_of P o) (content_of S o)) h.1.1 (result-same result h.1.0) h.1.2
  ends-none o timing (Move Reader OfMessage n result) Then was h =
      put-live o _ h.3.0 _ was (received-live h.0 (content_of S o)) h.3.1 (result-same result h.3.0) h.3.2
  ends-none o timing (Move end OfMessage n result) Else was h = stays _ (result-same result S) h.1

  row-made : (side : Side) (i : Instr) (way : Way) → (UsesDead S i side → ⊥) → Row P (transition S a c T) side i way → made_of (effect_of P side i) ≡ Some k
  row-made Before (Set y l op r) Then live h = absurd (stays _ refl h.1)
  row-made Before (If l comparison r target) Then live h = absurd (stays S refl h.2)
  row-made Before (If l comparison r target) Else live h = absurd (stays S refl h.2)
  row-made Before (Goto target) Then live h = absurd (stays S refl h.1)
  row-made Before (Pick y lo hi) Then live h = absurd (stays _ refl h.2)
  row-made Before Return Then live h = absurd (stays S refl h.1)
  row-made Before (Calls call) way live h = does-made call way h
  row-made Inside (Calls (On call)) way live h =
      absurd (ends-none call.object.0 call.timing call.act way (λ dead. live (call.object.0, refl, dead)) h)
  row-made side i way live h = elim h [ ]

-- a create makes a dead object live, and a delete a live one dead
module _ (P : Program) (o : ObjId) where
  abbrev filled_with : Content → State
  filled_with content = shown (suc o.0) (λ x. pos 0) (λ j. content)

  filled : (content : Content) → content_of (filled_with content) o.0 ≡ content
  filled content = content-shown (suc o.0) (λ x. pos 0) (λ j. content) o.0 (omega arith)

  refilled : (content new : Content) → content_of (becomes o.0 new (filled_with content)) o.0 ≡ new
  refilled content new = get_or-set_same (filled_with content).objects o.0 new Dead (let long = length-map-range_with_len (λ (j : ℕ). content) 0 (suc o.0) in omega (arith, long))

  create-listed : (kind : CreatedKind) (e : Option ℕ) → ChangesLife P Before (Calls (Create kind o e)) o.0
  create-listed kind e = record {
    before = filled_with Dead;
    actor = 0;
    choice = pos 1;
    after = becomes o.0 (new_content (kind_of P o.0)) (filled_with Dead);
    way = Then;
    live = λ u. let none = u.1 in cc;
    row = (refl, filled Dead, refl);
    turned = inl (filled Dead, λ dead. new-live (kind_of P o.0) (sym (refilled Dead (new_content (kind_of P o.0))) ∙ dead));
  }

  delete-listed : (kind : DeletedKind) → ChangesLife P Before (Calls (Delete kind o)) o.0
  delete-listed kind = record {
    before = filled_with Free;
    actor = 0;
    choice = pos 0;
    after = becomes o.0 Dead (filled_with Free);
    way = Then;
    live = λ u. let dead = subst (λ j. content_of (filled_with Free) j ≡ Dead) (sym (same_Some _ _ u.1)) u.2 in let no : Free ≡ Dead = sym (filled Free) ∙ dead in cc;
    row = (refl, refl);
    turned = inr (λ dead. let no : Free ≡ Dead = sym (filled Free) ∙ dead in cc, refilled Free Dead);
  }

life-listed : (P : Program) (side : Side) (i : Instr) (k : ℕ) → made_of (effect_of P side i) ≡ Some k → ChangesLife P side i k
life-listed P Before (Calls call) k t = by call t
  where
    by : (call : Call) → made_of (effect_of P Before (Calls call)) ≡ Some k → ChangesLife P Before (Calls call) k
    by (Create kind o e) t = subst (λ j. ChangesLife P Before (Calls (Create kind o e)) j) (same_Some _ _ t) (create-listed P o kind e)
    by (Delete kind o) t = subst (λ j. ChangesLife P Before (Calls (Delete kind o)) j) (same_Some _ _ t) (delete-listed P o kind)
    by call t = cc
life-listed P Inside (Calls (On call)) k t = none call.act (kind_of P call.object.0) t
  where
    none : (act : Act) (kind : Kind) → made_of (effect_inside act kind) ≡ Some k → ChangesLife P Inside (Calls (On call)) k
    none (Try (QueueReceive into) e) (Queue size lo hi) t = cc
    none (Move end buffer n (Some y)) kind t = cc
    none act kind t = cc
life-listed P side i k t = cc

-- ---- points, and the lists

module _ (P : Program) (free : IsFaultless P) where
  act-listed : (object : ObjId) (timing : Timing) (act : Act) → IsTrue (acts_on act (kind_of P object.0)) → (x : ℕ) → target_of (effect_inside act (kind_of P object.0)) ≡ Some x → ChangesNumber P Inside (Calls (On (record { object = object; timing = timing; act = act }))) x
  act-listed object timing (Try (QueueReceive into) e) suits x t = got (kind_of P object.0) t
    where
      got : (kind : Kind) → target_of (effect_inside (Try (QueueReceive into) e) kind) ≡ Some x → ChangesNumber P Inside (Calls (On (record { object = object; timing = timing; act = Try (QueueReceive into) e }))) x
      got (Queue size lo hi) t =
          subst (λ j. ChangesNumber P Inside (Calls (On (record { object = object; timing = timing; act = Try (QueueReceive into) e }))) j) (same_Some _ _ t) (received-listed P object.0 into object refl timing e)
      got kind t = cc
  act-listed object timing (Move end buffer n (Some y)) suits x t =
      subst (λ j. ChangesNumber P Inside (Calls (On (record { object = object; timing = timing; act = Move end buffer n (Some y) }))) j) (same_Some _ _ t) (moved-listed P object.0 y object refl timing end buffer n ((is-built P free).sizes object.0) suits)
  act-listed object timing act suits x t = cc

  row-listed : (side : Side) (i : Instr) → InstrInLimits i → ((call : ObjectCall) → i ≡ Calls (On call) → Suits P call) → (x : ℕ) → target_of (effect_of P side i) ≡ Some x → ChangesNumber P side i x ⊎ KeepsNumber side i x
  row-listed Before (Set y l op r) limits suits x t =
      subst (λ j. ChangesNumber P Before (Set y l op r) j ⊎ KeepsNumber Before (Set y l op r) j) (same_Some _ _ t) (set-listed P y l op r)
  row-listed Before (Pick y lo hi) limits suits x t =
      inl (subst (λ j. ChangesNumber P Before (Pick y lo hi) j) (same_Some _ _ t) (pick-listed P 0 y lo hi limits.2))
  row-listed Before (Calls call) limits suits x t = absurd (none call t)
    where
      none : (call : Call) → target_of (effect_of P Before (Calls call)) ≡ Some x → ⊥
      none (Create kind o e) t = cc
      none (Delete kind o) t = cc
      none call t = cc
  row-listed Inside (Calls (On call)) limits suits x t = inl (act-listed call.object call.timing call.act (suits call refl).0 x t)
  row-listed side i limits suits x t = cc

  module _ (q : Point) (i : Instr) (is : instr_of P q ≡ Some i) where
    effect-is : effect_at P q ≡ effect_of P q.side i
    effect-is = ap (λ (j : Option Instr). effect_by P q.side j) is

    writer-exact : (x : ℕ) → (target_of (effect_at P q) ≡ Some x ↔ (ChangesNumber P q.side i x ⊎ KeepsNumber q.side i x))
    writer-exact x = (
      λ t. row-listed q.side i (free.limits.code q.actor.0 q.pc i is) (call-suits P free q i is) x (subst (λ (f : Effect). target_of f ≡ Some x) effect-is t),
      λ h. subst (λ (f : Effect). target_of f ≡ Some x) (sym effect-is) (⊎_elim
          (λ ch. row-target P ch.before ch.after ch.actor ch.choice x ch.other q.side i ch.way (call-suits P free q i is) ch.row)
          (keeps-target P q.side i x) h),
    )

    life-exact : (o : ℕ) → (made_of (effect_at P q) ≡ Some o ↔ ChangesLife P q.side i o)
    life-exact o = (
      λ t. life-listed P q.side i o (subst (λ (f : Effect). made_of f ≡ Some o) effect-is t),
      λ h. subst (λ (f : Effect). made_of f ≡ Some o) (sym effect-is) (row-made P h.before h.after h.actor h.choice o h.turned q.side i h.way h.live h.row),
    )

  -- the points of a list are those of which something is so, said by their instructions
  listed-exact : (IsSuch : Effect → Type 0) (Is : Side → Instr → Type 0) (numbers : List ℕ) → (IsSuch (effect_by P Before None) → ⊥) → (IsSuch (effect_by P Inside None) → ⊥) →
      ((q : Point) (i : Instr) → instr_of P q ≡ Some i → (IsSuch (effect_at P q) ↔ Is q.side i)) →
      Lists P IsSuch (length (points_of P)) numbers → (k : ℕ) → (Contains numbers k ↔ IsAt P Is k)
  listed-exact IsSuch Is numbers before inside exact lists k = (to, from)
    where
      nothing : (side : Side) → IsSuch (effect_by P side None) → ⊥
      nothing Before h = before h
      nothing Inside h = inside h

      at : (q : Point) → slice_get (points_of P) k ≡ Some q → (j : Option Instr) → instr_of P q ≡ j → IsSuch (effect_at P q) → IsAt P Is k
      at q here None is h = absurd (nothing q.side (subst (λ (j : Option Instr). IsSuch (effect_by P q.side j)) is h))
      at q here (Some i) is h = (q, i, here, is, (exact q i is).0 h)

      to : Contains numbers k → IsAt P Is k
      to c = let one = ((lists.exact k).0 c).1 in at one.0 one.1 (instr_of P one.0) refl one.2

      from : IsAt P Is k → Contains numbers k
      from (q, i, here, is, h) = (lists.exact k).1 (slice_get_within (points_of P) k q here, (q, here, (exact q i is).1 h))

pub indexes-exact : (P : Program) (I : IndexOf) → IsFaultless P → IsIndexOf P I → IsExact P I
indexes-exact P I free index = record {
  writers = λ x k l. listed-exact P free (λ e. target_of e ≡ Some x) (λ side i. ChangesNumber P side i x ⊎ KeepsNumber side i x) (list_at I.writers x) (λ e. cc) (λ e. cc) (λ q i is. writer-exact P free q i is x) (index.writers x l) k;
  lives = λ o k l. listed-exact P free (λ e. made_of e ≡ Some o) (λ side i. ChangesLife P side i o) (list_at I.lives o) (λ e. cc) (λ e. cc) (λ q i is. life-exact P free q i is o) (index.lives o l) k;
}

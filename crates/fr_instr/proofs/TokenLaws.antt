-- The token at the front is the one that the text begins with, and there is one at most.
use Rattle.std.proofs.Common.{◌≡◌, ◌⊎◌, ℕ, suc, ◌+◌, ◌<◌, cond, eqb, ◌&&◌, List, [], ◌∷◌, ◌++◌, length, take, drop, Bool, true, false, Some, None, Option, option_map, refl, sym, ap, ◌∙◌, subst, add-one, append_assoc, append-nil, arith, Bor, length-append, inl, inr, slice_index}
use Rattle.std.proofs.lemmas.List.{take_at, drop_at}
use Rattle.std.proofs.lemmas.Option.{none-some, same_Some}
use Rattle.std.proofs.lemmas.Bool.{and_parts, false≢true, eqb-true}
use Rattle.std.proofs.lemmas.Bool.Decides.{nat_tests}
use Rattle.std.specs.List.{list_all}
use Rattle.std.specs.Char.{is_ascii_digit}
use Rattle.fr_instr.specs.Tokens.{Tok, word, number, sign, sign_bytes, is_space, is_letter, is_word_byte, first, IsDigits, IsTok, tok_bytes, sign_goes_on, goes_on, IsBlank, Begins, Spells}
use Rattle.std.specs.Option.{IfSome, IfNone}
use Rattle.fr_instr.specs.Views.{tok}
use Rattle.fr_instr.specs.declared.token.Token.{Token}
use Rattle.fr_instr.specs.Reading.{front, after, sign_at, token_at}
use Rattle.fr_instr.specs.declared.token.Sign.{Sign}
use Rattle.fr_instr.specs.declared.token.Sign.TheVariants.{Open, Close, Comma, Assign, Plus, Minus, Times, Less, LessEqual, Greater, GreaterEqual, Equal, NotEqual, Question}
use Rattle.fr_instr.proofs.RunLemmas.{front_after, front_passes, after_stops, front_of, after_of}

-- which way a test went
pub chosen : {A : Type 0} (b : Bool) (x y z : A) → cond b x y ≡ z → ((b ≡ true) × (x ≡ z)) ⊎ ((b ≡ false) × (y ≡ z))
chosen true x y z e = inl (refl, e)
chosen false x y z e = inr (refl, e)

-- the text begins with t, and goes on with the rest
pub record IsAt (text : List ℕ) (t : Tok) (rest : List ℕ) : Type 0 where
  pub whole : text ≡ tok_bytes t ++ rest
  pub good : IsTok t
  pub ends : goes_on t (first rest) ≡ false

first_front : (p : ℕ → Bool) (s : List ℕ) → p 0 ≡ false → p (first s) ≡ true → first (front p s) ≡ first s
first_front p [] none passes = refl
first_front p (b ∷ bs) none passes = rw passes refl

-- ---- what the function finds is there

is_word : (text : List ℕ) → is_letter (first text) ≡ true → IsAt text (word (front is_word_byte text)) (after is_word_byte text)
is_word text letter =
    let passes : is_word_byte (first text) ≡ true = rw letter refl in
    record {
      whole = sym (front_after is_word_byte text);
      good = (rw (first_front is_word_byte text refl passes, letter) refl, front_passes is_word_byte text);
      ends = after_stops is_word_byte text refl;
    }

is_number : (text : List ℕ) → is_ascii_digit (first text) ≡ true → IsAt text (number (front is_ascii_digit text)) (after is_ascii_digit text)
is_number text digit =
    record {
      whole = sym (front_after is_ascii_digit text);
      good = inl (rw (first_front is_ascii_digit text refl digit, digit) refl, front_passes is_ascii_digit text);
      ends = after_stops is_ascii_digit text refl;
    }

cut_number : (p : ℕ → Bool) (c : ℕ) (s : List ℕ) → (take (length (front p s) + 1) (c ∷ s) ≡ c ∷ front p s) × (drop (length (front p s) + 1) (c ∷ s) ≡ after p s)
cut_number p c s =
    let taken : take (length (front p s)) s ≡ front p s = ap (take (length (front p s))) (sym (front_after p s)) ∙ take_at (front p s) (after p s) (length (front p s)) refl in
    let dropped : drop (length (front p s)) s ≡ after p s = ap (drop (length (front p s))) (sym (front_after p s)) ∙ drop_at (front p s) (after p s) (length (front p s)) refl in
    (rw add-one (ap (λ x. c ∷ x) taken), rw add-one dropped)

is_negative : (text : List ℕ) (n : ℕ) → eqb (first text) 45 ≡ true → is_ascii_digit (slice_index text 1) ≡ true → n ≡ length (front is_ascii_digit (drop 1 text)) + 1
    → IsAt text (number (take n text)) (drop n text)
is_negative [] n minus digit e = absurd (false≢true digit)
is_negative (c ∷ s) n minus digit e =
    let is_minus : c ≡ 45 = eqb-true c 45 minus in
    let cut = cut_number is_ascii_digit c s in
    rw (e, cut.0, cut.1, is_minus) record {
      whole = ap (λ x. 45 ∷ x) (sym (front_after is_ascii_digit s));
      good = inr (front is_ascii_digit s, refl, (rw (first_front is_ascii_digit s refl digit, digit) refl, front_passes is_ascii_digit s));
      ends = after_stops is_ascii_digit s refl;
    }

-- a sign of one byte, and one of two
one : (text : List ℕ) (c : ℕ) → eqb (first text) (suc c) ≡ true → text ≡ suc c ∷ drop 1 text
one [] c e = let same : 0 ≡ suc c = eqb-true 0 (suc c) e in absurd (omega arith)
one (b ∷ bs) c e = ap (λ x. x ∷ bs) (eqb-true b (suc c) e)

second_first : (text : List ℕ) → first (drop 1 text) ≡ slice_index text 1
second_first [] = refl
second_first (b ∷ bs) = refl

two : (text : List ℕ) (c d : ℕ) → eqb (first text) (suc c) ≡ true → eqb (slice_index text 1) (suc d) ≡ true → text ≡ suc c ∷ suc d ∷ drop 2 text
two [] c d e f = let same : 0 ≡ suc c = eqb-true 0 (suc c) e in absurd (omega arith)
two (b ∷ []) c d e f = let same : 0 ≡ suc d = eqb-true 0 (suc d) f in absurd (omega arith)
two (b ∷ a ∷ bs) c d e f = rw (eqb-true b (suc c) e, eqb-true a (suc d) f) refl

abbrev Found : List ℕ → Sign × ℕ → Type 0
Found text p = IsAt text (sign p.0) (drop p.1 text)

to : (text : List ℕ) (q p : Sign × ℕ) → Some q ≡ Some p → Found text q → Found text p
to text q p e h = let P : Sign × ℕ → Type 0 = Found text in subst P (same_Some q p e) h

-- a sign of one byte that no byte makes longer
lone : (text : List ℕ) (s : Sign) (c : ℕ) → sign_bytes s ≡ suc c ∷ [] → ((b : ℕ) → sign_goes_on s b ≡ false) → eqb (first text) (suc c) ≡ true → Found text (s, 1)
lone text s c bytes never e = record { whole = one text c e ∙ ap (λ x. x ++ drop 1 text) (sym bytes); good = tt; ends = never (first (drop 1 text)) }

no_sign : (p : Sign × ℕ) → None ≡ Some p → ⊥
no_sign p e = cc

sign_found : (text : List ℕ) (p : Sign × ℕ) → sign_at (first text) (slice_index text 1) ≡ Some p → (eqb (first text) 45 ≡ true → is_ascii_digit (slice_index text 1) ≡ false) → Found text p
sign_found text p e no_number =
    elim (chosen (eqb (first text) 60) _ _ _ e) [
      | inl w0 ↦ elim (chosen (eqb (slice_index text 1) 61) _ _ _ w0.1) [
        | inl v ↦ to text (LessEqual, 2) p v.1 record { whole = two text 59 60 w0.0 v.0; good = tt; ends = refl }
        | inr v ↦ to text (Less, 1) p v.1 record { whole = one text 59 w0.0; good = tt; ends = rw (second_first text) v.0 }
      ]
      | inr r0 ↦ elim (chosen (eqb (first text) 62) _ _ _ r0.1) [
        | inl w1 ↦ elim (chosen (eqb (slice_index text 1) 61) _ _ _ w1.1) [
          | inl v ↦ to text (GreaterEqual, 2) p v.1 record { whole = two text 61 60 w1.0 v.0; good = tt; ends = refl }
          | inr v ↦ to text (Greater, 1) p v.1 record { whole = one text 61 w1.0; good = tt; ends = rw (second_first text) v.0 }
        ]
        | inr r1 ↦ elim (chosen (eqb (first text) 61) _ _ _ r1.1) [
          | inl w2 ↦ elim (chosen (eqb (slice_index text 1) 61) _ _ _ w2.1) [
            | inl v ↦ to text (Equal, 2) p v.1 record { whole = two text 60 60 w2.0 v.0; good = tt; ends = refl }
            | inr v ↦ to text (Assign, 1) p v.1 record { whole = one text 60 w2.0; good = tt; ends = rw (second_first text) v.0 }
          ]
          | inr r2 ↦ elim (chosen (eqb (first text) 33) _ _ _ r2.1) [
            | inl w3 ↦ elim (chosen (eqb (slice_index text 1) 61) _ _ _ w3.1) [
              | inl v ↦ to text (NotEqual, 2) p v.1 record { whole = two text 32 60 w3.0 v.0; good = tt; ends = refl }
              | inr v ↦ absurd (no_sign p v.1)
            ]
            | inr r3 ↦ elim (chosen (eqb (first text) 40) _ _ _ r3.1) [
              | inl w4 ↦ to text (Open, 1) p w4.1 (lone text Open 39 refl (λ b. refl) w4.0)
              | inr r4 ↦ elim (chosen (eqb (first text) 41) _ _ _ r4.1) [
                | inl w5 ↦ to text (Close, 1) p w5.1 (lone text Close 40 refl (λ b. refl) w5.0)
                | inr r5 ↦ elim (chosen (eqb (first text) 44) _ _ _ r5.1) [
                  | inl w6 ↦ to text (Comma, 1) p w6.1 (lone text Comma 43 refl (λ b. refl) w6.0)
                  | inr r6 ↦ elim (chosen (eqb (first text) 43) _ _ _ r6.1) [
                    | inl w7 ↦ to text (Plus, 1) p w7.1 (lone text Plus 42 refl (λ b. refl) w7.0)
                    | inr r7 ↦ elim (chosen (eqb (first text) 45) _ _ _ r7.1) [
                      | inl w8 ↦ to text (Minus, 1) p w8.1 record { whole = one text 44 w8.0; good = tt; ends = rw (second_first text) (no_number w8.0) }
                      | inr r8 ↦ elim (chosen (eqb (first text) 42) _ _ _ r8.1) [
                        | inl w9 ↦ to text (Times, 1) p w9.1 (lone text Times 41 refl (λ b. refl) w9.0)
                        | inr r9 ↦ elim (chosen (eqb (first text) 63) _ _ _ r9.1) [
                          | inl w10 ↦ to text (Question, 1) p w10.1 (lone text Question 62 refl (λ b. refl) w10.0)
                          | inr r10 ↦ absurd (no_sign p r10.1)
                        ]
                      ]
                    ]
                  ]
                ]
              ]
            ]
          ]
        ]
      ]
    ]

second_no_digit : (a b : Bool) → a ≡ true → (a && b) ≡ false → b ≡ false
second_no_digit true b t e = e
second_no_digit false b t e = absurd (false≢true t)

from_sign : (text : List ℕ) (p : Tok × List ℕ) → (eqb (first text) 45 ≡ true → is_ascii_digit (slice_index text 1) ≡ false)
    → (o : Option (Sign × ℕ)) → sign_at (first text) (slice_index text 1) ≡ o → option_map (λ q. (sign q.0, drop q.1 text)) o ≡ Some p → IsAt text p.0 p.1
from_sign text p no_number None same e = absurd (none-some p e)
from_sign text p no_number (Some q) same e =
    let P : Tok × List ℕ → Type 0 = λ x. IsAt text x.0 x.1 in
    subst P (same_Some _ p e) (sign_found text q same no_number)

pub token_found : (text : List ℕ) (p : Tok × List ℕ) → token_at text ≡ Some p → IsAt text p.0 p.1
unfolding token_at
token_found text p e =
    let P : Tok × List ℕ → Type 0 = λ q. IsAt text q.0 q.1 in
    elim (chosen (is_letter (first text)) _ _ _ e) [
      | inl w ↦ subst P (same_Some _ p w.1) (is_word text w.0)
      | inr r ↦ elim (chosen (is_ascii_digit (first text)) _ _ _ r.1) [
        | inl w ↦ subst P (same_Some _ p w.1) (is_number text w.0)
        | inr q ↦ elim (chosen (eqb (first text) 45 && is_ascii_digit (slice_index text 1)) _ _ _ q.1) [
          | inl w ↦ let both = and_parts (eqb (first text) 45) (is_ascii_digit (slice_index text 1)) w.0 in
              subst P (same_Some _ p w.1) (is_negative text _ both.0 both.1 refl)
          | inr w ↦ from_sign text p (λ minus. second_no_digit (eqb (first text) 45) (is_ascii_digit (slice_index text 1)) minus w.0) (sign_at (first text) (slice_index text 1)) refl w.1
        ]
      ]
    ]

-- ---- what is there is found

digit_no_letter : (b : ℕ) → is_ascii_digit b ≡ true → is_letter b ≡ false
digit_no_letter b h = grind (arith, nat_tests)

letter_no_space : (b : ℕ) → is_letter b ≡ true → is_space b ≡ false
letter_no_space b h = grind (arith, nat_tests)

digit_no_space : (b : ℕ) → is_ascii_digit b ≡ true → is_space b ≡ false
digit_no_space b h = grind (arith, nat_tests)

again_word : (w rest : List ℕ) → IsTok (word w) → is_word_byte (first rest) ≡ false → token_at (w ++ rest) ≡ Some (word w, rest)
unfolding token_at
again_word [] rest h stop = absurd (false≢true h.0)
again_word (c ∷ w) rest h stop =
    let both = and_parts (is_word_byte c) (list_all is_word_byte w) h.1 in
    rw (h.0, front_of is_word_byte w rest both.1 stop, after_of is_word_byte w rest both.1 stop) refl

again_digits : (d rest : List ℕ) → IsDigits d → is_ascii_digit (first rest) ≡ false → token_at (d ++ rest) ≡ Some (number d, rest)
unfolding token_at
again_digits [] rest h stop = absurd (false≢true h.0)
again_digits (c ∷ d) rest h stop =
    let both = and_parts (is_ascii_digit c) (list_all is_ascii_digit d) h.1 in
    rw (digit_no_letter c h.0, h.0, front_of is_ascii_digit d rest both.1 stop, after_of is_ascii_digit d rest both.1 stop) refl

first_append : (d rest : List ℕ) → IsDigits d → is_ascii_digit (first (d ++ rest)) ≡ true
first_append [] rest h = absurd (false≢true h.0)
first_append (c ∷ d) rest h = h.0

again_negative : (d rest : List ℕ) → IsDigits d → is_ascii_digit (first rest) ≡ false → token_at (45 ∷ (d ++ rest)) ≡ Some (number (45 ∷ d), rest)
unfolding token_at
again_negative d rest h stop =
    let fronts = front_of is_ascii_digit d rest h.1 stop in
    let cut = cut_number is_ascii_digit 45 (d ++ rest) in
    let afters = after_of is_ascii_digit d rest h.1 stop in
    rw (first_append d rest h, cut.0, cut.1, fronts, afters) refl

again_sign : (s : Sign) (rest : List ℕ) → sign_goes_on s (first rest) ≡ false → token_at (sign_bytes s ++ rest) ≡ Some (sign s, rest)
unfolding token_at
again_sign Assign rest stop = rw stop refl
again_sign Minus rest stop = rw stop refl
again_sign Less rest stop = rw stop refl
again_sign Greater rest stop = rw stop refl
again_sign s rest stop = refl

pub token_again : (t : Tok) (rest : List ℕ) → IsTok t → goes_on t (first rest) ≡ false → token_at (tok_bytes t ++ rest) ≡ Some (t, rest)
token_again (word w) rest h stop = again_word w rest h stop
token_again (number d) rest (inl h) stop = again_digits d rest h stop
token_again (number d) rest (inr (ds, same, h)) stop = rw same (again_negative ds rest h stop)
token_again (sign s) rest h stop = again_sign s rest stop

word_no_space : (w rest : List ℕ) → IsTok (word w) → is_space (first (w ++ rest)) ≡ false
word_no_space [] rest h = absurd (false≢true h.0)
word_no_space (c ∷ w) rest h = letter_no_space c h.0

digits_no_space : (d rest : List ℕ) → IsDigits d → is_space (first (d ++ rest)) ≡ false
digits_no_space [] rest h = absurd (false≢true h.0)
digits_no_space (c ∷ d) rest h = digit_no_space c h.0

sign_no_space : (s : Sign) (rest : List ℕ) → is_space (first (sign_bytes s ++ rest)) ≡ false
sign_no_space Open rest = refl
sign_no_space s rest = refl

no_space : (t : Tok) (rest : List ℕ) → IsTok t → is_space (first (tok_bytes t ++ rest)) ≡ false
no_space (word w) rest h = word_no_space w rest h
no_space (number d) rest (inl h) = digits_no_space d rest h
no_space (number d) rest (inr (ds, same, h)) = rw same refl
no_space (sign s) rest h = sign_no_space s rest

-- the next token of a text, behind spaces
abbrev pub next : List ℕ → Option (Tok × List ℕ)
next text = token_at (after is_space text)

pub next_begins : (text : List ℕ) (t : Tok) (rest : List ℕ) → next text ≡ Some (t, rest) → Begins text t rest
next_begins text t rest e =
    let at = token_found (after is_space text) (t, rest) e in
    (front is_space text, front_passes is_space text, sym (front_after is_space text) ∙ ap (λ x. front is_space text ++ x) at.whole, at.good, at.ends)

pub begins_next : (text : List ℕ) (t : Tok) (rest : List ℕ) → Begins text t rest → next text ≡ Some (t, rest)
begins_next text t rest (gap, blank, whole, good, ends) =
    let skipped = after_of is_space gap (tok_bytes t ++ rest) blank (no_space t rest good) in
    rw (whole, skipped) (token_again t rest good ends)

-- no token begins a blank text
blank_after : (text : List ℕ) → IsBlank text → after is_space text ≡ []
blank_after [] h = refl
blank_after (b ∷ bs) h = let both = and_parts (is_space b) (list_all is_space bs) h in rw both.0 (blank_after bs both.1)

none_at_end : token_at [] ≡ None
unfolding token_at
none_at_end = refl

pub apart : {A : Type 0} (o : Option A) (x : A) → o ≡ None → o ≡ Some x → ⊥
apart o x p q = cc

pub blank_begins : (text : List ℕ) (t : Tok) (rest : List ℕ) → IsBlank text → Begins text t rest → ⊥
blank_begins text t rest blank b = apart (next text) (t, rest) (rw (blank_after text blank) none_at_end) (begins_next text t rest b)

-- a text spells one list of tokens at most
pair_same : (p q : Tok × List ℕ) → Some p ≡ Some q → (p.0 ≡ q.0) × (p.1 ≡ q.1)
pair_same p q e = let same : p ≡ q = same_Some p q e in (ap (λ (x : Tok × List ℕ). x.0) same, ap (λ (x : Tok × List ℕ). x.1) same)

pub begins_once : (text : List ℕ) (t u : Tok) (r s : List ℕ) → Begins text t r → Begins text u s → (t ≡ u) × (r ≡ s)
begins_once text t u r s b c = pair_same (t, r) (u, s) (sym (begins_next text t r b) ∙ begins_next text u s c)

pub spells_once : (text : List ℕ) (ts us : List Tok) → Spells text ts → Spells text us → ts ≡ us
spells_once text [] [] h k = refl
spells_once text [] (u ∷ us) h k = absurd (blank_begins text u k.0 h k.1)
spells_once text (t ∷ ts) [] h k = absurd (blank_begins text t h.0 k h.1)
spells_once text (t ∷ ts) (u ∷ us) h k =
    let same = begins_once text t u h.0 k.0 h.1 k.1 in
    let P : List ℕ → Type 0 = λ r. Spells r us in
    rw (same.0, spells_once h.0 ts us h.2 (subst P (sym same.1) k.2)) refl

-- ---- what the code found

abbrev pub seen : Option (Token × Bor (List ℕ)) → Option (Tok × List ℕ)
seen r = option_map (λ p. (tok p.0, p.1.now)) r

pub found_by : (r : Option (Token × Bor (List ℕ))) (text : List ℕ) → seen r ≡ next text → IfSome r (λ p. Begins text (tok p.0) p.1.now)
found_by None text e = tt
found_by (Some p) text e = next_begins text (tok p.0) p.1.now (sym e)

pub none_by : (r : Option (Token × Bor (List ℕ))) (text : List ℕ) → seen r ≡ next text → IfNone r ((t : Tok) (rest : List ℕ) → Begins text t rest → ⊥)
none_by None text e = λ t rest b. apart (next text) (t, rest) (sym e) (begins_next text t rest b)
none_by (Some p) text e = tt

sign_byte : (s : Sign) → 0 < length (sign_bytes s)
sign_byte Open = omega arith
sign_byte s = omega arith

some_byte : (t : Tok) → IsTok t → 0 < length (tok_bytes t)
some_byte (word []) h = absurd (false≢true h.0)
some_byte (word (c ∷ w)) h = omega arith
some_byte (number []) (inl h) = absurd (false≢true h.0)
some_byte (number (c ∷ d)) (inl h) = omega arith
some_byte (number d) (inr (ds, same, h)) = rw same (omega arith)
some_byte (sign s) h = sign_byte s

pub begins_shorter : (text : List ℕ) (t : Tok) (rest : List ℕ) → Begins text t rest → length rest < length text
begins_shorter text t rest (gap, blank, whole, good, ends) =
    omega (arith, some_byte t good, ap length whole, length-append gap (tok_bytes t ++ rest), length-append (tok_bytes t) rest)

pub shorter_by : (r : Option (Token × Bor (List ℕ))) (text : List ℕ) → seen r ≡ next text → IfSome r (λ p. length p.1.now < length text)
shorter_by None text e = tt
shorter_by (Some p) text e = begins_shorter text (tok p.0) p.1.now (next_begins text (tok p.0) p.1.now (sym e))

-- ---- the turns of the loop over tokens

-- the tokens so far, and those that the rest spells, are those that the text spells
pub record SoFar (text : List ℕ) (found : List Tok) (rest : List ℕ) : Type 0 where
  pub whole : (ts : List Tok) → Spells rest ts → Spells text (found ++ ts)
  pub only : (us : List Tok) → Spells text us → (ts : List Tok) × (us ≡ found ++ ts) × Spells rest ts

after_token : (rest : List ℕ) (t : Tok) (more : List ℕ) (ts : List Tok) → Begins rest t more → Spells rest ts → (us : List Tok) × (ts ≡ t ∷ us) × Spells more us
after_token rest t more [] b h = absurd (blank_begins rest t more h b)
after_token rest t more (u ∷ us) b h =
    let same = begins_once rest t u more h.0 b h.1 in
    let P : List ℕ → Type 0 = λ r. Spells r us in
    (us, ap (λ x. x ∷ us) (sym same.0), subst P (sym same.1) h.2)

pub so_far_more : (text : List ℕ) (found : List Tok) (rest : List ℕ) (t : Tok) (more : List ℕ) → Begins rest t more → SoFar text found rest → SoFar text (found ++ t ∷ []) more
so_far_more text found rest t more b h =
    record {
      whole = λ ts spelled. let P : List Tok → Type 0 = Spells text in
          subst P (sym (append_assoc found (t ∷ []) ts)) (h.whole (t ∷ ts) (more, b, spelled));
      only = λ us spelled. let before = h.only us spelled in
          let split = after_token rest t more before.0 b before.2 in
          (split.0, before.1 ∙ ap (λ x. found ++ x) split.1 ∙ sym (append_assoc found (t ∷ []) split.0), split.2);
    }

pub so_far_end : (text : List ℕ) (found : List Tok) (rest : List ℕ) → IsBlank rest → SoFar text found rest → Spells text found
so_far_end text found rest blank h = let P : List Tok → Type 0 = Spells text in subst P (append-nil found) (h.whole [] blank)

stuck : (ts : List Tok) (rest : List ℕ) → list_all is_space rest ≡ false → ((t : Tok) (more : List ℕ) → Begins rest t more → ⊥) → Spells rest ts → ⊥
stuck [] rest full none h = false≢true (sym full ∙ h)
stuck (t ∷ ts) rest full none h = none t h.0 h.1

pub so_far_stuck : (text : List ℕ) (found : List Tok) (rest : List ℕ) → list_all is_space rest ≡ false → ((t : Tok) (more : List ℕ) → Begins rest t more → ⊥) → SoFar text found rest
    → (ts : List Tok) → Spells text ts → ⊥
so_far_stuck text found rest full none h ts spelled = let before = h.only ts spelled in stuck before.0 rest full none before.2

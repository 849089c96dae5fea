-- A word has no comma, so the first comma of a text parts its first word from the others. By it a text that was read up
-- to some place means the words so far and those of what is left.
use Rattle.std.proofs.Common.{◌≡◌, ◌≢◌, ◌<◌, ◌^◌, ℕ, suc, List, [], ◌∷◌, ◌++◌, length, get_or, Result, Ok, Err, IfSome, IfNone, refl, sym, ap, ◌∙◌, subst, arith, append_assoc}
use Rattle.std.specs.Result.{OkIff, result_ok}
use Rattle.std.specs.Str.Parse.{AllDigits, digits_value}
use Rattle.std.proofs.lemmas.Str.Parse.{IsNumeralModel, numerals_by_value, tells_digits, not_in_digits}
use Rattle.fr_findings.specs.Words.{IsRunWord, AreWords}

-- no byte of the text is a comma
abbrev pub HasNone : List ℕ → Type 0
HasNone text = (i : ℕ) → i < length text → get_or text i 0 ≢ 44

pub own : IsNumeralModel (AllDigits 10) (digits_value 10)
own = numerals_by_value (AllDigits 10) tells_digits

-- what is read as a number, or isn't
pub word-by : {E : Type 0} → (text : List ℕ) (r : Result ℕ E) → OkIff r (AllDigits 10 text × (0 < length text) × (digits_value 10 text < 2 ^ 64)) (digits_value 10 text) → IfSome (result_ok r) (IsRunWord text) × IfNone (result_ok r) ((w : ℕ) → IsRunWord text w → ⊥)
word-by text (Ok x) h = (record { digits = (h.0.1, h.0.0); value = h.1; fits = subst (λ n. n < 2 ^ 64) (sym h.1) h.0.2 }, tt)
word-by text (Err e) h = (tt, λ w word. h (word.digits.1, word.digits.0, subst (λ n. n < 2 ^ 64) word.value word.fits))

pub word-has-none : (text : List ℕ) (w : ℕ) → IsRunWord text w → HasNone text
word-has-none text w h = not_in_digits own text 44 h.digits.1 (λ r. absurd (omega (arith, r.0, r.1)))

-- at a comma that follows some text
at-comma : (xs ys : List ℕ) → HasNone (xs ++ 44 ∷ ys) → ⊥
at-comma [] ys none = none 0 (omega arith) refl
at-comma (x ∷ xs) ys none = at-comma xs ys (λ i l e. none (suc i) (omega (arith, l)) e)

tail-has-none : (x : ℕ) (xs : List ℕ) → HasNone (x ∷ xs) → HasNone xs
tail-has-none x xs none i l e = none (suc i) (omega (arith, l)) e

-- the first comma of a text is at one place
pub same-cut : (xs ys us vs : List ℕ) → xs ++ 44 ∷ ys ≡ us ++ 44 ∷ vs → HasNone xs → HasNone us → (xs ≡ us) × (ys ≡ vs)
same-cut [] ys [] vs e f g = (refl, cc)
same-cut [] ys (u ∷ us) vs e f g = let h : u ≡ 44 = cc in absurd (g 0 (omega arith) h)
same-cut (x ∷ xs) ys [] vs e f g = let h : x ≡ 44 = cc in absurd (f 0 (omega arith) h)
same-cut (x ∷ xs) ys (u ∷ us) vs e f g =
    let head : x ≡ u = cc in
    let rest : xs ++ 44 ∷ ys ≡ us ++ 44 ∷ vs = cc in
    let t = same-cut xs ys us vs rest (tail-has-none x xs f) (tail-has-none u us g) in
    let first = t.0 in
    (cc, t.1)

-- a text without a comma is one word at the most
pub alone : (text words : List ℕ) → HasNone text → AreWords text words → (w : ℕ) × (words ≡ w ∷ []) × IsRunWord text w
alone text [] none h = absurd h
alone text (w ∷ []) none h = (w, refl, h)
alone text (w ∷ n ∷ ws) none h = absurd (at-comma h.0 h.1 (subst HasNone h.2 none))

-- a text with a comma is the word before its first comma, and the words after it
pub parted : (text first rest words : List ℕ) → text ≡ first ++ 44 ∷ rest → HasNone first → AreWords text words → (w : ℕ) × (tail : List ℕ) × (words ≡ w ∷ tail) × IsRunWord first w × AreWords rest tail
parted text first rest [] e none h = absurd h
parted text first rest (w ∷ []) e none h = absurd (at-comma first rest (subst HasNone e (word-has-none text w h)))
parted text first rest (w ∷ n ∷ ws) e none h =
    let same = same-cut first rest h.0 h.1 (sym e ∙ h.2) none (word-has-none h.0 w h.3) in
    (w, n ∷ ws, refl, subst (λ t. IsRunWord t w) (sym same.0) h.3, subst (λ t. AreWords t (n ∷ ws)) (sym same.1) h.4)

-- a word, a comma and words are words
pub joined : (text first rest : List ℕ) (w : ℕ) (words : List ℕ) → text ≡ first ++ 44 ∷ rest → IsRunWord first w → AreWords rest words → AreWords text (w ∷ words)
joined text first rest w [] e word more = absurd more
joined text first rest w (n ∷ ws) e word more = (first, rest, e, word, more)

-- the words so far, and what is left of the text: the text means the former followed by what the latter means
pub record IsReadTo (text words rest : List ℕ) : Type 0 where
  pub to : (tail : List ℕ) → AreWords rest tail → AreWords text (words ++ tail)
  pub from : (all : List ℕ) → AreWords text all → (tail : List ℕ) × (all ≡ words ++ tail) × AreWords rest tail

pub read-more : (text words rest first others : List ℕ) (w : ℕ) → IsReadTo text words rest → rest ≡ first ++ 44 ∷ others → HasNone first → IsRunWord first w → IsReadTo text (words ++ w ∷ []) others
read-more text words rest first others w read e none word = record {
  to = λ tail h. subst (λ all. AreWords text all) (sym (append_assoc words (w ∷ []) tail)) (read.to (w ∷ tail) (joined rest first others w tail e word h));
  from = λ all h.
      let t = read.from all h in
      let p = parted rest first others t.0 e none t.2 in
      let same : p.0 ≡ w = p.3.value ∙ sym word.value in
      (p.1, t.1 ∙ ap (λ ws. words ++ ws) (p.2 ∙ ap (λ v. v ∷ p.1) same) ∙ sym (append_assoc words (w ∷ []) p.1), p.4);
}

pub bad-first : (text words rest first others : List ℕ) → IsReadTo text words rest → rest ≡ first ++ 44 ∷ others → HasNone first → ((w : ℕ) → IsRunWord first w → ⊥) → (all : List ℕ) → AreWords text all → ⊥
bad-first text words rest first others read e none bad all h =
    let t = read.from all h in
    let p = parted rest first others t.0 e none t.2 in
    bad p.0 p.3

pub bad-last : (text words rest : List ℕ) → IsReadTo text words rest → HasNone rest → ((w : ℕ) → IsRunWord rest w → ⊥) → (all : List ℕ) → AreWords text all → ⊥
bad-last text words rest read none bad all h =
    let t = read.from all h in
    let p = alone rest t.0 none t.2 in
    bad p.0 p.2

-- The words of a line, one after another: white space in front adds none, and a word in front is the first.
use Rattle.std.proofs.Common.{◌≡◌, ℕ, ◌<◌, ◌≤◌, inl, inr, Bool, true, false, not, cond, List, [], ◌∷◌, ◌++◌, length, get_or, eqb, All, filter, arith, refl, sym, ap, ◌∙◌, ne_eqb}
use Rattle.std.specs.Char.{is_ascii_whitespace}
use Rattle.std.specs.List.{AllPass, before_first, slice_split}
use Rattle.std.specs.Str.{NoCharPasses}
use Rattle.std.specs.Str.Iter.{IsAsciiSeparator}
use Rattle.std.proofs.str.Laws.{order}
use Rattle.std.proofs.iter.runs.Bytes.{all, Low, clear}
use Rattle.std.proofs.lemmas.Bool.Decides.{nat_tests}
use Rattle.std.proofs.lemmas.List.{append-nil}
use Rattle.std.proofs.lemmas.List.Elements.{All-cons, All-head, All-nil, All-tail}
use Rattle.std.proofs.lemmas.List.Splits.{slice_split-cons_yes, slice_split_at, slice_split_none}
use Rattle.std.proofs.lemmas.List.Sums.{take_while-cons}
use Rattle.fr_list.specs.Means.{begins_comment, has_byte, told, words}

-- a byte that is no character of its own isn't white space
high : (b : ℕ) → 128 ≤ b → is_ascii_whitespace b ≡ false
high b h = grind (arith, nat_tests)

-- no byte of these is white space
abbrev pub IsSolid : List ℕ → Type 0
IsSolid bytes = All (λ b. is_ascii_whitespace b ≡ false) bytes

solid-low : (bytes : List ℕ) → all (Low is_ascii_whitespace) bytes → IsSolid bytes
solid-low [] h = All-nil (λ b. is_ascii_whitespace b ≡ false)
solid-low (b ∷ bytes) h =
    All-cons (λ c. is_ascii_whitespace c ≡ false) b bytes (elim (order b 128) [ inl low ↦ h.0 low | inr above ↦ high b above ]) (solid-low bytes h.1)

pub solid : (bytes : List ℕ) → NoCharPasses is_ascii_whitespace bytes → IsSolid bytes
solid bytes h = solid-low bytes (clear is_ascii_whitespace bytes h)

pub words-gap : (gap bytes : List ℕ) → AllPass is_ascii_whitespace gap → words (gap ++ bytes) ≡ words bytes
words-gap [] bytes h = refl
words-gap (g ∷ gap) bytes h =
    ap (filter has_byte) (slice_split-cons_yes is_ascii_whitespace g (gap ++ bytes) (All-head (λ b. is_ascii_whitespace b ≡ true) g gap h))
    ∙ words-gap gap bytes (All-tail (λ b. is_ascii_whitespace b ≡ true) g gap h)

pub words-none : (bytes : List ℕ) → AllPass is_ascii_whitespace bytes → words bytes ≡ []
words-none bytes h = ap words (sym (append-nil bytes)) ∙ words-gap bytes [] h

kept : (word : List ℕ) (more : List (List ℕ)) → 0 < length word → filter has_byte (word ∷ more) ≡ word ∷ filter has_byte more
kept word more h = ap (λ b. cond (not b) (word ∷ filter has_byte more) (filter has_byte more)) (ne_eqb (length word) 0 (λ e. omega arith))

words-word : (word gap rest : List ℕ) → 0 < length word → IsSolid word → AllPass is_ascii_whitespace gap → length gap ≤ 1 → (length gap ≡ 0 → length rest ≡ 0)
    → words (word ++ (gap ++ rest)) ≡ word ∷ words rest
words-word word [] [] some solid h short ends =
    ap words (append-nil word) ∙ ap (filter has_byte) (slice_split_none is_ascii_whitespace word solid) ∙ kept word [] some
words-word word [] (b ∷ rest) some solid h short ends = absurd (let e = ends refl in omega arith)
words-word word (g ∷ []) rest some solid h short ends =
    ap (filter has_byte) (slice_split_at is_ascii_whitespace word g rest solid (All-head (λ b. is_ascii_whitespace b ≡ true) g [] h))
    ∙ kept word (slice_split is_ascii_whitespace rest) some
words-word word (g ∷ f ∷ gap) rest some solid h short ends = absurd (omega arith)

-- what a call of `next` gives: the word in front, and the words of the rest are left
pub words-step : (bytes word rest : List ℕ) → 0 < length word → NoCharPasses is_ascii_whitespace word
    → (gap : List ℕ) × (sep : List ℕ) × (bytes ≡ gap ++ (word ++ (sep ++ rest))) × AllPass is_ascii_whitespace gap × IsAsciiSeparator sep rest
    → words bytes ≡ word ∷ words rest
words-step bytes word rest some clean cut =
    ap words cut.2 ∙ words-gap cut.0 (word ++ (cut.1 ++ rest)) cut.3 ∙ words-word word cut.1 rest some (solid word clean) cut.4.0 cut.4.1 cut.4.2

pub told-none : (bytes : List ℕ) → words bytes ≡ [] → told bytes ≡ []
told-none bytes e = ap (before_first begins_comment) e

-- whether the first word of a line begins a comment decides whether it is told
told-first : (bytes word rest : List ℕ) (begins : Bool) → words bytes ≡ word ∷ words rest → begins_comment word ≡ begins
    → told bytes ≡ cond (not begins) (word ∷ told rest) []
told-first bytes word rest begins e b =
    ap (before_first begins_comment) e ∙ take_while-cons (λ w. not (begins_comment w)) word (words rest)
    ∙ ap (λ v. cond (not v) (word ∷ told rest) []) b

pub told-comment : (bytes word rest : List ℕ) → words bytes ≡ word ∷ words rest → begins_comment word ≡ true → told bytes ≡ []
told-comment bytes word rest = told-first bytes word rest true

pub told-word : (bytes word rest : List ℕ) → words bytes ≡ word ∷ words rest → begins_comment word ≡ false → told bytes ≡ word ∷ told rest
told-word bytes word rest = told-first bytes word rest false

pub begins_comment-first : (word : List ℕ) → 0 < length word → begins_comment word ≡ eqb (get_or word 0 0) 35
begins_comment-first [] h = absurd (omega arith)
begins_comment-first (b ∷ word) h = refl

-- A text that is written character by character, or byte by byte.
use Rattle.std.proofs.Common.{◌≡◌, ℕ, List, ◌++◌, [], ◌∷◌, All, Bool, true, false, if◌then◌else◌, length, chars, encode_utf8, encode_utf8_all, flat_map, IsUtf8, ap, ◌∙◌}
use Rattle.std.proofs.lemmas.Bool.{cond_both}
use Rattle.std.proofs.lemmas.Str.{chars_past_char, chars-nil, encodes-append}
use Rattle.std.proofs.lemmas.List.{nil_from_length}
use Rattle.std.proofs.lemmas.List.Elements.{All-nil, All-cons, All-append}

pub written_empty : (f : ℕ → List ℕ) (text : List ℕ) → length text ≡ 0 → encode_utf8_all (flat_map f (chars text)) ≡ []
written_empty f text none = rw (ap chars (nil_from_length text none) ∙ chars-nil)

pub written_step : (f : ℕ → List ℕ) (text rest : List ℕ) (c : ℕ) → IsUtf8 text → text ≡ encode_utf8 c ++ rest
    → encode_utf8_all (flat_map f (chars text)) ≡ encode_utf8_all (f c) ++ encode_utf8_all (flat_map f (chars rest))
written_step f text rest c utf8 parts = rw (chars_past_char text rest c utf8 parts) (encodes-append (f c) (flat_map f (chars rest)))

-- P holds of each item: `All` as a record, so that a list is found from such a fact
pub record Every (P : ℕ → Type 0) (xs : List ℕ) : Type 0 where
  pub all : All P xs

-- what holds of all that is written for any item
pub All-flat_map : (P : ℕ → Type 0) (f : ℕ → List ℕ) → ((x : ℕ) → Every P (f x)) → (xs : List ℕ) → All P (flat_map f xs)
All-flat_map P f each [] = All-nil P
All-flat_map P f each (x ∷ xs) = All-append P (f x) (flat_map f xs) (each x).all (All-flat_map P f each xs)

pub Every-nil : {P : ℕ → Type 0} → Every P []
Every-nil {P} = record { all = All-nil P }

pub Every-cons : {P : ℕ → Type 0} {xs : List ℕ} (x : ℕ) → P x → Every P xs → Every P (x ∷ xs)
Every-cons {P} {xs} x holds rest = record { all = All-cons P x xs holds rest.all }

-- a list that is chosen, from each of the two
pub Every-if : {P : ℕ → Type 0} (b : Bool) (xs ys : List ℕ) → (b ≡ true → Every P xs) → (b ≡ false → Every P ys)
    → Every P (if b then xs else ys)
Every-if {P} b xs ys first second = cond_both b xs ys (Every P) first second

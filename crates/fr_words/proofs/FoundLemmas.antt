-- What clap's typed getters give, by what was found for each word.
use Rattle.std.proofs.Common.{◌≡◌, ◌<◌, ◌^◌, ℕ, Bool, true, false, List, [], ◌∷◌, Option, Some, None, Result, length, unwrap_or, codes, refl, ap, ◌∙◌}
use Rattle.std.specs.Prelude.{option_and_then, nat_lt}
use Rattle.std.specs.Option.{SomeIff, option_map_or}
use Rattle.std.specs.List.{list_all}
use Rattle.std.specs.Char.{digit_value}
use Rattle.std.specs.Str.{bytes_eq}
use Rattle.std.specs.Str.Parse.{AllDigits, ExplainsUnsignedError, HasUnsignedDigitsIfOk, IsNumeral, ParsesBool, ParsesUnsigned, digits_value, without_leading_plus}
use Rattle.std.specs.declared.num.ParseIntError.{ParseIntError}
use Rattle.std.proofs.lemmas.Bool.{lt-ltb, ltb-true}
use Rattle.std.proofs.lemmas.Slice.Eq.{bytes_eq-Decides}
use Rattle.clap.specs.Matches.{ReadsOne, one_text}
use Rattle.clap.specs.Walk.{Text, rows_of}
use Rattle.clap.specs.declared.parser.matches.Found.{Found}
use Rattle.clap.proofs.WalkLemmas.{both, one_text-rows}
use Rattle.fr_words.specs.Found.{is_given, is_number, number_in, number_at}

digits_pass : (ds : List ℕ) → AllDigits 10 ds → list_all (λ d. nat_lt (digit_value d) 10) ds ≡ true
digits_pass [] h = refl
digits_pass (d ∷ ds) h = rw (lt-ltb (digit_value d) 10 h.0) (digits_pass ds h.1)

digits_from : (ds : List ℕ) → list_all (λ d. nat_lt (digit_value d) 10) ds ≡ true → AllDigits 10 ds
digits_from [] e = tt
digits_from (d ∷ ds) e =
    let parts = both _ _ e in
    (ltb-true _ _ parts.0, digits_from ds parts.1)

-- what is read of a text is the number that it writes
read_number : (bits : ℕ) (t : Text) (r : Option ℕ)
    → SomeIff r (IsNumeral 10 (without_leading_plus t) × (digits_value 10 (without_leading_plus t) < 2 ^ bits)) (digits_value 10 (without_leading_plus t))
    → r ≡ number_in bits t
read_number bits t (Some n) h =
    let ds = without_leading_plus t in
    rw (lt-ltb 0 (length ds) h.0.0.0, digits_pass ds h.0.0.1, lt-ltb (digits_value 10 ds) (2 ^ bits) h.0.1) (ap Some h.1)
read_number bits t None h = go (is_number bits t) refl
  where
    go : (b : Bool) → is_number bits t ≡ b → None ≡ number_in bits t
    go false e = rw e refl
    go true e =
        let outer = both _ _ e in
        let inner = both _ _ outer.0 in
        absurd (h ((ltb-true _ _ inner.0, digits_from (without_leading_plus t) inner.1), ltb-true _ _ outer.1))

-- what `from_str` gives of a number of so many bits
abbrev Gives : ℕ → List ℕ → Result ℕ ParseIntError → Type 0
Gives bits t r = ParsesUnsigned bits 10 t r × ExplainsUnsignedError 10 t r × HasUnsignedDigitsIfOk t r

reads : (bits : ℕ) (t : Text) (r : Option ℕ) → ReadsOne (Gives bits) t r → r ≡ number_in bits t
reads bits t (Some n) h = read_number bits t (Some n) h.0
reads bits t None h = read_number bits t None h.1.0

-- `get_one` at an unsigned type of so many bits
pub one_number : (bits : ℕ) (f : Found) (id : Text) (r : Option ℕ) → (one_text f id ≡ None → r ≡ None)
    → ((t : Text) → one_text f id ≡ Some t → ReadsOne (Gives bits) t r) → r ≡ number_at bits (rows_of f) id
unfolding number_at
one_number bits f id r none some = go (one_text f id) refl ∙ ap (option_and_then (number_in bits)) (one_text-rows f id)
  where
    go : (o : Option Text) → one_text f id ≡ o → r ≡ option_and_then (number_in bits) o
    go None e = none e
    go (Some t) e = reads bits t r (some t e)

read_bool : (E : Type 0) (t : Text) (r : Option Bool) → ReadsOne (λ u (x : Result Bool E). ParsesBool u x) t r → unwrap_or r false ≡ bytes_eq t (codes "true")
read_bool E t (Some true) h = rw h refl
read_bool E t (Some false) h = rw h refl
read_bool E t None h = go (bytes_eq t (codes "true")) refl
  where
    go : (b : Bool) → bytes_eq t (codes "true") ≡ b → false ≡ b
    go false e = refl
    go true e = absurd (h.1.0 ((bytes_eq-Decides t (codes "true")).0 e))

-- `get_one` at `bool`
pub one_bool : (E : Type 0) (f : Found) (id : Text) (r : Option Bool) → (one_text f id ≡ None → r ≡ None)
    → ((t : Text) → one_text f id ≡ Some t → ReadsOne (λ u (x : Result Bool E). ParsesBool u x) t r) → unwrap_or r false ≡ is_given (rows_of f) id
unfolding is_given
one_bool E f id r none some =
    go (one_text f id) refl ∙ ap (λ o. option_map_or (λ text. bytes_eq text (codes "true")) o false) (one_text-rows f id)
  where
    go : (o : Option Text) → one_text f id ≡ o → unwrap_or r false ≡ option_map_or (λ text. bytes_eq text (codes "true")) o false
    go None e = rw (none e) refl
    go (Some t) e = read_bool E t r (some t e)

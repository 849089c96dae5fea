-- Names and their places.
use Rattle.std.proofs.Common.{◌≡◌, ◌≢◌, ℕ, ◌+◌, ◌<◌, List, [], ◌∷◌, ◌++◌, map, length, get_or, take, Bool, true, false, cond, ◌||◌, nat_lt, Option, Some, None, position, refl, sym, ap, ◌∙◌, subst, All, AllPairs, String, string_bytes, Global, arith, length-append}
use Rattle.std.proofs.lemmas.List.{get_or_append_left, get_or-append-add, length-map, length-take-le, get_or-take, get_or-map, take_more, map-append, get_or_past}
use Rattle.std.proofs.lemmas.List.Folds.{list_any_none}
use Rattle.std.proofs.lemmas.List.Quantifiers.{position-Some}
use Rattle.std.proofs.lemmas.Bool.{false_from_ne_true, ltb-false, ltb-true}
use Rattle.std.proofs.lemmas.Bool.Decides.{nat_tests}
use Rattle.std.proofs.lemmas.Str.{IsUtf8-from_ascii}
use Rattle.std.proofs.lemmas.Slice.Eq.{bytes_eq-Decides}
use Rattle.std.specs.List.{position_or_len, list_any}
use Rattle.std.specs.Str.{bytes_eq, IsUtf8, IsAscii}
use Rattle.fr_program.specs.Limits.{IsName, is_letter, is_digit}
use Rattle.fr_instr.specs.Names.{place_of}

position_or_len-map : {A B : Type 0} (f : A → B) (p : B → Bool) (xs : List A) → position_or_len p (map f xs) ≡ position_or_len (λ x. p (f x)) xs
position_or_len-map f p [] = refl
position_or_len-map f p (x ∷ xs) = rw (position_or_len-map f p xs) refl

-- a place in a list of texts is a place in the list of their bytes
pub position-map : {A B : Type 0} (f : A → B) (p : B → Bool) (xs : List A) → position p (map f xs) ≡ position (λ x. p (f x)) xs
position-map f p xs = rw (position_or_len-map f p xs, length-map xs f) refl

pub apart_left : (xs ys : List (List ℕ)) → AllPairs (λ x y. x ≢ y) (xs ++ ys) → AllPairs (λ x y. x ≢ y) xs
apart_left xs ys h i j d below within =
    let first : i < length xs = omega arith in
    let P : List ℕ → Type 0 = λ x. x ≢ get_or xs j d in
    let Q : List ℕ → Type 0 = λ y. get_or (xs ++ ys) i d ≢ y in
    subst P (get_or_append_left xs ys d i first) (subst Q (get_or_append_left xs ys d j within) (h i j d below (omega (arith, length-append xs ys))))

pub apart_right : (xs ys : List (List ℕ)) → AllPairs (λ x y. x ≢ y) (xs ++ ys) → AllPairs (λ x y. x ≢ y) ys
apart_right xs ys h i j d below within =
    let P : List ℕ → Type 0 = λ x. x ≢ get_or ys j d in
    let Q : List ℕ → Type 0 = λ y. get_or (xs ++ ys) (length xs + i) d ≢ y in
    subst P (get_or-append-add xs ys i d) (subst Q (get_or-append-add xs ys j d) (h (length xs + i) (length xs + j) d (omega arith) (omega (arith, length-append xs ys))))

-- ---- a word that is no text names nothing

name_byte : (c : ℕ) → (is_letter c || is_digit c) ≡ true → c < 128
name_byte c h = grind (arith, nat_tests)

name_ascii : (w : List ℕ) → IsName w → IsAscii w
name_ascii w h i = by_place (nat_lt i (length w)) refl
  where
    by_place : (b : Bool) → nat_lt i (length w) ≡ b → get_or w i 0 < 128
    by_place true e = name_byte (get_or w i 0) (h.letters i 0 (ltb-true i (length w) e))
    by_place false e = let zero : get_or w i 0 ≡ 0 = get_or_past w i 0 (ltb-false i (length w) e) in omega (arith, zero)

pub no_text_named : (names : List (List ℕ)) (w : List ℕ) → All IsName names → (IsUtf8 w → ⊥) → None ≡ place_of names w
no_text_named names w are no_text = by_place (place_of names w) refl
  where
    by_place : (o : Option ℕ) → place_of names w ≡ o → None ≡ o
    by_place None e = refl
    by_place (Some i) e =
        let at = position-Some (λ v. bytes_eq w v) names i [] e in
        let same : w ≡ get_or names i [] = (bytes_eq-Decides w (get_or names i [])).0 at.1 in
        absurd (no_text (rw same (IsUtf8-from_ascii (get_or names i []) (name_ascii (get_or names i []) (are i [] at.0)))))

-- ---- names are put in one after another

-- the next name is not there yet
pub fresh : (keys : List (String Global)) (value : String Global) (ts : List (List ℕ)) (i : ℕ) → AllPairs (λ x y. x ≢ y) ts → map string_bytes keys ≡ take i ts → i < length ts
    → string_bytes value ≡ get_or ts i [] → list_any (λ k. bytes_eq (string_bytes value) (string_bytes k)) keys ≡ false
fresh keys value ts i apart same within is =
    list_any_none (λ k. bytes_eq (string_bytes value) (string_bytes k)) keys (λ j d below.
    let count : length keys ≡ i = sym (length-map keys string_bytes) ∙ ap length same ∙ length-take-le i ts (omega arith) in
    let before : j < i = omega (arith, count) in
    let there : string_bytes (get_or keys j d) ≡ get_or ts j [] = sym (get_or-map string_bytes keys j d [] below) ∙ ap (λ l. get_or l j []) same ∙ get_or-take i ts j [] before in
    false_from_ne_true (bytes_eq (string_bytes value) (string_bytes (get_or keys j d))) (λ e.
    apart j i [] before within (sym there ∙ sym ((bytes_eq-Decides (string_bytes value) (string_bytes (get_or keys j d))).0 e) ∙ is)))

pub one_more : (keys more : List (String Global)) (value : String Global) (b : Bool) (ts : List (List ℕ)) (i : ℕ) → more ≡ cond b keys (keys ++ value ∷ []) → b ≡ false → map string_bytes keys ≡ take i ts
    → i < length ts → string_bytes value ≡ get_or ts i [] → map string_bytes more ≡ take (i + 1) ts
one_more keys more value b ts i e fails same within is =
    ap (map string_bytes) (e ∙ ap (λ c. cond c keys (keys ++ value ∷ [])) fails) ∙ map-append string_bytes keys (value ∷ []) ∙ ap (λ l. l ++ string_bytes value ∷ []) same ∙ ap (λ x. take i ts ++ x ∷ []) is
    ∙ sym (take_more ts i [] within)

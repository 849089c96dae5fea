-- Names, one after another: each is apart from those before it, or is given a second time.
use Rattle.std.proofs.Common.{◌≡◌, ◌≢◌, ℕ, ◌+◌, ◌<◌, List, [], ◌∷◌, ◌++◌, Bool, true, false, Bor, ◌||◌, length, get_or, take, drop, map, Contains, refl, sym, ap, ◌∙◌, subst, true≢false, drop-cons, add-one, not, if◌then◌else◌}
use Rattle.std.specs.List.{list_any}
use Rattle.std.specs.Str.{bytes_eq}
use Rattle.std.specs.Cmp.Lexicographic.{bytes_decides, nat_list_eq_equiv}
use Rattle.std.proofs.lemmas.Map.Views.{list_any-from_Contains, Contains-from_any}
use Rattle.std.proofs.lemmas.List.{take-append-drop, take_more, map-append, get_or-map, length-map}
use Rattle.std.proofs.lemmas.List.Elements.{All-push, Contains-get_or}
use Rattle.std.proofs.lemmas.List.Quantifiers.{all_pairs_push}
use Rattle.fr_program.specs.Limits.{IsName}
use Rattle.fr_reader.specs.Views.{line_text}
use Rattle.fr_reader.specs.Meaning.{AreNames}
use Rattle.fr_reader.specs.Stands.{StandsTwice}

-- the references that a test passes, and the texts that it passes
any-texts : (t : List ℕ) (keys : List (Bor (List ℕ))) → list_any (λ key. bytes_eq t key.now) keys ≡ list_any (bytes_eq t) (map line_text keys)
any-texts t [] = refl
any-texts t (key ∷ keys) = ap (λ b. bytes_eq t key.now || b) (any-texts t keys)

-- a text that no test finds differs from each in the list
pub apart : (t : List ℕ) (ks : List (List ℕ)) → list_any (bytes_eq t) ks ≡ false → (k : ℕ) (d : List ℕ) → k < length ks → get_or ks k d ≢ t
apart t ks none k d below same =
    true≢false (sym (list_any-from_Contains nat_list_eq_equiv t ks (subst (Contains ks) same (Contains-get_or ks k d below))) ∙ none)

-- a text that a test finds is in the list
pub found : (t : List ℕ) (ks : List (List ℕ)) → list_any (bytes_eq t) ks ≡ true → Contains ks t
found t ks some = Contains-from_any (λ x y. (bytes_decides x y).0) t ks some

-- one more name
pub names_push : (keys : List (Bor (List ℕ))) (x : Bor (List ℕ)) → list_any (λ key. bytes_eq x.now key.now) keys ≡ false → IsName x.now
    → AreNames (map line_text keys) → AreNames (map line_text (keys ++ x ∷ []))
names_push keys x new name h =
    let whole : AreNames (map line_text keys ++ x.now ∷ []) = record {
      each = All-push IsName (map line_text keys) x.now h.each name;
      once = all_pairs_push (λ a b. a ≢ b) (map line_text keys) x.now h.once (apart x.now (map line_text keys) (sym (any-texts x.now keys) ∙ new));
    } in
    subst AreNames (sym (map-append line_text keys (x ∷ []))) whole

split : (names : List (Bor (List ℕ))) (i : ℕ) (d : Bor (List ℕ)) → i < length names
    → map line_text names ≡ map line_text (take i names) ++ (get_or names i d).now ∷ map line_text (drop (i + 1) names)
split names i d below =
    let tail : drop i names ≡ get_or names i d ∷ drop (i + 1) names = drop-cons names i d below ∙ ap (λ n. get_or names i d ∷ drop n names) (sym (add-one i)) in
    ap (map line_text) (sym (take-append-drop i names)) ∙ map-append line_text (take i names) (drop i names)
    ∙ ap (λ t. map line_text (take i names) ++ map line_text t) tail

-- whether a reference to this text is among these
abbrev pub is_seen : List ℕ → List (Bor (List ℕ)) → Bool
is_seen t keys = list_any (λ key. bytes_eq t key.now) keys

was_true : (b : Bool) → false ≡ not b → b ≡ true
was_true true e = refl
was_true false e = cc

was_false : (b : Bool) → true ≡ not b → b ≡ false
was_false false e = refl
was_false true e = cc

-- a name that was seen before
pub names_twice : (names keys : List (Bor (List ℕ))) (i : ℕ) (d : Bor (List ℕ)) → i < length names → keys ≡ take i names
    → false ≡ not (is_seen (get_or names i d).now keys) → StandsTwice (map line_text names) (get_or names i d).now
names_twice names keys i d below is seen =
    let here : is_seen (get_or names i d).now (take i names) ≡ true = ap (is_seen (get_or names i d).now) (sym is) ∙ was_true (is_seen (get_or names i d).now keys) seen in (
      map line_text (take i names),
      map line_text (drop (i + 1) names),
      split names i d below,
      found (get_or names i d).now (map line_text (take i names)) (sym (any-texts (get_or names i d).now (take i names)) ∙ here),
    )

-- a name that was not
pub keys_more : (names keys after : List (Bor (List ℕ))) (i : ℕ) (d : Bor (List ℕ)) → i < length names → keys ≡ take i names
    → true ≡ not (is_seen (get_or names i d).now keys) → after ≡ (if is_seen (get_or names i d).now keys then keys else keys ++ get_or names i d ∷ [])
    → after ≡ take (i + 1) names
keys_more names keys after i d below is new pushed =
    pushed ∙ ap (λ b. if b then keys else keys ++ get_or names i d ∷ []) (was_false (is_seen (get_or names i d).now keys) new)
    ∙ ap (λ ks. ks ++ get_or names i d ∷ []) is ∙ sym (take_more names i d below)

pub names_more : (names keys : List (Bor (List ℕ))) (i : ℕ) (d : Bor (List ℕ)) → i < length names → keys ≡ take i names
    → true ≡ not (is_seen (get_or names i d).now keys) → IsName (get_or names i d).now → AreNames (map line_text (take i names))
    → AreNames (map line_text (take (i + 1) names))
names_more names keys i d below is new name h =
    let here : is_seen (get_or names i d).now (take i names) ≡ false = ap (is_seen (get_or names i d).now) (sym is) ∙ was_false (is_seen (get_or names i d).now keys) new in
    subst (λ ks. AreNames (map line_text ks)) (sym (take_more names i d below)) (names_push (take i names) (get_or names i d) here name h)

-- a name that was read is one of the names
pub name_there : (names : List (Bor (List ℕ))) (i : ℕ) (d : Bor (List ℕ)) → i < length names → Contains (map line_text names) (get_or names i d).now
name_there names i d below =
    subst (Contains (map line_text names)) (get_or-map line_text names i d d.now below) (Contains-get_or (map line_text names) i d.now (rw length-map below))

-- what a list of references means, field by field
pub map-square : {A B C D : Type 0} (f : B → D) (g : A → B) (h : C → D) (k : A → C) → ((x : A) → f (g x) ≡ h (k x)) → (xs : List A) → map f (map g xs) ≡ map h (map k xs)
map-square f g h k e [] = refl
map-square f g h k e (x ∷ xs) = rw (e x, map-square f g h k e xs) refl

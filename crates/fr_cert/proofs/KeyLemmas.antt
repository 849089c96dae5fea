-- The keys of an object's map beside the members that it stands for.
use Rattle.std.proofs.Common.{◌≡◌, ℕ, List, [], ◌∷◌, ◌++◌, get_or, drop, Some, Option, option_map, Bor, Ordering, Less, Equal, Greater, String, Global, string_bytes, nat_cmp, refl, sym, ap, ◌∙◌, subst}
use Rattle.fr_cert.proofs.Terms.{AllByRecursion, keys_of, lookup, is_at, match_ordering, tied_itself, slice_cmp, nat_list_cmp_total, exact_bytes, Data, get_member, members_view, view, Value, Entry}
use Rattle.fr_cert.proofs.Terms.{view-lookup, view_of_ref}

-- one look further: what the rest holds, the whole holds
over : (o : Ordering) (d : Data) (rest : Data) (x : Data) → (e : Data) × (match_ordering o (Some rest) (Some x) (Some rest) ≡ Some e)
over Less d rest x = (rest, refl)
over Equal d rest x = (x, refl)
over Greater d rest x = (rest, refl)

-- a key of the map has a member
pub key_found : (front rest : List (String Global)) (k : String Global) (es : List Entry) → keys_of es ≡ front ++ k ∷ rest
    → (d : Data) × (get_member (string_bytes k) (members_view es) ≡ Some d)
key_found front rest k [] e = absurd (no_keys front rest k e)
  where
    no_keys : (front rest : List (String Global)) (k : String Global) → [] ≡ front ++ k ∷ rest → ⊥
    no_keys [] rest k e = cc
    no_keys (f ∷ fs) rest k e = cc
key_found [] rest k (x ∷ es) e =
    let same : x.0 ≡ k = ap (λ ks. get_or ks 0 k) e in
    (view x.1, rw (same, tied_itself nat_list_cmp_total (string_bytes k)))
key_found (f ∷ front) rest k (x ∷ es) e =
    let (d, found) = key_found front rest k es (ap (drop 1) e) in
    rw found (over (slice_cmp nat_cmp (string_bytes k) (string_bytes x.0)) d d (view x.1))

-- what holds of each key holds of each that is found
pub each_known : (P : List ℕ → Type 0) (es : List Entry) → AllByRecursion (λ k. P (string_bytes k)) (keys_of es)
    → (k : List ℕ) (d : Data) → get_member k (members_view es) ≡ Some d → P k
each_known P [] h k d found = cc
each_known P (x ∷ es) h k d found =
    elim (slice_cmp nat_cmp k (string_bytes x.0)) as (λ o. o ≡ slice_cmp nat_cmp k (string_bytes x.0) → match_ordering o (get_member k (members_view es)) (Some (view x.1)) (get_member k (members_view es)) ≡ Some d → P k) [
      | Less ↦ λ _ more. each_known P es h.1 k d more
      | Equal ↦ λ same _. subst P (sym (exact_bytes k (string_bytes x.0) (sym same))) h.0
      | Greater ↦ λ _ more. each_known P es h.1 k d more
    ] refl found

pub known_push : {X : Type 0} (P : X → Type 0) (xs : List X) (x : X) → AllByRecursion P xs → P x → AllByRecursion P (xs ++ x ∷ [])
known_push P [] x h p = (p, tt)
known_push P (y ∷ xs) x h p = (h.0, known_push P xs x h.1 p)

-- what the map finds is what the members have
pub map_get : (r : Option (Bor Value)) (k : List ℕ) (es : List Entry) → option_map (λ x. x.now) r ≡ lookup (is_at (λ x. slice_cmp nat_cmp k (string_bytes x))) es
    → option_map (λ x. view x.now) r ≡ get_member k (members_view es)
map_get r k es found = view_of_ref r ∙ ap (option_map view) found ∙ view-lookup k es

-- so it is with what is taken out of the map
pub map_taken : (r : Option Value) (k : List ℕ) (es : List Entry) → r ≡ lookup (is_at (λ x. slice_cmp nat_cmp k (string_bytes x))) es → option_map view r ≡ get_member k (members_view es)
map_taken r k es found = ap (option_map view) found ∙ view-lookup k es

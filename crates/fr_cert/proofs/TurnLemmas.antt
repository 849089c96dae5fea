-- The values of a turn, put into a map from the last one on, so that the first one of an actor stays.
use Rattle.std.proofs.Common.{◌≡◌, ◌<◌, ◌∙◌, ℕ, ℤ, List, [], ◌∷◌, Bool, true, false, Some, Ordering, Less, Equal, Greater, nat_cmp, nat_eq, nat_lt, cond, map, refl, sym, ap, arith}
use Rattle.fr_cert.proofs.Terms.{BTreeMap, is_at, get, lookup, is_eq, false≢true, Decides-eqb, Decides-ltb, ActorId, value_for, value_of, values_of}

-- numbers compare equal where they are
pub same_number : (a b : ℕ) → is_eq (nat_cmp a b) ≡ nat_eq a b
same_number a b = go (nat_lt a b) (nat_eq a b) refl refl
  where
    go : (less same : Bool) → nat_lt a b ≡ less → nat_eq a b ≡ same → is_eq (cond less Less (cond same Equal Greater)) ≡ same
    go true true p q = let l = (Decides-ltb a b).0 p in let e = (Decides-eqb a b).0 q in absurd (omega (arith, l, e))
    go true false p q = refl
    go false true p q = refl
    go false false p q = refl

-- an order of actors by their numbers
abbrev pub IsByNumber : (ActorId → ActorId → Ordering) → Type 0
IsByNumber cmp = ((x y : ActorId) → cmp x y ≡ Less → x.0 < y.0) × ((x y : ActorId) → is_at (cmp x) y ≡ nat_eq x.0 y.0)

abbrev actor : ℕ → ActorId
actor a = record { 0 = a }

turned : (a b : ℕ) → nat_eq a b ≡ nat_eq b a
turned a b = go (nat_eq a b) (nat_eq b a) refl refl
  where
    go : (c d : Bool) → nat_eq a b ≡ c → nat_eq b a ≡ d → c ≡ d
    go true true p q = refl
    go true false p q = absurd (false≢true (sym q ∙ (Decides-eqb b a).1 (sym ((Decides-eqb a b).0 p))))
    go false true p q = absurd (false≢true (sym p ∙ (Decides-eqb a b).1 (sym ((Decides-eqb b a).0 q))))
    go false false p q = refl

entries_value : (cmp : ActorId → ActorId → Ordering) → IsByNumber cmp → (es : List (ActorId × ℤ)) (a : ℕ) → value_for (map value_of es) a ≡ lookup (is_at (cmp (actor a))) es
entries_value cmp law [] a = refl
entries_value cmp law (e ∷ es) a =
    ap (λ b. cond b (Some e.1) (value_for (map value_of es) a)) (turned e.0.0 a ∙ sym (law.1 (actor a) e.0)) ∙ ap (cond (is_at (cmp (actor a)) e.0) (Some e.1)) (entries_value cmp law es a)

-- one value more in front
pub turn_more : (cmp : ActorId → ActorId → Ordering) → IsByNumber cmp → (old new : BTreeMap ActorId ℤ) (x : ActorId × ℤ) (w : ℤ) (done : List (ActorId × ℤ)) → w ≡ x.1
    → ((q : ActorId) → get cmp new q ≡ cond (is_at (cmp x.0) q) (Some w) (get cmp old q)) → ((a : ℕ) → value_for (values_of old) a ≡ value_for (map value_of done) a)
    → (a : ℕ) → value_for (values_of new) a ≡ value_for (map value_of (x ∷ done)) a
turn_more cmp law old new x w done same updates h a =
    entries_value cmp law new.entries a
    ∙ (updates (actor a)
    ∙ (ap (λ y. cond (is_at (cmp x.0) (actor a)) (Some y) (get cmp old (actor a))) same
    ∙ (ap (λ b. cond b (Some x.1) (get cmp old (actor a))) (law.1 x.0 (actor a))
    ∙ ap (cond (nat_eq x.0.0 a) (Some x.1)) (sym (entries_value cmp law old.entries a) ∙ h a))))

-- Items of which none is like one before it.
use Rattle.std.proofs.Common.{◌<◌, ℕ, List, [], ◌∷◌, ◌++◌, Any, AllPairs, length, get_or, map, subst, arith}
use Rattle.fr_cert.proofs.Terms.{get_or_default, get_or-map, length-map, Data, Items, IsTwice, CertFault}
use Rattle.std.proofs.lemmas.List.Quantifiers.{all_pairs_push}

-- one item more, which is like none before it
pub apart_more : {A B : Type 0} (R : B → B → Type 0) (f : A → B) (xs : List A) (x : A) → AllPairs (λ y z. R y z → ⊥) (map f xs) → (Any (λ y. R (f y) (f x)) xs → ⊥) → AllPairs (λ y z. R y z → ⊥) (map f xs ++ f x ∷ [])
apart_more {A} {B} R f xs x h none = all_pairs_push (λ y z. R y z → ⊥) (map f xs) (f x) h apart
  where
    apart : (k : ℕ) (d : B) → k < length (map f xs) → R (get_or (map f xs) k d) (f x) → ⊥
    apart k d within alike =
        let in_xs : k < length xs = omega (arith, within, length-map xs f) in
        none (k, get_or xs k x, in_xs, get_or_default xs k (get_or xs k x) x in_xs, subst (λ y. R y (f x)) (get_or-map f xs k x d in_xs) alike)

-- entries that mean more are alike in what they mean less too
pub twice_weaker : {A : Type 0} (M N : Data → A → Type 0) (AreAlike : A → A → Type 0) (twice : CertFault) → ((d : Data) (x : A) → M d x → N d x) → (ds : Items) (f : CertFault) → IsTwice M AreAlike twice ds f → IsTwice N AreAlike twice ds f
twice_weaker M N AreAlike twice weaker ds f s = (s.0, s.1, s.2, s.3, s.4, s.5, s.6, s.7, s.8, weaker s.2 s.4 s.9, weaker s.3 s.5 s.10, s.11, s.12)

-- An item of a list to which one is added.
use Rattle.std.proofs.Common.{◌≡◌, ◌⊎◌, inl, inr, ⊎_elim, ℕ, zero, suc, List, [], ◌∷◌, ◌++◌, Some, length, refl, arith}
use Rattle.std.specs.Prelude.{slice_get}
use Rattle.std.proofs.lemmas.Option.{same_Some}

-- it is one of those before, or the one that was added
pub get-push : {A : Type 0} (xs : List A) (x y : A) (n : ℕ) → slice_get (xs ++ x ∷ []) n ≡ Some y → (slice_get xs n ≡ Some y) ⊎ ((n ≡ length xs) × (x ≡ y))
get-push [] x y zero e = inr (refl, same_Some x y e)
get-push [] x y (suc n) e = cc
get-push (z ∷ xs) x y zero e = inl e
get-push (z ∷ xs) x y (suc n) e = ⊎_elim (λ h. inl h) (λ h. inr (omega (arith, h.0), h.1)) (get-push xs x y n e)

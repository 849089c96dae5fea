-- An alternative of a note that fits does, and what a look-up in a list gives.
use Rattle.std.proofs.Common.{◌≡◌, ℕ, zero, suc, ◌<◌, List, [], ◌∷◌, length, get_or, Some, refl, sym, subst, arith}
use Rattle.std.specs.Prelude.{Contains, slice_get}
use Rattle.fr_effects.proofs.Terms.{Program, AlternativeFits, NoteFits, Alternative, Note}

-- an alternative of a note that fits does
pub contained-fits : (P : Program) (note : Note) → NoteFits P note → (n : Alternative) → Contains note n → AlternativeFits P n
contained-fits P note fits n i = subst (λ (x : Alternative). AlternativeFits P x) i.2 (fits.1 i.0 n i.1)

-- an alternative that the code meets in a note fits
pub item-fits : (P : Program) (items note : Note) (k : ℕ) (x : Alternative) → items ≡ note → k < length items → x ≡ get_or items k x → NoteFits P note → AlternativeFits P x
item-fits P items note k x same l is fits =
    contained-fits P note fits x (subst (λ (xs : Note). Contains xs x) same (k, l, sym is))

-- what a look-up below the length gives
pub get-there : {A : Type 0} (xs : List A) (k : ℕ) → k < length xs → (x : A) × (slice_get xs k ≡ Some x)
get-there [] k l = absurd (omega arith)
get-there (x ∷ xs) zero l = (x, refl)
get-there (x ∷ xs) (suc k) l = get-there xs k (omega arith)

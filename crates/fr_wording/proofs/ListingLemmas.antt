-- One line more of a listing.
use Rattle.std.proofs.Common.{◌≡◌, ◌+◌, ℕ, List, [], ◌∷◌, ◌++◌, Some, take, sym, ap, ◌∙◌}
use Rattle.std.specs.Prelude.{slice_get}
use Rattle.std.specs.List.{flat_map}
use Rattle.std.proofs.lemmas.List.{take_more, flat_map_more}
use Rattle.std.proofs.lemmas.Option.{slice_get_within, get_or_from_slice_get}

-- the texts of the first so many and of the next one are those of one more
pub one-more : {X : Type 0} (f : X → List ℕ) (xs : List X) (k : ℕ) (x : X) (done : List ℕ) → slice_get xs k ≡ Some x → done ≡ flat_map f (take k xs) →
    done ++ f x ≡ flat_map f (take (k + 1) xs)
one-more f xs k x done at so =
    let more = take_more xs k x (slice_get_within xs k x at) ∙ ap (λ y. take k xs ++ y ∷ []) (get_or_from_slice_get xs k x x at) in
    ap (λ d. d ++ f x) so ∙ flat_map_more f [] (take k xs) x ∙ ap (flat_map f) (sym more)

-- From ranges in code to what an alternative says.
use Rattle.std.proofs.Common.{List, length, map, get_or, ◌<◌, ◌≡◌, ℕ, sym, ◌∙◌, ap}
use Rattle.std.specs.Prelude.{slice_index_or, pos}
use Rattle.fr_notes.proofs.Terms.{get_or-map, Range, ends_of}

-- a range of the list, as the alternative has it
pub at-map : (xs : List Range) (k : ℕ) (r : Range) → k < length xs → r ≡ get_or xs k r → slice_index_or (map ends_of xs) k (pos 0, pos 0) ≡ ends_of r
at-map xs k r l e = get_or-map ends_of xs k r (pos 0, pos 0) l ∙ ap (λ z. ends_of z) (sym e)

-- Names that are apart stay so with one more that is none of them.
use Rattle.std.proofs.Common.{◌≡◌, ◌≢◌, ◌+◌, ◌<◌, ℕ, List, [], ◌∷◌, ◌++◌, length, get_or, take, Option, Some, None, arith, length-append, refl, sym, ap, ◌∙◌, subst}
use Rattle.std.specs.Prelude.{All, AllPairs, option_map, filter_map}
use Rattle.std.proofs.lemmas.List.{get_or_append_left, get_or-append-add, take_more}
use Rattle.std.proofs.lemmas.List.Elements.{All-push, filter_map-append}
use Rattle.std.proofs.lemmas.List.Quantifiers.{all_pairs_push}
use Rattle.fr_files.specs.Apart.{AreApart, paths}
use Rattle.fr_files.specs.declared.outputs.Output.{Output}

module _ {X : Type 0} (P : X → Type 0) (xs ys : List X) (all : All P (xs ++ ys)) where
  -- what holds of each of two lists holds of each of the first, and of the second
  all_left : All P xs
  all_left k d lt =
      let within : k < length (xs ++ ys) = rw (length-append xs ys) (omega arith) in
      subst P (get_or_append_left xs ys d k lt) (all k d within)

  all_right : All P ys
  all_right k d lt =
      let within : length xs + k < length (xs ++ ys) = rw (length-append xs ys) (omega arith) in
      subst P (get_or-append-add xs ys k d) (all (length xs + k) d within)

-- one more output, whose name is none of those before it
pub apart_push : (ins outs : List (List ℕ)) (x : List ℕ) → AreApart ins outs → All (λ other. other ≢ x) (ins ++ outs) → AreApart ins (outs ++ x ∷ [])
apart_push ins outs x apart new = record {
  inputs = All-push (λ o. All (λ i. i ≢ o) ins) outs x apart.inputs (all_left (λ other. other ≢ x) ins outs new);
  outputs = all_pairs_push (λ o p. o ≢ p) outs x apart.outputs (all_right (λ other. other ≢ x) ins outs new);
}

-- the paths of one more output
pub paths_some : (xs : List (Option Output)) (i : ℕ) (d : Option Output) (o : Output) → i < length xs → get_or xs i d ≡ Some o
    → paths (take (i + 1) xs) ≡ paths (take i xs) ++ o.path.now ∷ []
paths_some xs i d o lt is = ap paths (take_more xs i d lt) ∙ filter_map-append _ (take i xs) (get_or xs i d ∷ []) ∙ ap (λ x. paths (take i xs) ++ paths (x ∷ [])) is

-- of one that isn't asked for
pub paths_none : (xs : List (Option Output)) (i : ℕ) (d : Option Output) → i < length xs → get_or xs i d ≡ None → paths (take (i + 1) xs) ≡ paths (take i xs) ++ []
paths_none xs i d lt is = ap paths (take_more xs i d lt) ∙ filter_map-append _ (take i xs) (get_or xs i d ∷ []) ∙ ap (λ x. paths (take i xs) ++ paths (x ∷ [])) is

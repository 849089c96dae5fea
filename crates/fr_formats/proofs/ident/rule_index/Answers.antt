use Rattle.std.proofs.Common.{◌≡◌, ℕ, ◌+◌, Bool, cond, List, [], ◌∷◌, Some, map, refl, ◌∙◌, ap, bytes_eq}
use Rattle.std.specs.List.{position_from}
use Rattle.fr_formats.specs.Names.{rule_index}
use Rattle.fr_formats.proofs.ident.rule_index.Goals as goal

-- what is found by a test of the items' images
position_from-map : {A B : Type 0} (f : A → B) (test : B → Bool) (i : ℕ) (xs : List A) → position_from (λ x. test (f x)) i xs ≡ position_from test i (map f xs)
position_from-map f test i [] = refl
position_from-map f test i (x ∷ xs) = ap (cond (test (f x)) (Some i)) (position_from-map f test (i + 1) xs)

pub returns : goal.returns
unfolding rule_index
returns c =
    c.index_among.ensures ∙ position_from-map (λ ident. ident.name.now) (λ known. bytes_eq known c.args.name.now) 0 c.idents.result.now
    ∙ ap (position_from (λ known. bytes_eq known c.args.name.now) 0) c.idents.ensures

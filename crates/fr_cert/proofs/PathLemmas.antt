-- One more step of a path that is printed.
use Rattle.std.proofs.Common.{◌≡◌, ℕ, ◌+◌, ◌<◌, List, [], ◌∷◌, ◌++◌, codes, length, get_or, map, take, refl, sym, ap, ◌∙◌, append-nil, append_assoc}
use Rattle.fr_cert.proofs.Terms.{take_more, PathStep, step_of, step_text, more_text}
use Rattle.fr_cert.specs.declared.path.Step as declared

more_append : (xs : List PathStep) (x : PathStep) → more_text (xs ++ x ∷ []) ≡ more_text xs ++ (codes "/" ++ step_text x)
more_append [] x = ap (λ t. codes "/" ++ t) (append-nil (step_text x))
more_append (y ∷ ys) x =
    ap (λ t. codes "/" ++ (step_text y ++ t)) (more_append ys x)
    ∙ ap (λ t. codes "/" ++ t) (sym (append_assoc (step_text y) (more_text ys) (codes "/" ++ step_text x)))

map_append : (xs : List declared.Step) (x : declared.Step) → map step_of (xs ++ x ∷ []) ≡ map step_of xs ++ step_of x ∷ []
map_append [] x = refl
map_append (y ∷ ys) x = ap (λ t. step_of y ∷ t) (map_append ys x)

-- the text up to one step further
pub more_next : (first : List ℕ) (xs : List declared.Step) (i : ℕ) (d : declared.Step) → i < length xs
    → (first ++ more_text (map step_of (take i xs))) ++ (codes "/" ++ step_text (step_of (get_or xs i d))) ≡ first ++ more_text (map step_of (take (i + 1) xs))
more_next first xs i d within =
    append_assoc first (more_text (map step_of (take i xs))) (codes "/" ++ step_text (step_of (get_or xs i d)))
    ∙ ap (λ t. first ++ t) (
    sym (more_append (map step_of (take i xs)) (step_of (get_or xs i d)))
    ∙ ap more_text (sym (map_append (take i xs) (get_or xs i d)))
    ∙ ap (λ ys. more_text (map step_of ys)) (sym (take_more xs i d within))
    )

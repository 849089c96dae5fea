-- Answers one after the other: each of two lists with one more, and the greatest exit status.
use Rattle.std.proofs.Common.{◌≡◌, ◌∙◌, ◌+◌, ◌<◌, ◌≤◌, ◌++◌, ℕ, List, [], ◌∷◌, ap, arith, get_or, length, subst, sym, take}
use Rattle.std.proofs.lemmas.List.{take_all, take_more}
use Rattle.fr_formats.specs.declared.answer.AnswerKind.{AnswerKind}
use Rattle.fr_formats.specs.declared.answer.AnswerKind.TheVariants.{Yes}
use Rattle.fr_formats.specs.Answers.{status_of as kind_status}
use Rattle.fr_outcome.specs.Each.{Each}

-- two more
pub each-more : {A B : Type 0} (Is : A → B → Type 0) (xs : List A) (ys : List B) (x : A) (y : B) → Each Is xs ys → Is x y → Each Is (xs ++ x ∷ []) (ys ++ y ∷ [])
each-more Is [] [] x y h own = (own, tt)
each-more Is [] (b ∷ ys) x y h own = absurd h
each-more Is (a ∷ xs) [] x y h own = absurd h
each-more Is (a ∷ xs) (b ∷ ys) x y h own = (h.0, each-more Is xs ys x y h.1 own)

-- two more, of which the one is the next of a list
pub each-next : {A B : Type 0} (Is : A → B → Type 0) (xs : List A) (k : ℕ) (x : A) (ys zs : List B) (y : B) → k < length xs → x ≡ get_or xs k x
    → zs ≡ ys ++ y ∷ [] → Each Is (take k xs) ys → Is x y → Each Is (take (k + 1) xs) zs
each-next Is xs k x ys zs y below is pushed were own =
    subst (λ ts. Each Is ts zs) (sym (take_more xs k x below ∙ ap (λ a. take k xs ++ a ∷ []) (sym is)))
    (subst (λ bs. Each Is (take k xs ++ x ∷ []) bs) (sym pushed) (each-more Is (take k xs) ys x y were own))

-- all of a list were the next one
pub each-all : {A B : Type 0} (Is : A → B → Type 0) (xs : List A) (k : ℕ) (ys : List B) → length xs ≤ k → Each Is (take k xs) ys → Each Is xs ys
each-all Is xs k ys ended were = subst (λ ts. Each Is ts ys) (take_all k xs ended) were

-- an exit status is 3 at the most
pub status-most : (kind : AnswerKind) → kind_status kind ≤ 3
status-most Yes = omega arith
status-most kind = omega arith

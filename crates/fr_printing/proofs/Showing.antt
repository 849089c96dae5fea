-- What is shown of an answer: its exit status, what is printed, and its page.
use Rattle.std.proofs.Common.{◌≡◌, ◌≤◌, inl, inr, ℕ, List, Option, None, Some, Result, Ok, Err, IfOk, IfErr, sym, subst}
use Rattle.fr_request.specs.declared.format.Format.{Format}
use Rattle.fr_outcome.specs.declared.answer.What.{What}
use Rattle.fr_outcome.specs.Answers.{what_status}
use Rattle.fr_printing.specs.Printing.{IsPaged, IsPrinted, IsShown, PutsPage}

-- an answer that is shown: its exit status, what is printed, and that nothing is where there is no verdict
pub shown-found : {Y : Type 0} (Has : What → Type 0) (format : Option Format) (named path : List ℕ) (old new : Option (List ℕ)) (r : Result ℕ Y) (what : What) → named ≡ path
    → (what_status what ≤ 1 → Has what) → IfOk r (λ s. s ≡ what_status what) → IfOk r (λ s. IsPrinted format named what old new) → IfOk r (λ s. IsShown Has format path s old new)
shown-found Has format named path old new (Ok s) what same has status text = (what, has, status, subst (λ p. IsPrinted format p what old new) same text)
shown-found Has format named path old new (Err e) what same has status text = tt

pub refused-found : {X E Y : Type 0} (found : Result X E) (r : Result ℕ Y) (n : ℕ) → IfErr found (λ _. 2 ≤ n) → IfOk r (λ s. s ≡ n) → IfErr found (λ _. IfOk r (λ s. 2 ≤ s))
refused-found (Ok x) r n h status = tt
refused-found (Err e) (Ok s) n h status = subst (λ m. 2 ≤ m) (sym status) h
refused-found (Err e) (Err y) n h status = tt

pub kept-found : {Y : Type 0} (A B : Type 0) (r : Result ℕ Y) (n : ℕ) → IfOk r (λ s. s ≡ n) → (A → 2 ≤ n → B) → IfOk r (λ s. 2 ≤ s → A → B)
kept-found A B (Ok s) n status h = λ least a. h a (subst (λ m. 2 ≤ m) status least)
kept-found A B (Err e) n status h = tt

pub most-found : {Y : Type 0} (r : Result ℕ Y) (n : ℕ) → IfOk r (λ s. s ≡ n) → n ≤ 3 → IfOk r (λ s. s ≤ 3)
most-found (Ok s) n status h = subst (λ m. m ≤ 3) (sym status) h
most-found (Err e) n status h = tt

-- a page of an answer of which more is known
pub page-as : {Z : Type 0} (puts : Z → List ℕ → List ℕ → Z → Type 0) (Was Is : What → Type 0) (status : ℕ) (path : Option (List ℕ)) (old new : Z) → ((w : What) → what_status w ≤ 1 → Was w → Is w)
    → PutsPage puts Was status path old new → PutsPage puts Is status path old new
page-as puts Was Is status None old new on same = same
page-as puts Was Is status (Some p) old new on h = (h.0, h.1, (λ le. on h.0 le (h.2 le)), h.3, h.4, h.5)

pub paged-as : {Z : Type 0} (puts : Z → List ℕ → List ℕ → Z → Type 0) (Was Is : What → Type 0) (path : Option (List ℕ)) (old new : Z) → ((w : What) → what_status w ≤ 1 → Was w → Is w)
    → IsPaged puts Was path old new → IsPaged puts Is path old new
paged-as puts Was Is path old new on (inl same) = inl same
paged-as puts Was Is path old new on (inr h) = inr (h.0, page-as puts Was Is h.0 path old new on h.1)

-- the page of an answer that is shown, with the exit status that it has
pub page-found : {Y Z : Type 0} (puts : Z → List ℕ → List ℕ → Z → Type 0) (Was Is : What → Type 0) (path : Option (List ℕ)) (old new : Z) (r : Result ℕ Y) (n : ℕ) → ((w : What) → what_status w ≤ 1 → Was w → Is w)
    → IfOk r (λ s. s ≡ n) → IfOk r (λ _. n ≤ 2 → PutsPage puts Was n path old new) → IfOk r (λ s. s ≤ 2 → PutsPage puts Is s path old new)
page-found puts Was Is path old new (Ok s) n on status h =
    λ le. subst (λ m. PutsPage puts Is m path old new) (sym status) (page-as puts Was Is n path old new on (h (subst (λ m. m ≤ 2) status le)))
page-found puts Was Is path old new (Err e) n on status h = tt

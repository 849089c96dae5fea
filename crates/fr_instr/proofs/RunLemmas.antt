-- The longest front of bytes that pass a test.
use Rattle.std.proofs.Common.{◌≡◌, ℕ, ◌+◌, cond, List, [], ◌∷◌, ◌++◌, take, drop, Bool, true, false, refl, ap}
use Rattle.std.proofs.lemmas.Bool.{and_parts}
use Rattle.std.specs.List.{list_all}
use Rattle.fr_instr.specs.Tokens.{first}
use Rattle.fr_instr.specs.Reading.{front, after}

-- the first n bytes pass
pub record Passed (p : ℕ → Bool) (s : List ℕ) (n : ℕ) : Type 0 where
  pub fronts : front p s ≡ take n s ++ front p (drop n s)
  pub afters : after p s ≡ after p (drop n s)

-- what the two are, told apart from how they are found
pub front_after : (p : ℕ → Bool) (s : List ℕ) → front p s ++ after p s ≡ s
front_after p [] = refl
front_after p (b ∷ bs) =
    elim (p b) as (λ t. cond t (b ∷ front p bs) [] ++ cond t (after p bs) (b ∷ bs) ≡ b ∷ bs) [
      | true ↦ ap (λ x. b ∷ x) (front_after p bs)
      | false ↦ refl
    ]

pub front_passes : (p : ℕ → Bool) (s : List ℕ) → list_all p (front p s) ≡ true
front_passes p [] = refl
front_passes p (b ∷ bs) =
    elim (p b) as (λ t. p b ≡ t → list_all p (cond t (b ∷ front p bs) []) ≡ true) [
      | true ↦ λ e. rw (e, front_passes p bs)
      | false ↦ λ e. refl
    ] refl

pub after_stops : (p : ℕ → Bool) (s : List ℕ) → p 0 ≡ false → p (first (after p s)) ≡ false
after_stops p [] none = none
after_stops p (b ∷ bs) none =
    elim (p b) as (λ t. p b ≡ t → p (first (cond t (after p bs) (b ∷ bs))) ≡ false) [
      | true ↦ λ e. after_stops p bs none
      | false ↦ λ e. e
    ] refl

pub front_of : (p : ℕ → Bool) (w rest : List ℕ) → list_all p w ≡ true → p (first rest) ≡ false → front p (w ++ rest) ≡ w
front_of p [] [] all stop = refl
front_of p [] (b ∷ bs) all stop = rw stop
front_of p (c ∷ w) rest all stop =
    let (here, more) = and_parts (p c) (list_all p w) all in
    rw here (ap (λ x. c ∷ x) (front_of p w rest more stop))

pub after_of : (p : ℕ → Bool) (w rest : List ℕ) → list_all p w ≡ true → p (first rest) ≡ false → after p (w ++ rest) ≡ rest
after_of p [] [] all stop = refl
after_of p [] (b ∷ bs) all stop = rw stop
after_of p (c ∷ w) rest all stop =
    let (here, more) = and_parts (p c) (list_all p w) all in
    rw here (after_of p w rest more stop)

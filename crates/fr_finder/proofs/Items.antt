-- Items of notes and of lists of notes, one at a time.
use Rattle.std.proofs.Common.{◌≡◌, ℕ, zero, suc, ◌+◌, ◌-◌, List, [], ◌∷◌, ◌++◌, length, sym, ap, ◌∙◌, subst, arith}
use Rattle.std.specs.Prelude.{All, Result, Ok, Err, IfOk, MatchResult, map}
use Rattle.std.specs.List.{AllZip, range_with_len}
use Rattle.std.proofs.lemmas.List.FromFn.{length-range_with_len}
use Rattle.std.proofs.lemmas.List.{length-append, length-map}
use Rattle.std.proofs.lemmas.Slice.Zip.{AllZip-long}
use Rattle.std.proofs.lemmas.List.Elements.{All-append}
use Rattle.fr_program.specs.Program.{Program}
use Rattle.fr_notes.specs.Fits.{NoteFits}
use Rattle.fr_notes.specs.Note.{Note}

-- what holds of one element holds of a list of it alone
pub all-one : {A : Type 0} (Q : A → Type 0) (x : A) → Q x → All Q (x ∷ [])
all-one Q x q zero d l = q
all-one Q x q (suc k) d l = absurd (omega (arith, l))

-- one more note in a list
pub notes-push : (P : Program) (notes : List Note) (note : Note) → All (λ n. NoteFits P n) notes → NoteFits P note → All (λ n. NoteFits P n) (notes ++ note ∷ [])
notes-push P notes note all one =
    All-append (λ n. NoteFits P n) notes (note ∷ []) all (all-one (λ n. NoteFits P n) note one)

-- a list with one more item is longer by one
pub one-longer : (xs ys : List Note) (x : Note) (k : ℕ) → ys ≡ xs ++ x ∷ [] → length xs ≡ k → length ys ≡ k + 1
one-longer xs ys x k more count = omega (arith, ap length more, length-append xs (x ∷ []), count)

-- what is made of each number, if all of it is made, is a note for each of them
module _ {V E : Type 0} (items : V → List Note) (made : Result V E) (rs : List (Result Note E)) (ns : List ℕ) where
  pub made-count : (R : ℕ → Result Note E → Type 0) (F : E → Type 0) (n : ℕ) → AllZip R ns rs → length ns ≡ n → MatchResult made (λ v. (ys : List Note) × (rs ≡ map Ok ys) × (items v ≡ ys)) F → IfOk made (λ v. length (items v) ≡ n)
  made-count R F n zip count m =
      elim made as (λ q. MatchResult q (λ v. (ys : List Note) × (rs ≡ map Ok ys) × (items v ≡ ys)) F → IfOk q (λ v. length (items v) ≡ n)) [
        | Ok v ↦ λ h. ap length h.2 ∙ (sym (length-map h.0 Ok) ∙ (ap length (sym h.1) ∙ (AllZip-long R ns rs zip ∙ count)))
        | Err e ↦ λ h. tt
      ] m

  pub made-fit : (F : E → Type 0) (Q : Note → Type 0) → AllZip (λ n r. IfOk r Q) ns rs → MatchResult made (λ v. (ys : List Note) × (rs ≡ map Ok ys) × (items v ≡ ys)) F → IfOk made (λ v. All Q (items v))
  made-fit F Q zip m =
      elim made as (λ q. MatchResult q (λ v. (ys : List Note) × (rs ≡ map Ok ys) × (items v ≡ ys)) F → IfOk q (λ v. All Q (items v))) [
        | Ok v ↦ λ h. subst (λ ys. All Q ys) (sym h.2) (each ns h.0 (subst (λ r. AllZip (λ n r. IfOk r Q) ns r) h.1 zip))
        | Err e ↦ λ h. tt
      ] m
    where
      each : (ns : List ℕ) (ys : List Note) → AllZip (λ n (r : Result Note E). IfOk r Q) ns (map Ok ys) → All Q ys
      each ns [] zip k d l = absurd (omega (arith, l))
      each [] (y ∷ ys) zip k d l = absurd zip
      each (n ∷ ns) (y ∷ ys) zip zero d l = zip.0
      each (n ∷ ns) (y ∷ ys) zip (suc k) d l = each ns ys zip.1 k d (omega (arith, l))

pub from-zero : (n : ℕ) → length (range_with_len 0 (n - 0)) ≡ n
from-zero n = length-range_with_len 0 (n - 0) ∙ omega arith

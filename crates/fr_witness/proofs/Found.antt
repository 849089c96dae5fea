-- One step more for one alternative more; and what has a step for each alternative undoes the note.
use Rattle.std.proofs.Common.{◌≡◌, ◌<◌, ◌++◌, ◌∷◌, [], List, length, get_or, Option, Some, None, refl, sym, ap, subst, arith, All}
use Rattle.std.specs.Prelude.{Any}
use Rattle.std.proofs.lemmas.List.Elements.{All-push}
use Rattle.std.proofs.lemmas.List.Quantifiers.{Any-push}
use Rattle.fr_program.proofs.ListLemmas.{Any-left}
use Rattle.fr_rules.specs.declared.way.Way.{Way}
use Rattle.fr_notes.specs.Note.{Alternative, Note}
use Rattle.fr_witness.specs.declared.hunt.Hunt.{Hunt}
use Rattle.fr_witness.specs.Hunt.{IsFound, AreFound, IsMade, UndoAll}
use Rattle.fr_witness.specs.Shown.{Taken, Undoes}

module _ (h : Hunt) where
  -- a step that is found by this row
  one-found : (asked : Option Way) (us : List Alternative) (way : Way) (t : Taken) → IsFound h asked us way t → IsFound h (Some way) [] way t
  one-found asked us way t f =
      record { actor = f.actor; before = f.before; taken = f.taken; row = refl; lands = f.lands; undoes = λ k d b. absurd (omega arith) }

  pub grow : (way : Way) (us : List Alternative) (n : Alternative) (ts : List Taken) (t : Taken) → AreFound h way us ts → IsFound h (Some way) (n ∷ []) way t → AreFound h way (us ++ n ∷ []) (ts ++ t ∷ [])
  grow way us n ts t found f = (
    All-push (λ s. IsFound h (Some way) [] way s) ts t found.0 (one-found (Some way) (n ∷ []) way t f),
    All-push (λ m. Any (Undoes h.victim.0 m) (ts ++ t ∷ [])) us n
        (λ k d b. Any-left (Undoes h.victim.0 (get_or us k d)) ts (t ∷ []) (found.1 k d b))
        (Any-push (Undoes h.victim.0 n) ts t (f.undoes 0 n (omega arith))),
  )

  -- the same, of lists that are so by equations
  pub grown : (way : Way) (us us' : List Alternative) (n : Alternative) (ts ts' : List Taken) (t : Taken) → us' ≡ us ++ n ∷ [] → ts' ≡ ts ++ t ∷ [] → AreFound h way us ts → IsFound h (Some way) (n ∷ []) way t → AreFound h way us' ts'
  grown way us us' n ts ts' t e g found f =
      subst (λ vs. AreFound h way vs ts') (sym e) (subst (λ ss. AreFound h way (us ++ n ∷ []) ss) (sym g) (grow way us n ts t found f))

  -- a step that is found is made
  made : (asked : Option Way) (us : List Alternative) (way : Way) (t : Taken) → IsFound h asked us way t → IsMade h way t
  made asked us way t f = (f.actor, f.before, f.taken, f.lands)

  pub single : (us : Note) (way : Way) (t : Taken) → IsFound h None us way t → UndoAll h us (t ∷ [])
  single us way t f = (
    way,
    All-push (λ s. IsMade h way s) [] t (λ k d b. absurd (omega arith)) (made None us way t f),
    ((λ e. cc), (λ k d b. (0, t, omega arith, refl, f.undoes k d b))),
  )

  pub several : (us : Note) (way : Way) (ts : List Taken) → (us ≡ [] → ⊥) → AreFound h way us ts → UndoAll h us ts
  several us way ts some found = (way, (λ k d b. made (Some way) [] way (get_or ts k d) (found.0 k d b)), ((λ e. none us some found.1 e), found.1))
    where
      none : (us : Note) → (us ≡ [] → ⊥) → All (λ n. Any (Undoes h.victim.0 n) ts) us → ts ≡ [] → ⊥
      none [] some any e = some refl
      none (n ∷ us) some any e = let a = any 0 n (omega arith) in let b : a.0 < length ts = a.2 in let c : length ts ≡ 0 = ap length e in absurd (omega (arith, b, c))

-- An output that is looked at is the one that is asked for.
use Rattle.std.proofs.Common.{◌≡◌, ◌∙◌, ℕ, List, Option, None, Some, refl, subst}
use Rattle.std.proofs.lemmas.Option.{same_Some}
use Rattle.std.specs.Prelude.{option_map}
use Rattle.fr_files.specs.declared.outputs.Output.{Output}

-- an output that is looked at is the one that is asked for
pub may-of : (May : List ℕ → Type 0) (output : Option Output) (path : Option (List ℕ)) → option_map (λ o. o.path.now) output ≡ path → ((o : Output) → output ≡ Some o → May o.path.now)
    → (p : List ℕ) → path ≡ Some p → May p
may-of May None path e h p is = let no : ⊥ = cc in absurd no
may-of May (Some o) path e h p is = subst May (same_Some o.path.now p (e ∙ is)) (h o refl)

-- The number at which an actor's name is.
use Rattle.std.proofs.Common.{◌≡◌, ◌≤◌, arith, ℕ, List, [], Bool, Option, Some, None, Bor, length, get_or, slice_get, option_copied, Contains, refl, sym, ap, ◌∙◌, subst}
use Rattle.std.specs.Str.{bytes_eq}
use Rattle.std.specs.Cmp.Lexicographic.{bytes_decides}
use Rattle.std.proofs.lemmas.Bool.{false≢true}
use Rattle.std.proofs.lemmas.Option.{slice_get-get_or}
use Rattle.std.proofs.lemmas.List.Quantifiers.{position-Some}
use Rattle.std.proofs.lemmas.List.Sums.{fails_before_first}
use Rattle.std.proofs.lemmas.Grind.{common_steps}
use Rattle.std.specs.List.{position_or_len}
use Rattle.fr_program.specs.declared.ids.ActorId.{ActorId}
use Rattle.fr_instr.specs.Names.{place_of}
use Rattle.fr_reader.specs.Meaning.{IsOwner}
use Rattle.fr_reader.specs.Stands.{IsNoOwner}
use Rattle.fr_reader.specs.declared.key.Key.TheVariants as key
use Rattle.fr_reader.specs.declared.key.TableName.{TableName}
use Rattle.fr_reader.specs.declared.fault.ReadFault.TheVariants as fault

place_named : (actors : List (List ℕ)) (name : List ℕ) (i : ℕ) → place_of actors name ≡ Some i → slice_get actors i ≡ Some name
place_named actors name i e =
    let at = position-Some (λ v. bytes_eq name v) actors i [] e in
    slice_get-get_or actors i [] at.0 ∙ ap Some (sym ((bytes_decides name (get_or actors i [])).0 at.1))

no_place : (actors : List (List ℕ)) (name : List ℕ) → place_of actors name ≡ None → Contains actors name → ⊥
no_place actors name e there =
    let p : List ℕ → Bool = λ v. bytes_eq name v in
    let far : length actors ≤ position_or_len p actors = grind (arith, common_steps) in
    let fails = fails_before_first p actors there.0 name (omega (arith, far, there.1)) in
    false≢true (sym fails ∙ (bytes_decides name (get_or actors there.0 name)).1 (sym there.2))

pub owner_found : (actors : List (List ℕ)) (owner : Option (Bor (List ℕ))) (name : Bor (List ℕ)) (a : ActorId) → owner ≡ Some name
    → Some a.0 ≡ place_of actors name.now → IsOwner actors (option_copied owner) (Some a)
owner_found actors owner name a is e =
    subst (λ o. IsOwner actors (option_copied o) (Some a)) (sym is) (place_named actors name.now a.0 (sym e))

pub owner_missing : (actors : List (List ℕ)) (t : TableName) (owner : Option (Bor (List ℕ))) (name : Bor (List ℕ)) → owner ≡ Some name
    → None ≡ place_of actors name.now → IsNoOwner actors t (option_copied owner) (fault.WrongType t key.Owner)
owner_missing actors t owner name is e =
    subst (λ o. IsNoOwner actors t (option_copied o) (fault.WrongType t key.Owner)) (sym is) (refl, no_place actors name.now (sym e))

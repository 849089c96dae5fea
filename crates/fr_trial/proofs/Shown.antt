-- A map's entries as the files that they are: what is at a path, and an insertion.
use Rattle.std.proofs.Common.{◌≡◌, ℕ, Bool, true, false, cond, List, [], ◌∷◌, map, Option, Some, Vec, String, BTreeMap, refl, ap, sym, ◌∙◌, string_bytes, option_map}
use Rattle.std.specs.declared.alloc.Global.{Global}
use Rattle.std.specs.String.{string_cmp}
use Rattle.std.specs.Ordering.{nat_cmp}
use Rattle.std.specs.Cmp.Lexicographic.{slice_cmp}
use Rattle.std.specs.BTreeMap.{UpdatesBy, get_by_text, is_at}
use Rattle.std.specs.Map.{lookup}
use Rattle.std.specs.Str.{bytes_eq}
use Rattle.std.proofs.lemmas.Bool.{false_from_ne_true}
use Rattle.std.proofs.lemmas.Map.{update_other}
use Rattle.std.proofs.lemmas.Map.Text.{btree_map_updates_text, is_eq-slice_cmp}
use Rattle.std.proofs.lemmas.Slice.Eq.{bytes_eq-Decides}
use Rattle.fr_trial.specs.Memory.{IsPut, shown}

-- a choice between what two entries hold
chosen : {X Y : Type 0} (f : X → Y) (b : Bool) (x : X) (r : Option Y) (s : Option X) → r ≡ option_map f s → cond b (Some (f x)) r ≡ option_map f (cond b (Some x) s)
chosen f true x r s e = refl
chosen f false x r s e = e

-- the bytes at a path are those of the entry with it
entry-shown : (path : List ℕ) (es : List (String Global × Vec ℕ Global)) → lookup (bytes_eq path) (map shown es) ≡ option_map (λ v. v.items) (lookup (is_at (λ k. slice_cmp nat_cmp path (string_bytes k))) es)
entry-shown path [] = refl
entry-shown path (e ∷ es) =
    rw (is_eq-slice_cmp path (string_bytes e.0)) (chosen (λ v. v.items) (bytes_eq path (string_bytes e.0)) e.1 _ _ (entry-shown path es))

-- the same of a map
pub map-shown : (path : List ℕ) (m : BTreeMap (String Global) (Vec ℕ Global)) → lookup (bytes_eq path) (map shown m.entries) ≡ option_map (λ v. v.items) (get_by_text m path)
map-shown path m = entry-shown path m.entries

-- an insertion gives the file at its path its bytes
pub insert-shown : (m n : BTreeMap (String Global) (Vec ℕ Global)) (protected : List (List ℕ)) (path : List ℕ) (bytes : Vec ℕ Global)
    → UpdatesBy string_cmp (λ k. slice_cmp nat_cmp path (string_bytes k)) m n (Some bytes)
    → IsPut (record { files = map shown m.entries; protected = protected }) path bytes.items (record { files = map shown n.entries; protected = protected })
insert-shown m n protected path bytes updates = record {
  here = map-shown path n ∙ ap (option_map (λ v. v.items)) updates.1;
  others = λ other ne.
      let apart : bytes_eq path other ≡ false = false_from_ne_true _ (λ t. ne (sym ((bytes_eq-Decides path other).0 t))) in
      let same = btree_map_updates_text path m n (Some bytes) updates other ∙ update_other bytes_eq (get_by_text m) path (Some bytes) other apart in
      map-shown other n ∙ ap (option_map (λ v. v.items)) same ∙ sym (map-shown other m);
  protected = refl;
}

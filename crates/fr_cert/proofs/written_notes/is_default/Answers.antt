use Rattle.std.proofs.Common.{◌≡◌, ◌∙◌, ◌↔◌, IsTrue, List, [], ◌∷◌, Bool, true, false, length, refl, sym, ap, rules, arith}
use Rattle.fr_cert.proofs.Terms.{array, object, view, items_view, members_view, Value, Entry, view-Array, view-Object, is_default}
use Rattle.fr_cert.proofs.written_notes.is_default.Goals as goal

empty_list : (b : Bool) (vs : List Value) → (IsTrue b ↔ (length vs ≡ 0)) → b ≡ is_default (array (items_view vs))
empty_list true [] h = refl
empty_list true (v ∷ vs) h = let none = h.0 refl in absurd (omega (arith, none))
empty_list false [] h = h.1 refl
empty_list false (v ∷ vs) h = refl

empty_object : (b : Bool) (es : List Entry) → (IsTrue b ↔ (length es ≡ 0)) → b ≡ is_default (object (members_view es))
empty_object true [] h = refl
empty_object true (e ∷ es) h = let none = h.0 refl in absurd (omega (arith, none))
empty_object false [] h = h.1 refl
empty_object false (e ∷ es) h = refl

pub returns-in-Array : goal.returns-in-Array
returns-in-Array c =
    let list = c.in-Array.list in
    let none : IsTrue c.is_empty.result ↔ (length list.items ≡ 0) = search rules in
    empty_list c.is_empty.result list.items none ∙ ap is_default (sym (view-Array list) ∙ ap view (sym c.in-Array.is))

pub returns-in-Object : goal.returns-in-Object
returns-in-Object c =
    let object = c.in-Object.object in
    empty_object c.is_empty-in-Object.result object.entries c.is_empty-in-Object.ensures ∙ ap is_default (sym (view-Object object) ∙ ap view (sym c.in-Object.is))

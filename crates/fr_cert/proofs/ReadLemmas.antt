-- Notes that are read, each of them once for many entries.
use Rattle.std.proofs.Common.{◌≡◌, ◌<◌, ◌+◌, ℕ, List, [], ◌∷◌, ◌++◌, Some, Any, All, length, get_or, refl, sym, ap, ◌∙◌, subst, arith}
use Rattle.fr_cert.proofs.Terms.{get_or_append_left, get_or_push, length_push, length-map, map_push, All-nil, All-head, All-tail, All-map, All-push, All-weaker, get_item, items_view, view, Value}
use Rattle.fr_cert.proofs.Terms.{items_len-items_view, Program, NoteFits, Note, EachEntry, IsNote, IsReadAt, AreRemembered, AreRead}
use Rattle.fr_notes.specs.Places.{ArePlaces, notes_at}
use Rattle.fr_cert.proofs.EntryLemmas.{entry_push}
use Rattle.fr_cert.proofs.FaultLaws.{each_length}

-- no entry
pub none_read : (P : Program) (version : ℕ) → AreRead P version [] [] [] []
none_read P version = record {
  fit = All-nil (λ n. NoteFits P n);
  there = All-nil (λ k. k < 0);
  means = tt;
  remembered = All-nil (λ e. IsReadAt P version [] e.0 e.1);
}

-- ---- a note more behind the others

places_more : (notes : List Note) (note : Note) (places : List ℕ) → ArePlaces notes places → ArePlaces (notes ++ note ∷ []) places
places_more notes note places h = All-weaker (λ k. k < length notes) (λ k. k < length (notes ++ note ∷ [])) (λ k there. omega (arith, there, length_push notes note)) places h

placed_more : (notes : List Note) (note : Note) (places : List ℕ) → ArePlaces notes places → notes_at (notes ++ note ∷ []) places ≡ notes_at notes places
placed_more notes note [] h = refl
placed_more notes note (k ∷ places) h =
    let here : get_or (notes ++ note ∷ []) k [] ≡ get_or notes k [] = get_or_append_left notes (note ∷ []) [] k (All-head (λ k. k < length notes) k places h) in
    let rest = placed_more notes note places (All-tail (λ k. k < length notes) k places h) in
    ap (λ n. n ∷ notes_at (notes ++ note ∷ []) places) here ∙ ap (λ ns. get_or notes k [] ∷ ns) rest

kept_at : (P : Program) (version : ℕ) (notes : List Note) (note : Note) (v : Value) (place : ℕ) → IsReadAt P version notes v place → IsReadAt P version (notes ++ note ∷ []) v place
kept_at P version notes note v place h = record {
  there = omega (arith, h.there, length_push notes note);
  means = subst (IsNote P version (view v)) (sym (get_or_append_left notes (note ∷ []) [] place h.there)) h.means;
}

-- the value means the note that was put last
pub last_at : (P : Program) (version : ℕ) (notes : List Note) (note : Note) (v : Value) (place : ℕ) → place ≡ length notes → IsNote P version (view v) note → IsReadAt P version (notes ++ note ∷ []) v place
last_at P version notes note v place is h = record {
  there = omega (arith, is, length_push notes note);
  means = subst (IsNote P version (view v)) (sym (get_or_push notes note [] place (sym is))) h;
}

-- what is read stays read, and what is remembered may be less and the new value
pub note_more : (P : Program) (version : ℕ) (entries : List Value) (notes : List Note) (places : List ℕ) (recent left : List (Value × ℕ)) (note : Note) (v : Value) (place : ℕ)
    → ((ns : List Note) → AreRemembered P version ns recent → AreRemembered P version ns left) → NoteFits P note → IsReadAt P version (notes ++ note ∷ []) v place
    → AreRead P version entries notes places recent → AreRead P version entries (notes ++ note ∷ []) places (left ++ (v, place) ∷ [])
note_more P version entries notes places recent left note v place forgets fits there h = record {
  fit = All-push (λ n. NoteFits P n) notes note h.fit fits;
  there = places_more notes note places h.there;
  means = subst (EachEntry (IsNote P version) (items_view entries)) (sym (placed_more notes note places h.there)) h.means;
  remembered = All-push (λ e. IsReadAt P version (notes ++ note ∷ []) e.0 e.1) left (v, place)
      (forgets (notes ++ note ∷ []) (All-weaker (λ e. IsReadAt P version notes e.0 e.1) (λ e. IsReadAt P version (notes ++ note ∷ []) e.0 e.1) (λ e at. kept_at P version notes note e.0 e.1 at) recent h.remembered))
      there;
}

-- ---- an entry more

-- a value that is the same as one that is remembered means the same note
pub remembered_at : (P : Program) (version : ℕ) (notes : List Note) (recent : List (Value × ℕ)) (v : Value) (place : ℕ) → Any (λ e. (view e.0 ≡ view v) × (e.1 ≡ place)) recent → AreRemembered P version notes recent → IsReadAt P version notes v place
remembered_at P version notes recent v place (k, e, within, is, both) h =
    let there : IsReadAt P version notes e.0 e.1 = subst (λ x. IsReadAt P version notes x.0 x.1) is (h k e within) in
    record {
      there = subst (λ p. p < length notes) both.1 there.there;
      means = subst (λ p. IsNote P version (view v) (get_or notes p [])) both.1 (subst (λ d. IsNote P version d (get_or notes e.1 [])) both.0 there.means);
    }

pub entry_more : (P : Program) (version : ℕ) (entries : List Value) (notes : List Note) (places : List ℕ) (recent : List (Value × ℕ)) (v : Value) (place : ℕ)
    → IsReadAt P version notes v place → AreRead P version entries notes places recent → AreRead P version (entries ++ v ∷ []) notes (places ++ place ∷ []) recent
entry_more P version entries notes places recent v place at h =
    let more : notes_at notes (places ++ place ∷ []) ≡ notes_at notes places ++ get_or notes place [] ∷ [] = map_push (λ k. get_or notes k []) places place in
    record {
      fit = h.fit;
      there = All-push (λ k. k < length notes) places place h.there at.there;
      means = subst (EachEntry (IsNote P version) (items_view (entries ++ v ∷ []))) (sym more) (entry_push (IsNote P version) entries v (notes_at notes places) (get_or notes place []) h.means at.means);
      remembered = h.remembered;
    }

-- ---- all entries

-- there are as many places as entries
pub count_read : (P : Program) (version : ℕ) (entries : List Value) (notes : List Note) (places : List ℕ) (recent : List (Value × ℕ)) → AreRead P version entries notes places recent → length places ≡ length entries
count_read P version entries notes places recent h =
    sym (length-map places (λ k. get_or notes k [])) ∙ (each_length (IsNote P version) (items_view entries) (notes_at notes places) h.means ∙ items_len-items_view entries)

-- the entry behind these
pub entry_behind : (front : List Value) (v : Value) (rest : List Value) → get_item (length front) (items_view (front ++ v ∷ rest)) ≡ Some (view v)
entry_behind [] v rest = refl
entry_behind (w ∷ front) v rest = entry_behind front v rest

-- the notes at the places fit
pub placed_fit : (P : Program) (notes : List Note) (places : List ℕ) → All (λ n. NoteFits P n) notes → ArePlaces notes places → All (λ n. NoteFits P n) (notes_at notes places)
placed_fit P notes places fit are = All-map (λ n. NoteFits P n) (λ k. get_or notes k []) places (λ k d within. fit (get_or places k d) [] (are k d within))

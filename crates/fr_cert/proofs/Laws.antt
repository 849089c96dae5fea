-- A text means one certificate at the most: at each level, a value means one thing.
use Rattle.std.proofs.Common.{◌≡◌, ◌<◌, ℕ, ℤ, suc, pos, List, [], ◌∷◌, Bool, true, false, Option, Some, None, bytes_eq, codes, nat_eq, refl, sym, ap, ◌∙◌, subst, inl, inr, arith}
use Rattle.fr_cert.proofs.Terms.{false≢true, Decides-eqb, same_Some, bytes_eq-Decides, Data, Items, no_items, item, Members, no_members, member, null, object, as_array}
use Rattle.fr_cert.proofs.Terms.{as_object, as_str, read, Program, NamesOf, place_of, Note, Certificate, value_for, Guard, Sole, ByMutex, InCritical, Turn, EndGuard, RisesFrom, rises_whole}
use Rattle.fr_cert.proofs.Terms.{none_below, first_value, later_value, AreKnown, is_key_of, key_text, integer_of, end_at, names_in, At, OrDefault, IsObject, IsList, EachEntry, EachMember, IsNamed}
use Rattle.fr_cert.proofs.Terms.{Names, AreNames, IsDepth, AreEnds, IsSpan, NoteText, IsNoteText, note_said, IsAlternative, IsPlainNote, IsNote, AreNotes, IsTurnNumber, AreTurnValues, IsGuardObject}
use Rattle.fr_cert.proofs.Terms.{IsGuard, IsEndName, IsEnd, IsFitEnd, AreFitEnds, IsVersion, IsCertificate, IsTree, Means, Key, Keyed}
use Rattle.fr_program.specs.declared.instr.End.{End as BufferEnd}
use Rattle.fr_program.specs.declared.instr.End.TheVariants.{Writer, Reader}
use Rattle.fr_program.proofs.OptionLemmas.{one_value}
use Rattle.fr_cert.specs.Keys.{field}
use Rattle.fr_cert.specs.declared.key.Key.TheVariants as key
use Rattle.fr_cert.specs.declared.key.Keyed.TheVariants as place
use Rattle.fr_instr.proofs.TokenLaws.{apart as never}

pair : {A B : Type 0} (x y : A × B) → x.0 ≡ y.0 → x.1 ≡ y.1 → x ≡ y
pair x y p q =
    let whole : (x.0, x.1) ≡ (y.0, y.1) = rw (p, q) refl in
    whole

-- ---- values by their shape

-- a value means one thing at the most
abbrev One : {A : Type 0} → (Data → A → Type 0) → Type 0
One {A} M = (d : Data) (x y : A) → M d x → M d y → x ≡ y

-- so do the members of an object
abbrev OneIn : {A : Type 0} → (Members → A → Type 0) → Type 0
OneIn {A} M = (ms : Members) (x y : A) → M ms x → M ms y → x ≡ y

-- and the entries of a list
abbrev OneOf : {A : Type 0} → (Items → A → Type 0) → Type 0
OneOf {A} M = (ds : Items) (x y : A) → M ds x → M ds y → x ≡ y

pub one_at : {A : Type 0} (k : Key) (M : Data → A → Type 0) → One M → OneIn (At k M)
one_at k M one ms x y h g = one h.0 x y h.2 (subst (λ d. M d y) (one_value (field k ms) g.0 h.0 g.1 h.1) g.2)

one_default : {A : Type 0} (default : A) (M : Data → A → Type 0) → One M → (o : Option Data) (x y : A) → OrDefault default M o x → OrDefault default M o y → x ≡ y
one_default default M one None x y h g = h ∙ sym g
one_default default M one (Some d) x y h g = one d x y h g

one_object : {A : Type 0} (M : Members → A → Type 0) → OneIn M → One (IsObject M)
one_object M one d x y h g = one h.0 x y h.2 (subst (λ ms. M ms y) (one_value (as_object d) g.0 h.0 g.1 h.1) g.2)

one_list : {A : Type 0} (M : Items → A → Type 0) → OneOf M → One (IsList M)
one_list M one d x y h g = one h.0 x y h.2 (subst (λ ds. M ds y) (one_value (as_array d) g.0 h.0 g.1 h.1) g.2)

one_entries : {A : Type 0} (M : Data → A → Type 0) → One M → OneOf (EachEntry M)
one_entries M one no_items [] [] h g = refl
one_entries M one no_items [] (y ∷ ys) h g = absurd g
one_entries M one no_items (x ∷ xs) ys h g = absurd h
one_entries M one (item d ds) [] ys h g = absurd h
one_entries M one (item d ds) (x ∷ xs) [] h g = absurd g
one_entries M one (item d ds) (x ∷ xs) (y ∷ ys) h g = rw (one d x y h.0 g.0, one_entries M one ds xs ys h.1 g.1) refl

one_members : {A : Type 0} (M : List ℕ → Data → A → Type 0) → ((name : List ℕ) → One (M name)) → OneIn (EachMember M)
one_members M one no_members [] [] h g = refl
one_members M one no_members [] (y ∷ ys) h g = absurd g
one_members M one no_members (x ∷ xs) ys h g = absurd h
one_members M one (member name d ms) [] ys h g = absurd h
one_members M one (member name d ms) (x ∷ xs) [] h g = absurd g
one_members M one (member name d ms) (x ∷ xs) (y ∷ ys) h g = rw (one name d x y h.0 g.0, one_members M one ms xs ys h.1 g.1) refl

pub one_name : (names : List (List ℕ)) → One (Names names)
one_name names d x y h g = one_value (place_of names h.0) x y h.2 (subst (λ s. place_of names s ≡ Some y) (one_value (as_str d) g.0 h.0 g.1 h.1) g.2)

one_names : (names : List (List ℕ)) → OneOf (AreNames names)
one_names names ds xs ys h g = one_entries (Names names) (one_name names) ds xs ys h.0 g.0

one_depth : One IsDepth
one_depth d n m h g = let e : pos n ≡ pos m = one_value (integer_of d) (pos n) (pos m) h.0 g.0 in cc

one_ends : OneOf AreEnds
one_ends ds r s h g = pair r s (one_value (end_at 0 ds) r.0 s.0 h.lo g.lo) (one_value (end_at 1 ds) r.1 s.1 h.hi g.hi)

one_span : One IsSpan
one_span = one_list AreEnds one_ends

one_named : {A : Type 0} (names : List (List ℕ)) (M : Data → A → Type 0) → One M → OneIn (EachMember (IsNamed names M))
one_named names M one =
    one_members (IsNamed names M) (λ name d x y h g. pair x y (one_value (place_of names name) x.0 y.0 h.0 g.0) (one d x.1 y.1 h.1 g.1))

-- ---- notes

abbrev text_made : List (ℕ × ℕ) → ℕ → ℕ → List ℕ → List ℕ → List (ℕ × (ℤ × ℤ)) → NoteText
text_made held crit susp live dead ranges = record { held = held; crit = crit; susp = susp; live = live; dead = dead; ranges = ranges }

pub one_text : (N : NamesOf) → OneIn (IsNoteText N)
one_text N ms t u h g =
    let held = one_default [] (IsObject (EachMember (IsNamed N.objects IsDepth))) (one_object (EachMember (IsNamed N.objects IsDepth)) (one_named N.objects IsDepth one_depth)) (field key.Held ms) t.held u.held h.held g.held in
    let crit = one_default 0 IsDepth one_depth (field key.Crit ms) t.crit u.crit h.crit g.crit in
    let susp = one_default 0 IsDepth one_depth (field key.Susp ms) t.susp u.susp h.susp g.susp in
    let live = one_default [] (IsList (AreNames N.objects)) (one_list (AreNames N.objects) (one_names N.objects)) (field key.Live ms) t.live u.live h.live g.live in
    let dead = one_default [] (IsList (AreNames N.objects)) (one_list (AreNames N.objects) (one_names N.objects)) (field key.Dead ms) t.dead u.dead h.dead g.dead in
    let ranges = one_default [] (IsObject (EachMember (IsNamed N.variables IsSpan))) (one_object (EachMember (IsNamed N.variables IsSpan)) (one_named N.variables IsSpan one_span)) (field key.Range ms) t.ranges u.ranges h.ranges g.ranges in
    let whole : text_made t.held t.crit t.susp t.live t.dead t.ranges ≡ text_made u.held u.crit u.susp u.live u.dead u.ranges =
    rw (held, crit, susp, live, dead, ranges) refl in
    whole

one_alternative : (P : Program) → OneIn (IsAlternative P)
one_alternative P ms n m h g = h.3 ∙ ap (note_said P) (one_text (names_in P) ms h.0 g.0 h.1 g.1) ∙ sym g.3

one_plain : (P : Program) → One (IsPlainNote P)
one_plain P = one_object (IsAlternative P) (one_alternative P)

-- no value is two of an object, a list and a text
pub apart : (d : Data) (ms : Members) (s : List ℕ) → as_object d ≡ Some ms → as_str d ≡ Some s → ⊥
apart null ms s h k = cc
apart d ms s h k = cc

pub list_apart : (d : Data) (ds : Items) (s : List ℕ) → as_array d ≡ Some ds → as_str d ≡ Some s → ⊥
list_apart null ds s h k = cc
list_apart d ds s h k = cc

pub object_apart : (d : Data) (ms : Members) (ds : Items) → as_object d ≡ Some ms → as_array d ≡ Some ds → ⊥
object_apart null ms ds h k = cc
object_apart d ms ds h k = cc

one_note : (P : Program) (version : ℕ) → One (IsNote P version)
one_note P version d x y (inl h) (inl g) = h.1 ∙ sym g.1
one_note P version d x y (inl h) (inr (inl g)) = absurd (apart d g.1.0 (codes "never") g.1.1 h.0)
one_note P version d x y (inl h) (inr (inr g)) = absurd (list_apart d g.1.0 (codes "never") g.1.1 h.0)
one_note P version d x y (inr (inl h)) (inl g) = absurd (apart d h.1.0 (codes "never") h.1.1 g.0)
one_note P version d x y (inr (inl h)) (inr (inl g)) = h.2 ∙ ap (λ n. n ∷ []) (one_plain P d h.0 g.0 h.1 g.1) ∙ sym g.2
one_note P version d x y (inr (inl h)) (inr (inr g)) = absurd (object_apart d h.1.0 g.1.0 h.1.1 g.1.1)
one_note P version d x y (inr (inr h)) (inl g) = absurd (list_apart d h.1.0 (codes "never") h.1.1 g.0)
one_note P version d x y (inr (inr h)) (inr (inl g)) = absurd (object_apart d g.1.0 h.1.0 g.1.1 h.1.1)
one_note P version d x y (inr (inr h)) (inr (inr g)) = one_list (EachEntry (IsPlainNote P)) (one_entries (IsPlainNote P) (one_plain P)) d x y h.1 g.1

-- ---- the values of a turn: lists that rise by actor and give each actor the same are the same

-- the two lists begin with one actor: if one began below the other, that one would lack it
first_below : (v w : ℕ × ℤ) (vs ws : List (ℕ × ℤ)) (least : ℕ) → RisesFrom least (w ∷ ws) → v.0 < w.0 → value_for (v ∷ vs) v.0 ≡ value_for (w ∷ ws) v.0 → ⊥
first_below v w vs ws least h less same =
    never (value_for (w ∷ ws) v.0) v.1 (none_below (w ∷ ws) w.0 v.0 (omega arith, h.1) less) (sym same ∙ first_value v vs)

rising_same : (vs ws : List (ℕ × ℤ)) (least : ℕ) → RisesFrom least vs → RisesFrom least ws → ((a : ℕ) → value_for vs a ≡ value_for ws a) → vs ≡ ws
rising_same [] [] least h g same = refl
rising_same [] (w ∷ ws) least h g same = absurd (never (value_for (w ∷ ws) w.0) w.1 (sym (same w.0)) (first_value w ws))
rising_same (v ∷ vs) [] least h g same = absurd (never (value_for (v ∷ vs) v.0) v.1 (same v.0) (first_value v vs))
rising_same (v ∷ vs) (w ∷ ws) least h g same =
    let no_less : v.0 < w.0 → ⊥ = λ less. first_below v w vs ws least g less (same v.0) in
    let no_more : w.0 < v.0 → ⊥ = λ less. first_below w v ws vs least h less (sym (same w.0)) in
    let actor : v.0 ≡ w.0 = omega (arith, no_less, no_more) in
    let value : v.1 ≡ w.1 = same_Some v.1 w.1 (sym (first_value v vs) ∙ same v.0 ∙ ap (value_for (w ∷ ws)) actor ∙ first_value w ws) in
    let first : v ≡ w = pair v w actor value in
    let rest : vs ≡ ws = rising_same vs ws (suc v.0) h.1 (subst (λ a. RisesFrom (suc a) ws) (sym actor) g.1) (later first) in
    rw (first, rest) refl
  where
    later : v ≡ w → (a : ℕ) → value_for vs a ≡ value_for ws a
    later first a = go (nat_eq v.0 a) refl
      where
        go : (b : Bool) → nat_eq v.0 a ≡ b → value_for vs a ≡ value_for ws a
        go true e =
            let here : v.0 ≡ a = (Decides-eqb v.0 a).0 e in
            let there : w.0 ≡ a = ap (λ x. x.0) (sym first) ∙ here in
            none_below vs (suc v.0) a h.1 (omega (arith, here)) ∙ sym (none_below ws (suc w.0) a g.1 (omega (arith, there)))
        go false e =
            let other : v.0 ≡ a → ⊥ = λ is. false≢true (sym e ∙ (Decides-eqb v.0 a).1 is) in
            sym (later_value v vs a other) ∙ same a ∙ later_value w ws a (λ is. other (ap (λ x. x.0) first ∙ is))

-- ---- guards

one_number : One IsTurnNumber
one_number d x y h g = one_value (integer_of d) x y h.0 g.0

one_turn : (N : NamesOf) → OneIn (AreTurnValues N)
one_turn N ms x y h g =
    let given : g.0 ≡ h.0 = one_named N.actors IsTurnNumber one_number ms g.0 h.0 g.1 h.1 in
    rising_same x y 0 (rises_whole x h.2) (rises_whole y g.2) (λ a. h.3 a ∙ sym (g.3 a ∙ ap (λ vs. value_for vs a) given))

-- an object has no key that is unknown at its place
pub unknown : (p : Keyed) (k : Key) (ms : Members) (d : Data) → AreKnown p ms → field k ms ≡ Some d → is_key_of p (key_text k) ≡ false → ⊥
unfolding field
unknown p k ms d h e hidden = false≢true (sym hidden ∙ h (key_text k) d e)

one_guard_object : (N : NamesOf) → OneIn (IsGuardObject N)
one_guard_object N ms (Sole a) (Sole b) h g = ap Sole (one_at key.Sole (Names N.actors) (one_name N.actors) ms a b h.1 g.1)
one_guard_object N ms (Sole a) (ByMutex m) h g = absurd (unknown place.Sole key.Mutex ms g.1.0 h.0 g.1.1 refl)
one_guard_object N ms (Sole a) InCritical h g = absurd g
one_guard_object N ms (Sole a) (Turn x vs) h g = absurd (unknown place.Sole key.Turn ms g.1.0 h.0 g.1.1 refl)
one_guard_object N ms (ByMutex m) (Sole a) h g = absurd (unknown place.Mutex key.Sole ms g.1.0 h.0 g.1.1 refl)
one_guard_object N ms (ByMutex m) (ByMutex n) h g = ap ByMutex (one_at key.Mutex (Names N.objects) (one_name N.objects) ms m n h.1 g.1)
one_guard_object N ms (ByMutex m) InCritical h g = absurd g
one_guard_object N ms (ByMutex m) (Turn x vs) h g = absurd (unknown place.Mutex key.Turn ms g.1.0 h.0 g.1.1 refl)
one_guard_object N ms InCritical other h g = absurd h
one_guard_object N ms (Turn x vs) (Sole a) h g = absurd (unknown place.Turn key.Sole ms g.1.0 h.0 g.1.1 refl)
one_guard_object N ms (Turn x vs) (ByMutex m) h g = absurd (unknown place.Turn key.Mutex ms g.1.0 h.0 g.1.1 refl)
one_guard_object N ms (Turn x vs) InCritical h g = absurd g
one_guard_object N ms (Turn x vs) (Turn y ws) h g =
    let variable = one_at key.Turn (Names N.variables) (one_name N.variables) ms x y h.1 g.1 in
    let values = one_at key.Values (IsObject (AreTurnValues N)) (one_object (AreTurnValues N) (one_turn N)) ms vs ws h.2 g.2 in
    rw (variable, values) refl

one_guard : (N : NamesOf) → One (IsGuard N)
one_guard N d x y (inl h) (inl g) = h.1 ∙ sym g.1
one_guard N d x y (inl h) (inr g) = absurd (apart d g.0 (codes "critical") g.1 h.0)
one_guard N d x y (inr h) (inl g) = absurd (apart d h.0 (codes "critical") h.1 g.0)
one_guard N d x y (inr h) (inr g) = one_object (IsGuardObject N) (one_guard_object N) d x y h g

-- ---- ends

-- two texts that differ are not the same
differ : (s t : List ℕ) → bytes_eq s t ≡ false → s ≡ t → ⊥
differ s t apart_ same = false≢true (sym apart_ ∙ (bytes_eq-Decides s t).1 same)

one_end_name : One IsEndName
one_end_name d Writer Writer h g = refl
one_end_name d Writer Reader h g = absurd (differ (codes "writer") (codes "reader") refl (one_value (as_str d) (codes "writer") (codes "reader") h g))
one_end_name d Reader Writer h g = absurd (differ (codes "reader") (codes "writer") refl (one_value (as_str d) (codes "reader") (codes "writer") h g))
one_end_name d Reader Reader h g = refl

abbrev end_made : ℕ → BufferEnd → Guard → EndGuard
end_made buffer end guard = record { buffer = buffer; end = end; guard = guard }

pub one_end : (N : NamesOf) → OneIn (IsEnd N)
one_end N ms e f h g =
    let buffer = one_at key.Buffer (Names N.objects) (one_name N.objects) ms e.buffer f.buffer h.buffer g.buffer in
    let end = one_at key.End IsEndName one_end_name ms e.end f.end h.end g.end in
    let guard = one_at key.Guard (IsGuard N) (one_guard N) ms e.guard f.guard h.guard g.guard in
    let whole : end_made e.buffer e.end e.guard ≡ end_made f.buffer f.end f.guard = rw (buffer, end, guard) refl in
    whole

pub one_end_value : (N : NamesOf) → One (IsObject (IsEnd N))
one_end_value N = one_object (IsEnd N) (one_end N)

-- ---- the whole

pub one_version : One IsVersion
one_version d n m h g = let e : pos n ≡ pos m = one_value (integer_of d) (pos n) (pos m) h.0 g.0 in cc

abbrev certificate_made : List Note → List EndGuard → Certificate
certificate_made notes ends = record { notes = notes; ends = ends }

one_certificate : (P : Program) → OneIn (IsCertificate P)
one_certificate P ms C D h g =
    let version = one_at key.Version IsVersion one_version ms h.version g.version h.numbered g.numbered in
    let each_end : OneOf (AreFitEnds P) = λ ds es fs p q. one_entries (IsFitEnd P) (λ d e f m n. one_end_value (names_in P) d e f m.0 n.0) ds es fs p.0 q.0 in
    let ends = one_at key.Ends (IsList (AreFitEnds P)) (one_list (AreFitEnds P) each_end) ms C.ends D.ends h.ends g.ends in
    let there = subst (λ v. At key.Notes (IsList (AreNotes P v)) ms D.notes) (sym version) g.notes in
    let each_note : OneOf (AreNotes P h.version) = λ ds xs ys p q. one_entries (IsNote P h.version) (one_note P h.version) ds xs ys p.0 q.0 in
    let notes = one_at key.Notes (IsList (AreNotes P h.version)) (one_list (AreNotes P h.version) each_note) ms C.notes D.notes h.notes there in
    let whole : certificate_made C.notes C.ends ≡ certificate_made D.notes D.ends = rw (notes, ends) refl in
    whole

pub one_meaning : (P : Program) (bytes : List ℕ) (C D : Certificate) → Means P bytes C → Means P bytes D → C ≡ D
one_meaning P bytes C D h g =
    let tree : g.tree ≡ h.tree = one_value (read bytes) g.tree h.tree g.text.parsed h.text.parsed in
    one_object (IsCertificate P) (one_certificate P) h.tree C D h.means (subst (λ d. IsTree P d D) tree g.means)

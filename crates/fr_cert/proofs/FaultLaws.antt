-- Bytes in which a fault is present mean no certificate: at each level, a value that means something has no fault of
-- that level.
use Rattle.std.proofs.Common.{◌≡◌, ◌<◌, ◌≤◌, ◌<ℤ◌, ◌≤ℤ◌, ℕ, ℤ, zero, suc, pos, List, [], ◌∷◌, Some, None, AllPairs, ◌⊎◌, codes, length, get_or, refl, sym, ap, ◌∙◌, subst, arith, inl, inr}
use Rattle.fr_cert.proofs.Terms.{false≢true, ints, Data, Items, no_items, item, Members, no_members, member, items_len, get_item, as_array, as_object, as_str, read, Program, IsNumber, NamesOf}
use Rattle.fr_cert.proofs.Terms.{place_of, Note, Certificate, Sole, ByMutex, InCritical, Turn, EndGuard, EndFits, AreOfOneEnd, AreKnown, field, integer_of, end_at, names_in, At, OrDefault, IsObject}
use Rattle.fr_cert.proofs.Terms.{IsList, EachEntry, EachMember, IsNamed, Names, AreNames, IsDepth, AreEnds, IsSpan, NoteText, IsNoteText, NoteTextFits, IsTurnNumber, AreTurnValues, IsAlternative}
use Rattle.fr_cert.proofs.Terms.{IsPlainNote, IsNote, AreNotes, IsGuardObject, IsGuard, IsEndName, IsEnd, IsFitEnd, AreFitEnds, IsVersion, IsCertificate, Means, InKeys, InField, InNeeded, InObject}
use Rattle.fr_cert.proofs.Terms.{InList, InEntries, InMembers, InNamed, InDepth, InName, IsTwice, InNames, InEnds, InSpan, InKeysOfNote, InAlternative, InAlternatives, InNote, InNotes, InTurnValue}
use Rattle.fr_cert.proofs.Terms.{InGuardObject, InGuard, InEndName, InKeysOfEnd, InEnd, InAllEnds, InVersion, InCertificate, InTree, InBytes, IsPresent, Key, Keyed, CertFault}
use Rattle.fr_cert.specs.declared.key.Key.TheVariants as key
use Rattle.fr_cert.specs.declared.key.Keyed.TheVariants as place
use Rattle.fr_cert.specs.declared.fault.CertFault.TheVariants as fault
use Rattle.fr_program.proofs.OptionLemmas.{one_value}
use Rattle.fr_cert.proofs.Laws.{one_at, one_name, one_text, one_version, one_end, one_end_value, unknown, apart, list_apart, object_apart}
use Rattle.fr_cert.proofs.EntryLemmas.{each_both}
use Rattle.fr_instr.proofs.TokenLaws.{apart as never}

-- ---- values by their shape

-- what means something has no such fault
abbrev Free : {A : Type 0} → (Data → A → Type 0) → (Data → CertFault → Type 0) → Type 0
Free {A} M F = (d : Data) (x : A) (f : CertFault) → M d x → F d f → ⊥

-- so it is with the members of an object
abbrev FreeIn : {A : Type 0} → (Members → A → Type 0) → (Members → CertFault → Type 0) → Type 0
FreeIn {A} M F = (ms : Members) (x : A) (f : CertFault) → M ms x → F ms f → ⊥

-- and with the entries of a list
abbrev FreeOf : {A : Type 0} → (Items → A → Type 0) → (Items → CertFault → Type 0) → Type 0
FreeOf {A} M F = (ds : Items) (x : A) (f : CertFault) → M ds x → F ds f → ⊥

free_keys : (p : Keyed) (ms : Members) (f : CertFault) → AreKnown p ms → InKeys p ms f → ⊥
free_keys p ms f h s = false≢true (sym s.3 ∙ h s.0 s.1 s.2)

free_field : {A : Type 0} (k : Key) (M : Data → A → Type 0) (F : Data → CertFault → Type 0) → Free M F → FreeIn (At k M) (InField k F)
free_field k M F free ms x f h s = free h.0 x s.2.0 h.2 (subst (λ d. F d s.2.0) (one_value (field k ms) s.0 h.0 s.1 h.1) s.2.1)

free_needed : {A : Type 0} (k : Key) (M : Data → A → Type 0) (F : Data → CertFault → Type 0) → Free M F → FreeIn (At k M) (InNeeded k F)
free_needed k M F free ms x f h (inl s) = never (field k ms) h.0 s.0 h.1
free_needed k M F free ms x f h (inr s) = free_field k M F free ms x f h s

free_default : {A : Type 0} (k : Key) (default : A) (M : Data → A → Type 0) (F : Data → CertFault → Type 0) → Free M F
    → (ms : Members) (x : A) (f : CertFault) → OrDefault default M (field k ms) x → InField k F ms f → ⊥
free_default k default M F free ms x f h s = free s.0 x s.2.0 (subst (λ o. OrDefault default M o x) s.1 h) s.2.1

free_object : {A : Type 0} (M : Members → A → Type 0) (F : Members → CertFault → Type 0) → FreeIn M F → Free (IsObject M) (InObject F)
free_object M F free d x f h (inl s) = never (as_object d) h.0 s.0 h.1
free_object M F free d x f h (inr s) = free h.0 x f h.2 (subst (λ ms. F ms f) (one_value (as_object d) s.0 h.0 s.1 h.1) s.2)

free_list : {A : Type 0} (M : Items → A → Type 0) (F : Items → CertFault → Type 0) → FreeOf M F → Free (IsList M) (InList F)
free_list M F free d x f h (inl s) = never (as_array d) h.0 s.0 h.1
free_list M F free d x f h (inr s) = free h.0 x f h.2 (subst (λ ds. F ds f) (one_value (as_array d) s.0 h.0 s.1 h.1) s.2)

entry_there : {A : Type 0} (M : Data → A → Type 0) (ds : Items) (xs : List A) (i : ℕ) (d : Data) → EachEntry M ds xs → get_item i ds ≡ Some d → (x : A) × M d x
entry_there M no_items xs i d h e = absurd (never None d refl e)
entry_there M (item y ds) [] i d h e = absurd h
entry_there M (item y ds) (x ∷ xs) zero d h e = (x, subst (λ z. M z x) (one_value (Some y) y d refl e) h.0)
entry_there M (item y ds) (x ∷ xs) (suc i) d h e = entry_there M ds xs i d h.1 e

free_entries : {A : Type 0} (M : Data → A → Type 0) (F : Data → CertFault → Type 0) → Free M F → FreeOf (EachEntry M) (InEntries F)
free_entries M F free ds xs f h s =
    let there = entry_there M ds xs s.0 s.1 h s.2 in
    free s.1 there.0 s.3.0 there.1 s.3.1

free_members : {A : Type 0} (M : List ℕ → Data → A → Type 0) (F : List ℕ → Data → CertFault → Type 0) → ((name : List ℕ) → Free (M name) (F name)) → FreeIn (EachMember M) (InMembers F)
free_members M F free no_members xs f h s = s
free_members M F free (member name d ms) [] f h s = absurd h
free_members M F free (member name d ms) (x ∷ xs) f h (inl s) = free name d x f h.0 s
free_members M F free (member name d ms) (x ∷ xs) f h (inr s) = free_members M F free ms xs f h.1 s

free_named : {A : Type 0} (names : List (List ℕ)) (M : Data → A → Type 0) (F : Data → CertFault → Type 0) → Free M F → FreeIn (EachMember (IsNamed names M)) (InMembers (InNamed names F))
free_named {A} names M F free = free_members (IsNamed names M) (InNamed names F) here
  where
    here : (name : List ℕ) → Free (IsNamed names M name) (InNamed names F name)
    here name d x f h (inl s) = never (place_of names name) x.0 s.0 h.0
    here name d x f h (inr s) = free d x.1 s.0 h.1 s.1

free_name : (names : List (List ℕ)) → Free (Names names) (InName names)
free_name names d n f h (inl s) = never (as_str d) h.0 s.0 h.1
free_name names d n f h (inr s) = never (place_of names h.0) n (subst (λ t. place_of names t ≡ None) (one_value (as_str d) s.0 h.0 s.1 h.1) s.2) h.2

-- what an entry means is at its place
meant_at : {A : Type 0} (M : Data → A → Type 0) → ((d : Data) (x y : A) → M d x → M d y → x ≡ y) → (ds : Items) (xs : List A) (i : ℕ) (d : Data) (x e : A)
    → EachEntry M ds xs → get_item i ds ≡ Some d → M d x → (i < length xs) × (get_or xs i e ≡ x)
meant_at M one no_items xs i d x e h is m = absurd (never None d refl is)
meant_at M one (item y ds) [] i d x e h is m = absurd h
meant_at M one (item y ds) (z ∷ xs) zero d x e h is m = (omega arith, one d z x (subst (λ w. M w z) (one_value (Some y) y d refl is) h.0) m)
meant_at M one (item y ds) (z ∷ xs) (suc i) d x e h is m = let rest = meant_at M one ds xs i d x e h.1 is m in (omega (arith, rest.0), rest.1)

-- and with entries no two of which are alike
free_once : {A : Type 0} (M : Data → A → Type 0) (F : Data → CertFault → Type 0) (AreAlike : A → A → Type 0) (twice : CertFault) → ((d : Data) (x y : A) → M d x → M d y → x ≡ y) → Free M F
    → FreeOf (λ ds xs. EachEntry M ds xs × AllPairs (λ x y. AreAlike x y → ⊥) xs) (λ ds f. InEntries F ds f ⊎ IsTwice M AreAlike twice ds f)
free_once M F AreAlike twice one free ds xs f h (inl s) = free_entries M F free ds xs f h.0 s
free_once M F AreAlike twice one free ds xs f h (inr s) =
    let x = meant_at M one ds xs s.0 s.2 s.4 s.4 h.0 s.7 s.9 in
    let y = meant_at M one ds xs s.1 s.3 s.5 s.4 h.0 s.8 s.10 in
    h.1 s.0 s.1 s.4 s.6 y.0 (subst (λ e. AreAlike e (get_or xs s.1 s.4)) (sym x.1) (subst (AreAlike s.4) (sym y.1) s.11))

free_names : (names : List (List ℕ)) → FreeOf (AreNames names) (InNames names)
free_names names = free_once (Names names) (InName names) (λ n m. n ≡ m) (fault.Note []) (one_name names) (free_name names)

free_depth : Free IsDepth InDepth
free_depth d n f h (inl s) = never (integer_of d) (pos n) s.0 h.0
free_depth d n f h (inr s) = s.2 n h.1 (one_value (integer_of d) s.0 (pos n) s.1 h.0)

no_order : (lo hi : ℤ) (r : ℤ × ℤ) → lo ≡ r.0 → hi ≡ r.1 → hi <ℤ lo → r.0 ≤ℤ r.1 → ⊥
no_order lo hi r p q less most = absurd (omega (arith, ints, p, q, less, most))

free_ends : FreeOf AreEnds InEnds
free_ends ds r f h (inl s) = never (end_at 0 ds) r.0 s.0 h.lo
free_ends ds r f h (inr (inl s)) = never (end_at 1 ds) r.1 s.0 h.hi
free_ends ds r f h (inr (inr (inl s))) = never (get_item 2 ds) s.0 h.only s.1
free_ends ds r f h (inr (inr (inr s))) = no_order s.0 s.1 r (one_value (end_at 0 ds) s.0 r.0 s.2 h.lo) (one_value (end_at 1 ds) s.1 r.1 s.3 h.hi) s.4 h.order

free_span : Free IsSpan InSpan
free_span = free_list AreEnds InEnds free_ends

-- ---- notes

free_name_list : (N : NamesOf) → Free (IsList (AreNames N.objects)) (InList (InNames N.objects))
free_name_list N = free_list (AreNames N.objects) (InNames N.objects) (free_names N.objects)

free_counts : (N : NamesOf) → Free (IsObject (EachMember (IsNamed N.objects IsDepth))) (InObject (InMembers (InNamed N.objects InDepth)))
free_counts N = free_object (EachMember (IsNamed N.objects IsDepth)) (InMembers (InNamed N.objects InDepth)) (free_named N.objects IsDepth InDepth free_depth)

free_ranges : (N : NamesOf) → Free (IsObject (EachMember (IsNamed N.variables IsSpan))) (InObject (InMembers (InNamed N.variables InSpan)))
free_ranges N = free_object (EachMember (IsNamed N.variables IsSpan)) (InMembers (InNamed N.variables InSpan)) (free_named N.variables IsSpan InSpan free_span)

free_keys_of_note : (N : NamesOf) (ms : Members) (text : NoteText) (f : CertFault) → IsNoteText N ms text → InKeysOfNote N ms f → ⊥
free_keys_of_note N ms text f h (inl s) = free_keys place.Note ms f h.only s
free_keys_of_note N ms text f h (inr (inl s)) = free_default key.Held [] (IsObject (EachMember (IsNamed N.objects IsDepth))) (InObject (InMembers (InNamed N.objects InDepth))) (free_counts N) ms text.held f h.held s
free_keys_of_note N ms text f h (inr (inr (inl s))) = free_default key.Crit 0 IsDepth InDepth free_depth ms text.crit f h.crit s
free_keys_of_note N ms text f h (inr (inr (inr (inl s)))) = free_default key.Susp 0 IsDepth InDepth free_depth ms text.susp f h.susp s
free_keys_of_note N ms text f h (inr (inr (inr (inr (inl s))))) = free_default key.Live [] (IsList (AreNames N.objects)) (InList (InNames N.objects)) (free_name_list N) ms text.live f h.live s
free_keys_of_note N ms text f h (inr (inr (inr (inr (inr (inl s)))))) = free_default key.Dead [] (IsList (AreNames N.objects)) (InList (InNames N.objects)) (free_name_list N) ms text.dead f h.dead s
free_keys_of_note N ms text f h (inr (inr (inr (inr (inr (inr s)))))) = free_default key.Range [] (IsObject (EachMember (IsNamed N.variables IsSpan))) (InObject (InMembers (InNamed N.variables InSpan))) (free_ranges N) ms text.ranges f h.ranges s

free_alternative : (P : Program) → FreeIn (IsAlternative P) (InAlternative P)
free_alternative P ms n f h (inl s) = free_keys_of_note (names_in P) ms h.0 f h.1 s
free_alternative P ms n f h (inr s) = s.2 (subst (NoteTextFits P) (one_text (names_in P) ms h.0 s.0 h.1 s.1) h.2)

free_plain : (P : Program) → Free (IsPlainNote P) (InObject (InAlternative P))
free_plain P = free_object (IsAlternative P) (InAlternative P) (free_alternative P)

-- there are as many things as entries
pub each_length : {A : Type 0} (M : Data → A → Type 0) (ds : Items) (xs : List A) → EachEntry M ds xs → length xs ≡ items_len ds
each_length M no_items [] h = refl
each_length M no_items (x ∷ xs) h = absurd h
each_length M (item d ds) [] h = absurd h
each_length M (item d ds) (x ∷ xs) h = ap suc (each_length M ds xs h.1)

free_alternatives : (P : Program) (ds : Items) (note : Note) (f : CertFault) → EachEntry (IsPlainNote P) ds note → 1 ≤ length note → length note ≤ 4 → InAlternatives P ds f → ⊥
free_alternatives P ds note f h some few (inl (inl s, e)) = absurd (omega (arith, each_length (IsPlainNote P) ds note h, some, s))
free_alternatives P ds note f h some few (inl (inr s, e)) = absurd (omega (arith, each_length (IsPlainNote P) ds note h, few, s))
free_alternatives P ds note f h some few (inr s) = free_entries (IsPlainNote P) (InObject (InAlternative P)) (free_plain P) ds note f h s

free_note : (P : Program) (version : ℕ) → Free (IsNote P version) (InNote P version)
free_note P version d note f (inl h) (inl s) = s.1 h.0
free_note P version d note f (inl h) (inr (inl s)) = apart d s.0 (codes "never") s.1 h.0
free_note P version d note f (inl h) (inr (inr s)) = list_apart d s.1 (codes "never") s.2 h.0
free_note P version d note f (inr (inl h)) (inl s) = never (as_object d) h.1.0 s.0 h.1.1
free_note P version d note f (inr (inl h)) (inr (inl s)) = free_plain P d h.0 f h.1 (inr s)
free_note P version d note f (inr (inl h)) (inr (inr s)) = object_apart d h.1.0 s.1 h.1.1 s.2
free_note P version d note f (inr (inr h)) (inl s) = never (as_array d) h.1.0 (s.2 h.0) h.1.1
free_note P version d note f (inr (inr h)) (inr (inl s)) = object_apart d s.0 h.1.0 s.1 h.1.1
free_note P version d note f (inr (inr h)) (inr (inr s)) =
    free_alternatives P h.1.0 note f h.1.2 h.2 h.3 (subst (λ ds. InAlternatives P ds f) (one_value (as_array d) s.1 h.1.0 s.2 h.1.1) s.3)

free_notes : (P : Program) (version : ℕ) → FreeOf (AreNotes P version) (InNotes P version)
free_notes P version ds notes f h (inl s) = s.0 (sym (each_length (IsNote P version) ds notes h.0) ∙ h.1)
free_notes P version ds notes f h (inr s) = free_entries (IsNote P version) (InNote P version) (free_note P version) ds notes f h.0 s

-- ---- guards

free_number : Free IsTurnNumber InTurnValue
free_number d z f h (inl s) = never (integer_of d) z s.0 h.0
free_number d z f h (inr s) = s.2 (subst IsNumber (one_value (integer_of d) z s.0 h.0 s.1) h.1)

free_values : (N : NamesOf) → FreeIn (AreTurnValues N) (InMembers (InNamed N.actors InTurnValue))
free_values N ms values f h s = free_named N.actors IsTurnNumber InTurnValue free_number ms h.0 f h.1 s

-- an object lacks a key that it has
lacks : {A : Type 0} (k : Key) (M : Data → A → Type 0) (ms : Members) (x : A) → At k M ms x → field k ms ≡ None → ⊥
lacks k M ms x h none = never (field k ms) h.0 none h.1

free_guard_object : (N : NamesOf) → FreeIn (IsGuardObject N) (InGuardObject N)
free_guard_object N ms (Sole a) f h (inl (has, inl s)) = free_keys place.Sole ms f h.0 s
free_guard_object N ms (Sole a) f h (inl (has, inr s)) = free_needed key.Sole (Names N.actors) (InName N.actors) (free_name N.actors) ms a f h.1 s
free_guard_object N ms (Sole a) f h (inr (inl s)) = lacks key.Sole (Names N.actors) ms a h.1 s.0
free_guard_object N ms (Sole a) f h (inr (inr s)) = lacks key.Sole (Names N.actors) ms a h.1 s.0
free_guard_object N ms (ByMutex m) f h (inl (has, s)) = unknown place.Mutex key.Sole ms has.0 h.0 has.1 refl
free_guard_object N ms (ByMutex m) f h (inr (inl (none, has, inl s))) = free_keys place.Mutex ms f h.0 s
free_guard_object N ms (ByMutex m) f h (inr (inl (none, has, inr s))) = free_needed key.Mutex (Names N.objects) (InName N.objects) (free_name N.objects) ms m f h.1 s
free_guard_object N ms (ByMutex m) f h (inr (inr s)) = lacks key.Mutex (Names N.objects) ms m h.1 s.1
free_guard_object N ms InCritical f h s = h
free_guard_object N ms (Turn x values) f h (inl (has, s)) = unknown place.Turn key.Sole ms has.0 h.0 has.1 refl
free_guard_object N ms (Turn x values) f h (inr (inl (none, has, s))) = unknown place.Turn key.Mutex ms has.0 h.0 has.1 refl
free_guard_object N ms (Turn x values) f h (inr (inr (no_sole, no_mutex, inl s))) = free_keys place.Turn ms f h.0 s
free_guard_object N ms (Turn x values) f h (inr (inr (no_sole, no_mutex, inr (inl s)))) = free_needed key.Turn (Names N.variables) (InName N.variables) (free_name N.variables) ms x f h.1 s
free_guard_object N ms (Turn x values) f h (inr (inr (no_sole, no_mutex, inr (inr s)))) =
    free_needed key.Values (IsObject (AreTurnValues N)) (InObject (InMembers (InNamed N.actors InTurnValue))) (free_object (AreTurnValues N) (InMembers (InNamed N.actors InTurnValue)) (free_values N)) ms values f h.2 s

free_guard : (N : NamesOf) → Free (IsGuard N) (InGuard N)
free_guard N d g f (inl h) (inl s) = s.1 h.0
free_guard N d g f (inl h) (inr s) = apart d s.0 (codes "critical") s.1 h.0
free_guard N d g f (inr h) (inl s) = never (as_object d) h.0 s.0 h.1
free_guard N d g f (inr h) (inr s) = free_object (IsGuardObject N) (InGuardObject N) (free_guard_object N) d g f h (inr s)

-- ---- ends

free_end_name : Free IsEndName InEndName
free_end_name d end f h s = s.0 end h

free_keys_of_end : (N : NamesOf) (ms : Members) (e : EndGuard) (f : CertFault) → IsEnd N ms e → InKeysOfEnd N ms f → ⊥
free_keys_of_end N ms e f h (inl s) = free_keys place.End ms f h.only s
free_keys_of_end N ms e f h (inr (inl s)) = free_needed key.Buffer (Names N.objects) (InName N.objects) (free_name N.objects) ms e.buffer f h.buffer s
free_keys_of_end N ms e f h (inr (inr (inl s))) = free_needed key.End IsEndName InEndName free_end_name ms e.end f h.end s
free_keys_of_end N ms e f h (inr (inr (inr s))) = free_needed key.Guard (IsGuard N) (InGuard N) (free_guard N) ms e.guard f h.guard s

free_end : (P : Program) (ms : Members) (e : EndGuard) (f : CertFault) → IsEnd (names_in P) ms e → EndFits P e → InEnd P ms f → ⊥
free_end P ms e f h fits (inl s) = free_keys_of_end (names_in P) ms e f h s
free_end P ms e f h fits (inr s) = s.2 (subst (EndFits P) (one_end (names_in P) ms e s.0 h s.1) fits)

free_fit_end : (P : Program) → Free (IsFitEnd P) (InObject (InEnd P))
free_fit_end P d e f h (inl s) = never (as_object d) h.0.0 s.0 h.0.1
free_fit_end P d e f h (inr s) = free_end P h.0.0 e f h.0.2 h.1 (subst (λ ms. InEnd P ms f) (one_value (as_object d) s.0 h.0.0 s.1 h.0.1) s.2)

free_all_ends : (P : Program) → FreeOf (AreFitEnds P) (InAllEnds P)
free_all_ends P ds es f h (inl s) = free_entries (IsFitEnd P) (InObject (InEnd P)) (free_fit_end P) ds es f h.0 s
free_all_ends P ds es f h (inr s) =
    let M = IsObject (IsEnd (names_in P)) in
    free_once M (λ d g. ⊥) AreOfOneEnd (fault.EndTwice []) (one_end_value (names_in P)) (λ d e g means never_. never_) ds es f ((each_both M (EndFits P) ds es h.0).0, h.1) (inr s)

-- ---- the whole

free_version : Free IsVersion InVersion
free_version d v f h (inl s) = never (integer_of d) (pos v) s.0 h.0
free_version d v f (h, inl is) (inr s) = s.2 (one_value (integer_of d) s.0 (pos v) s.1 h ∙ ap pos is)
free_version d v f (h, inr is) (inr s) = s.3 (one_value (integer_of d) s.0 (pos v) s.1 h ∙ ap pos is)

free_certificate : (P : Program) → FreeIn (IsCertificate P) (InCertificate P)
free_certificate P ms C f h (inl s) = free_keys place.Certificate ms f h.only s
free_certificate P ms C f h (inr (inl s)) = free_needed key.Version IsVersion InVersion free_version ms h.version f h.numbered s
free_certificate P ms C f h (inr (inr (inl s))) =
    free_needed key.Ends (IsList (AreFitEnds P)) (InList (InAllEnds P)) (free_list (AreFitEnds P) (InAllEnds P) (free_all_ends P)) ms C.ends f h.ends s
free_certificate P ms C f h (inr (inr (inr s))) =
    let N = AreNotes P h.version in
    let F = InNotes P h.version in
    let version : s.0 ≡ h.version = one_at key.Version IsVersion one_version ms s.0 h.version s.1 h.numbered in
    let there : InNeeded key.Notes (InList F) ms f = subst (λ v. InNeeded key.Notes (InList (InNotes P v)) ms f) version s.2 in
    free_needed key.Notes (IsList N) (InList F) (free_list N F (free_notes P h.version)) ms C.notes f h.notes there

free_bytes : (P : Program) (bytes : List ℕ) (C : Certificate) (f : CertFault) → Means P bytes C → InBytes bytes f → ⊥
free_bytes P bytes C fault.TooLong h s = absurd (omega (arith, h.text.size, s))
free_bytes P bytes C fault.Json h s = never (read bytes) h.tree (s h.text.utf8) h.text.parsed
free_bytes P bytes C f h s = absurd s

pub no_meaning : (P : Program) (bytes : List ℕ) (f : CertFault) (C : Certificate) → IsPresent P bytes f → Means P bytes C → ⊥
no_meaning P bytes f C (inl s) h = free_bytes P bytes C f h s
no_meaning P bytes f C (inr s) h =
    free_object (IsCertificate P) (InCertificate P) (free_certificate P) h.tree C f h.means (subst (λ d. InTree P d f) (one_value (read bytes) s.0 h.tree s.1.parsed h.text.parsed) s.2)

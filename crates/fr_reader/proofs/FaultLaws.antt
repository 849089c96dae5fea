-- Bytes in which a fault is present mean no application.
-- A table that means something has a value that suits at each of its keys, so no fault of keys is present in it; and
-- what the texts say has each name, owner and line, so no fault of those is present either.
use Rattle.std.proofs.Common.{◌≡◌, ◌≢◌, ℕ, zero, suc, ◌<◌, List, [], ◌∷◌, ◌++◌, true, false, Option, Some, None, option_map, length, slice_get, AllPairs, Contains, refl, sym, ap, ◌∙◌, subst, arith, inl, inr, string_bytes, IsTrue, length-append}
use Rattle.std.specs.List.{AllZip}
use Rattle.std.proofs.lemmas.Option.{same_Some}
use Rattle.std.proofs.lemmas.Bool.{false≢true}
use Rattle.std.proofs.lemmas.List.Elements.{All-contains}
use Rattle.std.proofs.lemmas.List.{get_or_append_left}
use Rattle.std.proofs.Math.Seq.{get_or-append_seam}
use Rattle.toml.specs.Data.{Data, string, integer, boolean, array, table, Items, no_items, item, Members, get_item, as_str}
use Rattle.toml.specs.Parse.{parse_document}
use Rattle.fr_program.specs.declared.parts.Kind.{Kind}
use Rattle.fr_program.specs.declared.parts.Kind.TheVariants as kind
use Rattle.fr_program.specs.Program.{Program, VariableOf, ObjectOf, ActorOf}
use Rattle.fr_program.specs.Limits.{IsName}
use Rattle.fr_program.specs.Fault.{IsFreeOf}
use Rattle.fr_program.proofs.FaultLemmas.{free_of}
use Rattle.fr_instr.specs.Names.{NamesOf}
use Rattle.fr_instr.specs.Lines.{IsLine}
use Rattle.fr_instr.proofs.LineLaws.{no_line}
use Rattle.fr_instr.proofs.TokenLaws.{apart}
use Rattle.fr_reader.specs.Keys.{key_text, field, suits, is_own_key, IsKeyOf, IsRequired, kind_word, kind_named, actor_word}
use Rattle.fr_reader.specs.Texts.{VariableText, ActorText, Texts, AreKnown, IsVariable, IsObject, IsActor, HasKind, IsTableOf, IsText, Each, EachAt, AreTexts}
use Rattle.fr_reader.specs.Faults.{is_memory, InTable, InVariable, InKind, InObject, InActor, InEntry, InEntryAt, InLine as InLineOf, InEach, InEachAt, InApplication}
use Rattle.fr_reader.specs.Meaning.{names_in, actors_in, lists_in, AreNames, IsOwner, IsOwned, IsCoded, Says, Means}
use Rattle.fr_reader.specs.Stands.{StandsTwice, InNames, IsNoOwner, InOwners, InLines, InCode, InBuild, InTexts, InBytes, Stands}
use Rattle.fr_reader.specs.declared.key.Key.{Key}
use Rattle.fr_reader.specs.declared.key.Key.TheVariants as key
use Rattle.fr_reader.specs.declared.key.TableKind.{TableKind}
use Rattle.fr_reader.specs.declared.key.TableKind.TheVariants as table_kind
use Rattle.fr_reader.specs.declared.key.TableName.{TableName}
use Rattle.fr_reader.specs.declared.key.TableName.TheVariants as name
use Rattle.fr_reader.specs.declared.fault.ReadFault.{ReadFault}
use Rattle.fr_reader.specs.declared.fault.ReadFault.TheVariants as fault
use Rattle.fr_program.proofs.OptionLemmas.{one_value}
use Rattle.fr_reader.proofs.Laws.{same_array, same_table, same_kind, text_at, at_get, one_texts, one_program}

-- what is at a key suits it, and only a key that is not required may be missing
abbrev Fits : Key → Option Data → Type 0
Fits k None = IsRequired k → ⊥
Fits k (Some d) = suits k d ≡ true

-- so at each key that such a table may have, and it has no other
record IsShaped (table_kind : TableKind) (ms : Members) : Type 0 where
  fits : (k : Key) → IsKeyOf table_kind k → Fits k (field k ms)
  only : AreKnown table_kind ms

fits_some : (k : Key) (o : Option Data) (d : Data) → o ≡ Some d → suits k d ≡ true → Fits k o
fits_some k o d e suit = subst (Fits k) (sym e) suit

in_no_table : (table_kind : TableKind) (n : TableName) (ms : Members) (f : ReadFault) → IsShaped table_kind ms → InTable table_kind n ms f → ⊥
in_no_table table_kind n ms (fault.Missing t k) h (at, known, required, none) = let fits : IsRequired k → ⊥ = subst (Fits k) none (h.fits k known) in fits required
in_no_table table_kind n ms (fault.WrongType t k) h (at, d, is, wrong, known) =
    let fits : suits k d ≡ true = subst (Fits k) is (h.fits k known) in
    false≢true (sym wrong ∙ fits)
in_no_table table_kind n ms (fault.UnknownKey t s) h (at, d, is, unknown) = false≢true (sym unknown ∙ h.only (string_bytes s) d is)
in_no_table table_kind n ms f h s = absurd s

owner_fits : (o : Option (List ℕ)) → Fits key.Owner (option_map string o)
owner_fits None = λ r. r
owner_fits (Some t) = refl

variable_fits : (ms : Members) (v : VariableText) → IsVariable ms v → (k : Key) → IsKeyOf table_kind.Variable k → Fits k (field k ms)
variable_fits ms v h key.Name known = fits_some key.Name (field key.Name ms) (string v.name) h.name refl
variable_fits ms v h key.Lo known = fits_some key.Lo (field key.Lo ms) (integer v.lo) h.lo refl
variable_fits ms v h key.Hi known = fits_some key.Hi (field key.Hi ms) (integer v.hi) h.hi refl
variable_fits ms v h key.Init known = fits_some key.Init (field key.Init ms) (integer v.init) h.init refl
variable_fits ms v h key.Owner known = subst (Fits key.Owner) (sym h.owner) (owner_fits v.owner)
variable_fits ms v h k known = absurd (false≢true known)

in_no_variable : (n : TableName) (ms : Members) (v : VariableText) (f : ReadFault) → IsVariable ms v → InVariable n ms f → ⊥
in_no_variable n ms v f h s = in_no_table table_kind.Variable n ms f (record { fits = variable_fits ms v h; only = h.only }) s

own_fits : (j : Kind) (ms : Members) → HasKind ms j → (k : Key) → IsTrue (is_own_key (kind_named j) (key_text k)) → Fits k (field k ms)
own_fits (kind.Queue s l h) ms own key.Size known = fits_some key.Size (field key.Size ms) (integer s) own.0 refl
own_fits (kind.Queue s l h) ms own key.Lo known = fits_some key.Lo (field key.Lo ms) (integer l) own.1 refl
own_fits (kind.Queue s l h) ms own key.Hi known = fits_some key.Hi (field key.Hi ms) (integer h) own.2 refl
own_fits (kind.Counting s f) ms own key.Size known = fits_some key.Size (field key.Size ms) (integer s) own.0 refl
own_fits (kind.Counting s f) ms own key.First known = fits_some key.First (field key.First ms) (integer f) own.1 refl
own_fits (kind.Stream s) ms own key.Size known = fits_some key.Size (field key.Size ms) (integer s) own refl
own_fits (kind.Message s) ms own key.Size known = fits_some key.Size (field key.Size ms) (integer s) own refl
own_fits j ms own k known = absurd (false≢true known)

object_fits : (ms : Members) (o : ObjectOf) → IsObject ms o → (k : Key) → IsKeyOf (table_kind.Object (kind_named o.kind)) k → Fits k (field k ms)
object_fits ms o h key.Name known = fits_some key.Name (field key.Name ms) (string o.name) h.name refl
object_fits ms o h key.Kind known = fits_some key.Kind (field key.Kind ms) (string (kind_word (kind_named o.kind))) h.kind refl
object_fits ms o h key.Live known = fits_some key.Live (field key.Live ms) (boolean o.live) h.live refl
object_fits ms o h k known = own_fits o.kind ms h.own k known

-- a table whose `kind` is a known word has no fault there
in_no_kind : {K : Type 0} (word : K → List ℕ) (n : TableName) (ms : Members) (j : K) (f : ReadFault) → field key.Kind ms ≡ Some (string (word j)) → InKind word n ms f → ⊥
in_no_kind word n ms j (fault.Missing t key.Kind) e (at, none) = apart (field key.Kind ms) (string (word j)) none e
in_no_kind word n ms j (fault.WrongType t key.Kind) e (at, d, is, other) = other j (ap as_str (one_value (field key.Kind ms) d (string (word j)) is e))
in_no_kind word n ms j f e s = absurd s

in_no_object : (n : TableName) (ms : Members) (o : ObjectOf) (f : ReadFault) → IsObject ms o → InObject n ms f → ⊥
in_no_object n ms o f h (inl s) = in_no_kind kind_word n ms (kind_named o.kind) f h.kind s
in_no_object n ms o f h (inr s) =
    let same = same_kind s.0 (kind_named o.kind) (text_at (field key.Kind ms) (kind_word s.0) (kind_word (kind_named o.kind)) s.1 h.kind) in
    in_no_table (table_kind.Object (kind_named o.kind)) n ms f (record { fits = object_fits ms o h; only = h.only }) (subst (λ k. InTable (table_kind.Object k) n ms f) same s.2)

-- an entry that has a fault means nothing, so neither does its list
thing_at : {A : Type 0} (R : Data → A → Type 0) (ds : Items) (xs : List A) (i : ℕ) (d : Data) → Each R ds xs → get_item i ds ≡ Some d → (x : A) × R d x
thing_at R no_items xs i d h e = absurd (apart None d refl e)
thing_at R (item y ds) [] i d h e = absurd h
thing_at R (item y ds) (x ∷ xs) zero d h e = (x, subst (λ z. R z x) (same_Some y d e) h.0)
thing_at R (item y ds) (x ∷ xs) (suc i) d h e = thing_at R ds xs i d h.1 e

in_no_each : {A : Type 0} (R : Data → A → Type 0) (F : ℕ → Data → ReadFault → Type 0) (f : ReadFault) → ((i : ℕ) (d : Data) (x : A) → R d x → F i d f → ⊥)
    → (ds : Items) (xs : List A) → Each R ds xs → InEach F ds f → ⊥
in_no_each R F f none ds xs h s = let there = thing_at R ds xs s.0 s.1 h s.2 in none s.0 s.1 there.0 there.1 s.3

in_no_at : {A : Type 0} (R : Data → A → Type 0) (F : ℕ → Data → ReadFault → Type 0) (f : ReadFault) → ((i : ℕ) (d : Data) (x : A) → R d x → F i d f → ⊥)
    → (o : Option Data) (xs : List A) → EachAt R o xs → InEachAt F o f → ⊥
in_no_at R F f none None xs h s = s
in_no_at R F f none (Some (array ds)) xs h s = in_no_each R F f none ds xs h s
in_no_at R F f none (Some d) xs h s = absurd h

in_no_entry : {A : Type 0} (list : Key) (n : TableName) (R : Members → A → Type 0) (F : Members → ReadFault → Type 0) (f : ReadFault) → ((ms : Members) (x : A) → R ms x → F ms f → ⊥)
    → (d : Data) (x : A) → IsTableOf R d x → InEntry list n F d f → ⊥
in_no_entry list n R F f none (table ms) x h s = none h.0 x h.2 (subst (λ m. F m f) (same_table ms h.0 h.1) s)
in_no_entry list n R F f none d x h s = let e = h.1 in cc

in_no_list : {A : Type 0} (list : Key) (named : ℕ → TableName) (R : Members → A → Type 0) (F : TableName → Members → ReadFault → Type 0) (f : ReadFault)
    → ((n : TableName) (ms : Members) (x : A) → R ms x → F n ms f → ⊥) → (o : Option Data) (xs : List A) → EachAt (IsTableOf R) o xs → InEachAt (InEntryAt list named F) o f → ⊥
in_no_list list named R F f none = in_no_at (IsTableOf R) (InEntryAt list named F) f (λ i. in_no_entry list (named i) R (F (named i)) f (none (named i)))

in_no_line : (n : TableName) (f : ReadFault) (d : Data) (t : List ℕ) → IsText d t → InLineOf n d f → ⊥
in_no_line n f d t h s = apart (as_str d) t s.1 (ap as_str h)

actor_fits : (ms : Members) (a : ActorText) → IsActor ms a → (k : Key) → IsKeyOf table_kind.Actor k → Fits k (field k ms)
actor_fits ms a h key.Name known = fits_some key.Name (field key.Name ms) (string a.name) h.name refl
actor_fits ms a h key.Kind known = fits_some key.Kind (field key.Kind ms) (string (actor_word a.kind)) h.kind refl
actor_fits ms a h key.Code known = fits_some key.Code (field key.Code ms) (array h.code.0) h.code.1 refl
actor_fits ms a h k known = absurd (false≢true known)

in_no_actor : (n : TableName) (ms : Members) (a : ActorText) (f : ReadFault) → IsActor ms a → InActor n ms f → ⊥
in_no_actor n ms a f h (inl s) = in_no_kind actor_word n ms a.kind f h.kind s
in_no_actor n ms a f h (inr (inl s)) = in_no_table table_kind.Actor n ms f (record { fits = actor_fits ms a h; only = h.only }) s
in_no_actor n ms a f h (inr (inr s)) =
    let same = same_array s.0 h.code.0 (one_value (field key.Code ms) (array s.0) (array h.code.0) s.1 h.code.1) in
    in_no_each IsText (λ i. InLineOf n) f (λ i. in_no_line n f) h.code.0 a.lines h.code.2 (subst (λ ds. InEach (λ i. InLineOf n) ds f) same s.2)

list_fits : {A : Type 0} (R : Data → A → Type 0) (k : Key) → (IsRequired k → ⊥) → ((ds : Items) → suits k (array ds) ≡ true) → (o : Option Data) (xs : List A) → EachAt R o xs → Fits k o
list_fits R k free suit None xs h = free
list_fits R k free suit (Some (array ds)) xs h = suit ds
list_fits R k free suit (Some d) xs h = absurd h

root_fits : (root : Members) (t : Texts) → AreTexts root t → (k : Key) → IsKeyOf table_kind.Application k → Fits k (field k root)
root_fits root t h key.Variable known = list_fits (IsTableOf IsVariable) key.Variable (λ r. r) (λ ds. refl) (field key.Variable root) t.variables h.variables
root_fits root t h key.Object known = list_fits (IsTableOf IsObject) key.Object (λ r. r) (λ ds. refl) (field key.Object root) t.objects h.objects
root_fits root t h key.Actor known = list_fits (IsTableOf IsActor) key.Actor (λ r. r) (λ ds. refl) (field key.Actor root) t.actors h.actors
root_fits root t h k known = absurd (false≢true known)

in_no_application : (root : Members) (t : Texts) (f : ReadFault) → AreTexts root t → InApplication root f → ⊥
in_no_application root t f h (inl s) = in_no_table table_kind.Application name.Whole root f (record { fits = root_fits root t h; only = h.only }) s
in_no_application root t f h (inr (inl s)) = in_no_list key.Variable name.Variable IsVariable InVariable f (λ n ms v. in_no_variable n ms v f) (field key.Variable root) t.variables h.variables s
in_no_application root t f h (inr (inr (inl s))) = in_no_list key.Object name.Object IsObject InObject f (λ n ms o. in_no_object n ms o f) (field key.Object root) t.objects h.objects s
in_no_application root t f h (inr (inr (inr s))) = in_no_list key.Actor name.Actor IsActor InActor f (λ n ms a. in_no_actor n ms a f) (field key.Actor root) t.actors h.actors s

-- ---- faults of texts

not_twice : (names : List (List ℕ)) (name : List ℕ) → AllPairs (λ x y. x ≢ y) names → StandsTwice names name → ⊥
not_twice names name once (before, after, is, there) =
    let pairs : AllPairs (λ x y. x ≢ y) (before ++ name ∷ after) = subst (AllPairs (λ x y. x ≢ y)) is once in
    let inside : length before < length (before ++ name ∷ after) = subst (λ n. length before < n) (sym (length-append before (name ∷ after))) (omega arith) in
    pairs there.0 (length before) name there.1 inside (get_or_append_left before (name ∷ after) name there.0 there.1 ∙ there.2 ∙ sym (get_or-append_seam before name after name))

in_no_names : (names : List (List ℕ)) (f : ReadFault) → AreNames names → InNames names f → ⊥
in_no_names names (fault.BadName t) h s = s.1 (All-contains IsName names (string_bytes t) h.each s.0)
in_no_names names (fault.Twice t) h s = not_twice names (string_bytes t) h.once s
in_no_names names f h s = absurd s

pair_at : {A B : Type 0} (R : A → B → Type 0) (xs : List A) (ys : List B) (i : ℕ) (x : A) → AllZip R xs ys → slice_get xs i ≡ Some x → (y : B) × R x y
pair_at R [] ys i x h e = absurd (apart None x refl e)
pair_at R (z ∷ xs) [] i x h e = absurd h
pair_at R (z ∷ xs) (y ∷ ys) zero x h e = (y, subst (λ u. R u y) (same_Some z x e) h.0)
pair_at R (z ∷ xs) (y ∷ ys) (suc i) x h e = pair_at R xs ys i x h.1 e

owner_there : (actors : List (List ℕ)) (i : ℕ) (name : List ℕ) → slice_get actors i ≡ Some name → Contains actors name
owner_there actors i name e = let at = at_get actors i name e in (i, at.0, at.1)

has_owner : (actors : List (List ℕ)) (t : TableName) (o : Option (List ℕ)) (v : VariableOf) (f : ReadFault) → IsOwner actors o v.owner → IsNoOwner actors t o f → ⊥
has_owner actors t None v f h s = s
has_owner actors t (Some owner) v f h s = owned v.owner h
  where
    owned : (a : _) → IsOwner actors (Some owner) a → ⊥
    owned None k = k
    owned (Some a) k = s.1 (owner_there actors a.0 owner k)

in_no_owners : (actors : List (List ℕ)) (texts : List VariableText) (vs : List VariableOf) (f : ReadFault) → AllZip (IsOwned actors) texts vs → InOwners actors texts f → ⊥
in_no_owners actors texts vs f h s =
    let there = pair_at (IsOwned actors) texts vs s.0 s.1 h s.2 in
    has_owner actors (name.Variable s.0) s.1.owner there.0 f there.1.owner s.3

in_no_lines : (names : NamesOf) (actor : List ℕ) (lines : List (List ℕ)) (code : List _) (f : ReadFault) → AllZip (IsLine names) lines code → InLines names actor lines f → ⊥
in_no_lines names actor lines code (fault.Line a i e) h s =
    let there = pair_at (IsLine names) lines code s.0 s.1 h s.2 in
    no_line names s.1 e there.0 s.3.2 there.1
in_no_lines names actor lines code f h s = s.3

in_no_code : (names : NamesOf) (texts : List ActorText) (actors : List ActorOf) (f : ReadFault) → AllZip (IsCoded names) texts actors → InCode names texts f → ⊥
in_no_code names texts actors f h s =
    let there = pair_at (IsCoded names) texts actors s.0 s.1 h s.2 in
    in_no_lines names s.1.name s.1.lines there.0.code f there.1.code s.3

in_no_texts : (t : Texts) (P : Program) (f : ReadFault) (names : AreNames (names_in t)) (says : Says t P) → (InBuild t f → ⊥) → InTexts t f → ⊥
in_no_texts t P f names says free (inl s) = in_no_names (names_in t) f names s
in_no_texts t P f names says free (inr (n, inl s)) = in_no_owners (actors_in t) t.variables P.variables f says.variables s
in_no_texts t P f names says free (inr (n, inr (inl s))) = in_no_code (lists_in t) t.actors P.actors f says.actors s.2
in_no_texts t P f names says free (inr (n, inr (inr s))) = free s

not_built : (bytes : List ℕ) (P : Program) (f : ReadFault) → (m : Means bytes P) → InBuild m.texts f → ⊥
not_built bytes P (fault.Build b) m s =
    s.2 (subst (λ Q. IsFreeOf Q b) (one_program m.texts P s.0 m.names m.says s.1) (free_of P b m.faultless))
not_built bytes P f m s = absurd s

in_no_bytes : (bytes : List ℕ) (P : Program) (f : ReadFault) → Means bytes P → InBytes bytes f → ⊥
in_no_bytes bytes P fault.TooLong m s = omega (arith, s, m.text.size)
in_no_bytes bytes P fault.Toml m s = apart (parse_document bytes) m.root (s m.text.utf8) m.text.parsed
in_no_bytes bytes P f m s = absurd s

pub no_meaning : (bytes : List ℕ) (f : ReadFault) (P : Program) → is_memory f ≡ false → Stands bytes f → Means bytes P → ⊥
no_meaning bytes f P named (inl s) m = in_no_bytes bytes P f m s
no_meaning bytes f P named (inr (root, text, inl s)) m =
    let same = one_value (parse_document bytes) root m.root text.parsed m.text.parsed in
    in_no_application m.root m.texts f m.tables (subst (λ r. InApplication r f) same s)
no_meaning bytes f P named (inr (root, text, inr (t, tables, s))) m =
    let same = one_value (parse_document bytes) root m.root text.parsed m.text.parsed in
    let texts = one_texts m.root t m.texts (subst (λ r. AreTexts r t) same tables) m.tables in
    in_no_texts m.texts P f m.names m.says (not_built bytes P f m) (subst (λ u. InTexts u f) texts s)

-- What bytes mean is one application at the most, and none where a fault is present.
-- A table determines what it says key by key, a list place by place, a program by its names and lines; and each fault
-- denies what a key, a place, a name or a line has.
use Rattle.std.proofs.Common.{◌≡◌, ◌≢◌, ℕ, ℤ, codes, zero, suc, ◌+◌, ◌<◌, List, [], ◌∷◌, ◌++◌, Bool, Option, Some, None, option_map, length, map, get_or, slice_get, AllPairs, refl, sym, ap, ◌∙◌, subst, arith, if◌then◌else◌, length-append}
use Rattle.std.specs.List.{AllZip}
use Rattle.std.specs.Str.{bytes_eq}
use Rattle.std.proofs.lemmas.Option.{same_Some}
use Rattle.std.proofs.lemmas.List.{get_or-append-add}
use Rattle.toml.specs.Data.{Data, string, integer, boolean, array, table, Items, no_items, item, Members}
use Rattle.toml.specs.Parse.{parse_document}
use Rattle.fr_program.specs.declared.ids.ActorId.{ActorId}
use Rattle.fr_program.specs.declared.instr.Instr.{Instr}
use Rattle.fr_program.specs.declared.parts.Kind.{Kind}
use Rattle.fr_program.specs.declared.parts.Kind.TheVariants as kind
use Rattle.fr_program.specs.declared.parts.ActorKind.{ActorKind}
use Rattle.fr_program.specs.declared.parts.ActorKind.TheVariants as actor
use Rattle.fr_program.specs.Program.{Program, VariableOf, ObjectOf, ActorOf}
use Rattle.fr_program.proofs.OptionLemmas.{one_value}
use Rattle.fr_program.proofs.PointLemmas.{same-actor}
use Rattle.fr_instr.specs.Names.{NamesOf}
use Rattle.fr_instr.specs.Lines.{IsLine}
use Rattle.fr_instr.proofs.LineLaws.{one_line}
use Rattle.fr_reader.specs.Keys.{field, kind_word, kind_named, actor_word}
use Rattle.fr_reader.specs.Texts.{VariableText, ActorText, Texts, IsVariable, IsObject, IsActor, HasKind, IsTableOf, IsText, Each, EachAt, AreTexts}
use Rattle.fr_reader.specs.Meaning.{names_in, actors_in, lists_in, AreNames, IsOwner, IsOwned, IsCoded, Says, Means}
use Rattle.fr_reader.specs.declared.key.Key.TheVariants as key
use Rattle.fr_reader.specs.declared.key.ObjectKind.{ObjectKind}
use Rattle.fr_reader.specs.declared.key.ObjectKind.TheVariants.{Queue, Binary, Counting, Mutex, Recursive, Stream, Message}

same_string : (s t : List ℕ) → string s ≡ string t → s ≡ t
same_string s t e = cc

same_integer : (s t : ℤ) → integer s ≡ integer t → s ≡ t
same_integer s t e = cc

same_boolean : (s t : Bool) → boolean s ≡ boolean t → s ≡ t
same_boolean s t e = cc

pub same_array : (s t : Items) → array s ≡ array t → s ≡ t
same_array s t e = cc

pub same_table : (s t : Members) → table s ≡ table t → s ≡ t
same_table s t e = cc

pub text_at : (o : Option Data) (s t : List ℕ) → o ≡ Some (string s) → o ≡ Some (string t) → s ≡ t
text_at o s t p q = same_string s t (one_value o (string s) (string t) p q)

number_at : (o : Option Data) (s t : ℤ) → o ≡ Some (integer s) → o ≡ Some (integer t) → s ≡ t
number_at o s t p q = same_integer s t (one_value o (integer s) (integer t) p q)

-- ---- one meaning of a table

same_owner : (o p : Option (List ℕ)) → option_map string o ≡ option_map string p → o ≡ p
same_owner None None e = refl
same_owner None (Some t) e = cc
same_owner (Some s) None e = cc
same_owner (Some s) (Some t) e = cc

abbrev variable_made : List ℕ → ℤ → ℤ → ℤ → Option (List ℕ) → VariableText
variable_made n l h i o = record { name = n; lo = l; hi = h; init = i; owner = o }

one_variable : (ms : Members) (v w : VariableText) → IsVariable ms v → IsVariable ms w → v ≡ w
one_variable ms v w h k =
    let whole : variable_made v.name v.lo v.hi v.init v.owner ≡ variable_made w.name w.lo w.hi w.init w.owner =
    rw (text_at (field key.Name ms) v.name w.name h.name k.name, number_at (field key.Lo ms) v.lo w.lo h.lo k.lo, number_at (field key.Hi ms) v.hi w.hi h.hi k.hi, number_at (field key.Init ms) v.init w.init h.init k.init, same_owner v.owner w.owner (sym h.owner ∙ k.owner)) refl in
    whole

-- the kind whose word this is
kind_of : List ℕ → ObjectKind
kind_of t =
    if bytes_eq t (codes "queue") then Queue else if bytes_eq t (codes "binary") then Binary else if bytes_eq t (codes "counting") then Counting
    else if bytes_eq t (codes "mutex") then Mutex else if bytes_eq t (codes "recursive") then Recursive else if bytes_eq t (codes "stream") then Stream else Message

kind_of-word : (k : ObjectKind) → kind_of (kind_word k) ≡ k
unfolding kind_of
kind_of-word Queue = refl
kind_of-word k = refl

pub same_kind : (j k : ObjectKind) → kind_word j ≡ kind_word k → j ≡ k
same_kind j k e = sym (kind_of-word j) ∙ ap kind_of e ∙ kind_of-word k

same_actor_kind : (j k : ActorKind) → actor_word j ≡ actor_word k → j ≡ k
same_actor_kind actor.Task actor.Task e = refl
same_actor_kind actor.Interrupt actor.Interrupt e = refl
same_actor_kind actor.Task actor.Interrupt e = cc
same_actor_kind actor.Interrupt actor.Task e = cc

one_kind : (ms : Members) (j k : Kind) → kind_named j ≡ kind_named k → HasKind ms j → HasKind ms k → j ≡ k
one_kind ms (kind.Queue s l h) (kind.Queue t m i) e p q =
    rw (number_at (field key.Size ms) s t p.0 q.0, number_at (field key.Lo ms) l m p.1 q.1, number_at (field key.Hi ms) h i p.2 q.2) refl
one_kind ms kind.Binary kind.Binary e p q = refl
one_kind ms (kind.Counting s f) (kind.Counting t g) e p q =
    rw (number_at (field key.Size ms) s t p.0 q.0, number_at (field key.First ms) f g p.1 q.1) refl
one_kind ms kind.Mutex kind.Mutex e p q = refl
one_kind ms kind.Recursive kind.Recursive e p q = refl
one_kind ms (kind.Stream s) (kind.Stream t) e p q = ap kind.Stream (number_at (field key.Size ms) s t p q)
one_kind ms (kind.Message s) (kind.Message t) e p q = ap kind.Message (number_at (field key.Size ms) s t p q)
one_kind ms j k e p q = cc

abbrev object_made : List ℕ → Kind → Bool → ObjectOf
object_made n k l = record { name = n; kind = k; live = l }

one_object : (ms : Members) (o p : ObjectOf) → IsObject ms o → IsObject ms p → o ≡ p
one_object ms o p h k =
    let named = same_kind (kind_named o.kind) (kind_named p.kind) (text_at (field key.Kind ms) _ _ h.kind k.kind) in
    let whole : object_made o.name o.kind o.live ≡ object_made p.name p.kind p.live =
    rw (text_at (field key.Name ms) o.name p.name h.name k.name, one_kind ms o.kind p.kind named h.own k.own, same_boolean o.live p.live (one_value (field key.Live ms) _ _ h.live k.live)) refl in
    whole

one_each : {A : Type 0} (R : Data → A → Type 0) → ((d : Data) (x y : A) → R d x → R d y → x ≡ y) → (ds : Items) (xs ys : List A) → Each R ds xs → Each R ds ys → xs ≡ ys
one_each R one no_items [] [] h k = refl
one_each R one no_items [] (y ∷ ys) h k = absurd k
one_each R one no_items (x ∷ xs) ys h k = absurd h
one_each R one (item d ds) [] ys h k = absurd h
one_each R one (item d ds) (x ∷ xs) [] h k = absurd k
one_each R one (item d ds) (x ∷ xs) (y ∷ ys) h k = rw (one d x y h.0 k.0, one_each R one ds xs ys h.1 k.1) refl

one_table : {A : Type 0} (R : Members → A → Type 0) → ((ms : Members) (x y : A) → R ms x → R ms y → x ≡ y) → (d : Data) (x y : A) → IsTableOf R d x → IsTableOf R d y → x ≡ y
one_table R one d x y h k =
    one h.0 x y h.2 (subst (λ ms. R ms y) (same_table k.0 h.0 (sym k.1 ∙ h.1)) k.2)

one_at : {A : Type 0} (R : Data → A → Type 0) → ((d : Data) (x y : A) → R d x → R d y → x ≡ y) → (o : Option Data) (xs ys : List A) → EachAt R o xs → EachAt R o ys → xs ≡ ys
one_at R one None xs ys h k = h ∙ sym k
one_at R one (Some (array ds)) xs ys h k = one_each R one ds xs ys h k
one_at R one (Some d) xs ys h k = absurd h

one_text : (d : Data) (s t : List ℕ) → IsText d s → IsText d t → s ≡ t
one_text d s t h k = same_string s t (sym h ∙ k)

abbrev actor_made : List ℕ → ActorKind → List (List ℕ) → ActorText
actor_made n k l = record { name = n; kind = k; lines = l }

one_actor : (ms : Members) (a b : ActorText) → IsActor ms a → IsActor ms b → a ≡ b
one_actor ms a b h k =
    let code = same_array k.code.0 h.code.0 (one_value (field key.Code ms) _ _ k.code.1 h.code.1) in
    let lines = one_each IsText one_text h.code.0 a.lines b.lines h.code.2 (subst (λ ds. Each IsText ds b.lines) code k.code.2) in
    let whole : actor_made a.name a.kind a.lines ≡ actor_made b.name b.kind b.lines =
    rw (text_at (field key.Name ms) a.name b.name h.name k.name, same_actor_kind a.kind b.kind (text_at (field key.Kind ms) _ _ h.kind k.kind), lines) refl in
    whole

abbrev texts_made : List VariableText → List ObjectOf → List ActorText → Texts
texts_made vs os xs = record { variables = vs; objects = os; actors = xs }

pub one_texts : (root : Members) (t u : Texts) → AreTexts root t → AreTexts root u → t ≡ u
one_texts root t u h k =
    let whole : texts_made t.variables t.objects t.actors ≡ texts_made u.variables u.objects u.actors =
    rw (
      one_at (IsTableOf IsVariable) (one_table IsVariable one_variable) (field key.Variable root) t.variables u.variables h.variables k.variables,
      one_at (IsTableOf IsObject) (one_table IsObject one_object) (field key.Object root) t.objects u.objects h.objects k.objects,
      one_at (IsTableOf IsActor) (one_table IsActor one_actor) (field key.Actor root) t.actors u.actors h.actors k.actors,
    ) refl in
    whole

-- ---- one meaning of texts

one_zip : {A B : Type 0} (R : A → B → Type 0) → ((x : A) (y z : B) → R x y → R x z → y ≡ z) → (xs : List A) (ys zs : List B) → AllZip R xs ys → AllZip R xs zs → ys ≡ zs
one_zip R one [] [] [] h k = refl
one_zip R one [] [] (z ∷ zs) h k = absurd k
one_zip R one [] (y ∷ ys) zs h k = absurd h
one_zip R one (x ∷ xs) [] zs h k = absurd h
one_zip R one (x ∷ xs) (y ∷ ys) [] h k = absurd k
one_zip R one (x ∷ xs) (y ∷ ys) (z ∷ zs) h k = rw (one x y z h.0 k.0, one_zip R one xs ys zs h.1 k.1) refl

pairs_after : {A : Type 0} (R : A → A → Type 0) (xs ys : List A) → AllPairs R (xs ++ ys) → AllPairs R ys
pairs_after {A = A} R xs ys h i j d before below =
    let P : A → Type 0 = λ x. R x (get_or ys j d) in
    let Q : A → Type 0 = λ y. R (get_or (xs ++ ys) (length xs + i) d) y in
    subst P (get_or-append-add xs ys i d) (subst Q (get_or-append-add xs ys j d)
    (h (length xs + i) (length xs + j) d (omega (arith, before)) (subst (λ n. length xs + j < n) (sym (length-append xs ys)) (omega (arith, below)))))

pub at_get : {A : Type 0} (xs : List A) (i : ℕ) (x : A) → slice_get xs i ≡ Some x → (i < length xs) × (get_or xs i x ≡ x)
at_get [] i x e = cc
at_get (y ∷ xs) zero x e = (omega arith, same_Some y x e)
at_get (y ∷ xs) (suc i) x e = let rest = at_get xs i x e in (omega (arith, rest.0), rest.1)

same_or : (a b : ℕ) → (a < b → ⊥) → (b < a → ⊥) → a ≡ b
same_or zero zero f g = refl
same_or zero (suc b) f g = absurd (f (omega arith))
same_or (suc a) zero f g = absurd (g (omega arith))
same_or (suc a) (suc b) f g = ap suc (same_or a b (λ l. f (omega (arith, l))) (λ l. g (omega (arith, l))))

-- no two places have one name
one_place : (names : List (List ℕ)) → AllPairs (λ x y. x ≢ y) names → (i j : ℕ) (x : List ℕ) → slice_get names i ≡ Some x → slice_get names j ≡ Some x → i ≡ j
one_place names once i j x p q =
    let a = at_get names i x p in
    let b = at_get names j x q in
    same_or i j (λ less. once i j x less b.0 (a.1 ∙ sym b.1)) (λ less. once j i x less a.0 (b.1 ∙ sym a.1))

one_owner : (actors : List (List ℕ)) → AllPairs (λ x y. x ≢ y) actors → (o : Option (List ℕ)) (a b : Option ActorId) → IsOwner actors o a → IsOwner actors o b → a ≡ b
one_owner actors once None None None h k = refl
one_owner actors once None None (Some b) h k = absurd k
one_owner actors once None (Some a) b h k = absurd h
one_owner actors once (Some x) None b h k = absurd h
one_owner actors once (Some x) (Some a) None h k = absurd k
one_owner actors once (Some x) (Some a) (Some b) h k = ap Some (same-actor a b (one_place actors once a.0 b.0 x h k))

abbrev owned_made : List ℕ → ℤ → ℤ → ℤ → Option ActorId → VariableOf
owned_made n l h i o = record { name = n; lo = l; hi = h; init = i; owner = o }

one_owned : (actors : List (List ℕ)) → AllPairs (λ x y. x ≢ y) actors → (text : VariableText) (v w : VariableOf) → IsOwned actors text v → IsOwned actors text w → v ≡ w
one_owned actors once text v w h k =
    let whole : owned_made v.name v.lo v.hi v.init v.owner ≡ owned_made w.name w.lo w.hi w.init w.owner =
    rw (h.name ∙ sym k.name, h.lo ∙ sym k.lo, h.hi ∙ sym k.hi, h.init ∙ sym k.init, one_owner actors once text.owner v.owner w.owner h.owner k.owner) refl in
    whole

abbrev coded_made : List ℕ → ActorKind → List Instr → ActorOf
coded_made n k c = record { name = n; kind = k; code = c }

one_coded : (names : NamesOf) (text : ActorText) (a b : ActorOf) → IsCoded names text a → IsCoded names text b → a ≡ b
one_coded names text a b h k =
    let whole : coded_made a.name a.kind a.code ≡ coded_made b.name b.kind b.code =
    rw (h.name ∙ sym k.name, h.kind ∙ sym k.kind, one_zip (IsLine names) (λ t i j p q. sym (one_line names t i j p q)) text.lines a.code b.code h.code k.code) refl in
    whole

abbrev program_made : List VariableOf → List ObjectOf → List ActorOf → Program
program_made vs os xs = record { variables = vs; objects = os; actors = xs }

actors_once : (t : Texts) → AreNames (names_in t) → AllPairs (λ x y. x ≢ y) (actors_in t)
actors_once t names =
    pairs_after (λ x y. x ≢ y) (map (λ o. o.name) t.objects) (actors_in t) (pairs_after (λ x y. x ≢ y) (map (λ v. v.name) t.variables) _ names.once)

pub one_program : (t : Texts) (P Q : Program) → AreNames (names_in t) → Says t P → Says t Q → P ≡ Q
one_program t P Q names h k =
    let once = actors_once t names in
    let whole : program_made P.variables P.objects P.actors ≡ program_made Q.variables Q.objects Q.actors =
    rw (
      one_zip (IsOwned (actors_in t)) (one_owned (actors_in t) once) t.variables P.variables Q.variables h.variables k.variables,
      h.objects ∙ sym k.objects,
      one_zip (IsCoded (lists_in t)) (one_coded (lists_in t)) t.actors P.actors Q.actors h.actors k.actors,
    ) refl in
    whole

pub one_meaning : (bytes : List ℕ) (P Q : Program) → Means bytes P → Means bytes Q → P ≡ Q
one_meaning bytes P Q h k =
    let root = one_value (parse_document bytes) k.root h.root k.text.parsed h.text.parsed in
    let texts = one_texts h.root k.texts h.texts (subst (λ r. AreTexts r k.texts) root k.tables) h.tables in
    one_program h.texts P Q h.names h.says (subst (λ t. Says t Q) texts k.says)

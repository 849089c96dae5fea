-- What is written for a certificate: compact JSON with its keys in the order of their bytes.
--
-- | word                          | meaning                                                                        |
-- |-------------------------------|--------------------------------------------------------------------------------|
-- | range_tree                    | a range as a list of its two ends                                              |
-- | is_declared                   | the range is the whole declared one                                            |
-- | with_named, with_count        | members and, by name, a range that is narrower than the declared one; a count   |
-- | with_each                     | so with each thing of a list and what is said of it                            |
-- | names_where                   | the names of the objects of which this is said                                 |
-- | is_default, with_field        | what a missing key stands for; members and a key that doesn't hold it          |
-- | alternative_tree, note_tree   | one alternative, a note                                                        |
-- | each_tree                     | a list with one entry for each thing                                           |
-- | with_values, guard_tree       | members and, by name, turn values; a guard                                     |
-- | end_tree                      | the guard of an end                                                            |
-- | version_of                    | 1 where each note has one alternative at the most, else 2                      |
-- | cert_tree, cert_text          | the object of the whole certificate, and its text                              |
use Rattle.std.specs.Prelude.{◌&&◌, ℕ, ℤ, List, [], ◌∷◌, Bool, true, false, codes, length, nat_eq, nat_le, if◌then◌else◌}
use Rattle.std.specs.List.{list_all}
use Rattle.std.specs.Ordering.{int_eq}
use Rattle.serde_json.specs.Data.{Data, number, string, array, object, unsigned, Items, no_items, item, Members, no_members, member, put}
use Rattle.serde_json.specs.Find.{of_integer}
use Rattle.serde_json.specs.Written.{compact_text}
use Rattle.fr_program.specs.Program.{Program, VariableOf, ObjectOf}
use Rattle.fr_program.specs.Lookup.{variable_at, object_at, actor_at}
use Rattle.fr_program.specs.Uses.{end_text}
use Rattle.fr_notes.specs.declared.claim.Claim.{Claim}
use Rattle.fr_notes.specs.declared.claim.Claim.TheVariants.{Alive, Gone, HeldTimes}
use Rattle.fr_notes.specs.Note.{Alternative, Note}
use Rattle.fr_ends.specs.Guard.{Guard, Sole, ByMutex, InCritical, Turn, EndGuard}
use Rattle.fr_ends.specs.Certificate.{Certificate}
use Rattle.fr_cert.specs.Keys.{key_text}
use Rattle.fr_cert.specs.declared.key.Key.{Key}
use Rattle.fr_cert.specs.declared.key.Key.TheVariants as key

-- both ends of a range, the lower one first
abbrev pub range_tree : ℤ × ℤ → Data
range_tree r = array (item (number (of_integer r.0)) (item (number (of_integer r.1)) no_items))

-- the range is the declared one
abbrev pub is_declared : VariableOf → ℤ × ℤ → Bool
is_declared v r = int_eq v.lo r.0 && int_eq v.hi r.1

-- the range under the variable's name, if it is narrower than the declared one
abbrev pub with_named : VariableOf → ℤ × ℤ → Members → Members
with_named v r ms = if is_declared v r then ms else put v.name (range_tree r) ms

-- so with each thing of a list and what is said of it
unfoldable pub with_each : {A B : Type 0} → (A → B → Members → Members) → List A → List B → Members → Members
with_each with_one [] ys ms = ms
with_each with_one (x ∷ xs) [] ms = ms
with_each with_one (x ∷ xs) (y ∷ ys) ms = with_each with_one xs ys (with_one x y ms)

-- the count under the object's name, if it is held
abbrev pub with_count : ObjectOf → Claim → Members → Members
with_count o (HeldTimes count) ms = put o.name (number (unsigned count)) ms
with_count o claim ms = ms

-- whether the object is said to be live, and not held
abbrev pub is_alive : Claim → Bool
is_alive Alive = true
is_alive claim = false

-- whether the object is said to be dead
abbrev pub is_gone : Claim → Bool
is_gone Gone = true
is_gone claim = false

-- the names of the objects of which this is said, in the order of their numbers
unfoldable pub names_where : (Claim → Bool) → List ObjectOf → List Claim → Items
names_where test [] cs = no_items
names_where test (o ∷ os) [] = no_items
names_where test (o ∷ os) (c ∷ cs) = if test c then item (string o.name) (names_where test os cs) else names_where test os cs

-- whether this is what a missing key stands for: 0, a list without an entry, an object without a member
abbrev pub is_default : Data → Bool
is_default (number (unsigned n)) = nat_eq n 0
is_default (array no_items) = true
is_default (object no_members) = true
is_default d = false

-- the members with this key too, unless it holds the default
abbrev pub with_field : Key → Data → Members → Members
with_field k d ms = if is_default d then ms else put (key_text k) d ms

-- the object of one alternative: each key that isn't at its default; a held mutex is live by being held
unfoldable pub alternative_tree : Program → Alternative → Data
alternative_tree P n =
    object (with_field key.Crit (number (unsigned n.critical))
    (with_field key.Dead (array (names_where is_gone P.objects n.claims))
    (with_field key.Held (object (with_each with_count P.objects n.claims no_members))
    (with_field key.Live (array (names_where is_alive P.objects n.claims))
    (with_field key.Range (object (with_each with_named P.variables n.ranges no_members))
    (with_field key.Susp (number (unsigned n.suspended)) no_members))))))

-- one entry for each thing, in their order
abbrev pub each_tree : {A : Type 0} → (A → Data) → List A → Items
each_tree tree [] = no_items
each_tree tree (x ∷ xs) = item (tree x) (each_tree tree xs)

-- `never`, the one alternative, or the list of them
abbrev pub note_tree : Program → Note → Data
note_tree P [] = string (codes "never")
note_tree P (n ∷ []) = alternative_tree P n
note_tree P (n ∷ m ∷ more) = array (each_tree (alternative_tree P) (n ∷ m ∷ more))

-- the turn values under the names of their actors
unfoldable pub with_values : Program → List (ℕ × ℤ) → Members → Members
with_values P [] ms = ms
with_values P (v ∷ vs) ms = with_values P vs (put (actor_at P v.0).name (number (of_integer v.1)) ms)

-- a guard
abbrev pub guard_tree : Program → Guard → Data
guard_tree P (Sole actor) = object (member (key_text key.Sole) (string (actor_at P actor).name) no_members)
guard_tree P (ByMutex mutex) = object (member (key_text key.Mutex) (string (object_at P mutex).name) no_members)
guard_tree P InCritical = string (codes "critical")
guard_tree P (Turn x values) =
    object (member (key_text key.Turn) (string (variable_at P x).name)
    (member (key_text key.Values) (object (with_values P values no_members)) no_members))

-- the guard of an end
abbrev pub end_tree : Program → EndGuard → Data
end_tree P e =
    object (member (key_text key.Buffer) (string (object_at P e.buffer).name)
    (member (key_text key.End) (string (end_text e.end))
    (member (key_text key.Guard) (guard_tree P e.guard) no_members)))

-- 1 where each note has one alternative at the most, else 2
abbrev pub version_of : List Note → ℕ
version_of notes = if list_all (λ note. nat_le (length note) 1) notes then 1 else 2

-- the object of the whole certificate
unfoldable pub cert_tree : Program → Certificate → Data
cert_tree P C =
    object (member (key_text key.Ends) (array (each_tree (end_tree P) C.ends))
    (member (key_text key.Notes) (array (each_tree (note_tree P) C.notes))
    (member (key_text key.Version) (number (unsigned (version_of C.notes))) no_members)))

-- the bytes of a certificate
unfoldable pub cert_text : Program → Certificate → List ℕ
cert_text P C = compact_text (cert_tree P C)

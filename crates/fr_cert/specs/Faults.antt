-- Where a fault is in the values of a certificate's text. A word here says so by a value's shape, for any fault F of
-- the values inside it.
--
-- | word                       | meaning                                                                          |
-- |----------------------------|----------------------------------------------------------------------------------|
-- | is_memory, Standing        | an allocation was refused; a fact about every other fault                        |
-- | Departs                    | the fault is a departure in keys or kinds at this path                           |
-- | deeper, Within             | a fault as seen from one level further out; it is present in the value at a step |
-- | InKeys                     | an object has a key that is none of its place                                    |
-- | InField, InNeeded          | the fault is in what an object holds at a key; the same, or there is no such key |
-- | InObject, InList           | a value is no object, no list, or the fault is in its contents                   |
-- | InEntries, InMembers       | the fault is in an entry of a list; in a member of an object                     |
-- | InInteger, InDepth         | a value is no integer; or it is none from 0 to 255                               |
-- | IsUnknown, InName          | a name is none; a value is no text, or such a name                               |
-- | IsTwice, InNames           | two entries are alike; the fault is in a list of names                           |
-- | InEnds, InSpan             | a list is not two integers in order; a value is no such list                     |
use Rattle.std.specs.Prelude.{◌≡◌, ◌⊎◌, ◌<◌, ◌≤◌, ◌<ℤ◌, ℕ, ℤ, pos, List, [], ◌∷◌, Bool, true, false, Some, None, string_bytes}
use Rattle.serde_json.specs.Data.{Data, Items, Members, no_members, member}
use Rattle.serde_json.specs.Find.{get_member, get_item, as_array, as_object, as_str}
use Rattle.fr_notes.specs.Fits.{most_depth}
use Rattle.fr_instr.specs.Names.{place_of}
use Rattle.fr_cert.specs.Path.{PathStep, key, at}
use Rattle.fr_cert.specs.Keys.{key_text, is_key_of, field, integer_of, end_at}
use Rattle.fr_cert.specs.Shapes.{Names}
use Rattle.fr_cert.specs.declared.key.Key.{Key}
use Rattle.fr_cert.specs.declared.key.Keyed.{Keyed}
use Rattle.fr_cert.specs.declared.fault.CertFault.{CertFault}
use Rattle.fr_cert.specs.declared.fault.CertFault.TheVariants as fault

-- an allocation was refused
abbrev pub is_memory : CertFault → Bool
is_memory fault.Memory = true
is_memory f = false

-- a fault that is not want of memory is present
abbrev pub Standing : (CertFault → Type 0) → CertFault → Type 0
Standing P f = is_memory f ≡ false → P f

-- the fault is a departure in keys or kinds, down to the value at this path
abbrev pub Departs : List PathStep → CertFault → Type 0
Departs path f = f ≡ fault.Shape path

-- the fault of a value, as seen from one that has it at this step
abbrev pub deeper : PathStep → CertFault → CertFault
deeper s (fault.Shape path) = fault.Shape (s ∷ path)
deeper s (fault.UnknownName path name) = fault.UnknownName (s ∷ path) name
deeper s (fault.Note path) = fault.Note (s ∷ path)
deeper s (fault.Guard path) = fault.Guard (s ∷ path)
deeper s (fault.EndTwice path) = fault.EndTwice (s ∷ path)
deeper s (fault.Alternatives path) = fault.Alternatives (s ∷ path)
deeper s f = f

-- the fault is present in the value at this step
abbrev pub Within : PathStep → (CertFault → Type 0) → CertFault → Type 0
Within s F f = (inner : CertFault) × F inner × (f ≡ deeper s inner)

-- the object has a key that is none of its place
abbrev pub InKeys : Keyed → Members → CertFault → Type 0
InKeys place ms f = (k : List ℕ) × (d : Data) × (get_member k ms ≡ Some d) × (is_key_of place k ≡ false) × Departs (key k ∷ []) f

-- the fault is in what the object holds at the key, if it has it
abbrev pub InField : Key → (Data → CertFault → Type 0) → Members → CertFault → Type 0
InField k F ms f = (d : Data) × (field k ms ≡ Some d) × Within (key (key_text k)) (F d) f

-- the object lacks the key, or the fault is in what it holds there
abbrev pub InNeeded : Key → (Data → CertFault → Type 0) → Members → CertFault → Type 0
InNeeded k F ms f = ((field k ms ≡ None) × Departs (key (key_text k) ∷ []) f) ⊎ InField k F ms f

-- the value is no object, or the fault is in its members
abbrev pub InObject : (Members → CertFault → Type 0) → Data → CertFault → Type 0
InObject F d f = ((as_object d ≡ None) × Departs [] f) ⊎ ((ms : Members) × (as_object d ≡ Some ms) × F ms f)

-- the value is no list, or the fault is in its entries
abbrev pub InList : (Items → CertFault → Type 0) → Data → CertFault → Type 0
InList F d f = ((as_array d ≡ None) × Departs [] f) ⊎ ((ds : Items) × (as_array d ≡ Some ds) × F ds f)

-- the fault is in an entry of the list
abbrev pub InEntries : (Data → CertFault → Type 0) → Items → CertFault → Type 0
InEntries F ds f = (i : ℕ) × (d : Data) × (get_item i ds ≡ Some d) × Within (at i) (F d) f

-- the fault is in a member of the object, in its name or in the value beside it
abbrev pub InMembers : (List ℕ → Data → CertFault → Type 0) → Members → CertFault → Type 0
InMembers F no_members f = ⊥
InMembers F (member name d ms) f = F name d f ⊎ InMembers F ms f

-- the name is that of nothing
abbrev pub IsUnknown : List ℕ → CertFault → Type 0
IsUnknown name (fault.UnknownName path text) = (path ≡ []) × (string_bytes text ≡ name)
IsUnknown name f = ⊥

-- the name is none of the list, or the fault is in the value beside it
abbrev pub InNamed : List (List ℕ) → (Data → CertFault → Type 0) → List ℕ → Data → CertFault → Type 0
InNamed names F name d f = ((place_of names name ≡ None) × IsUnknown name f) ⊎ Within (key name) (F d) f

-- the value is no integer
abbrev pub InInteger : Data → CertFault → Type 0
InInteger d f = (integer_of d ≡ None) × Departs [] f

-- the value is no integer, or one that no depth is
abbrev pub InDepth : Data → CertFault → Type 0
InDepth d f = InInteger d f ⊎ ((z : ℤ) × (integer_of d ≡ Some z) × ((n : ℕ) → n ≤ most_depth → z ≡ pos n → ⊥) × (f ≡ fault.Note []))

-- the value is no text, or it is no name of the list
abbrev pub InName : List (List ℕ) → Data → CertFault → Type 0
InName names d f =
    ((as_str d ≡ None) × Departs [] f)
    ⊎ ((name : List ℕ) × (as_str d ≡ Some name) × (place_of names name ≡ None) × IsUnknown name f)

-- two entries of the list mean things that are alike; this fault is at the later one
abbrev pub IsTwice : {A : Type 0} → (Data → A → Type 0) → (A → A → Type 0) → CertFault → Items → CertFault → Type 0
IsTwice {A} M AreAlike twice ds f =
    (i j : ℕ) × (one other : Data) × (x y : A) × (i < j) × (get_item i ds ≡ Some one) × (get_item j ds ≡ Some other)
    × M one x × M other y × AreAlike x y × (f ≡ deeper (at j) twice)

-- the fault is in a name of the list, or a name is there twice
abbrev pub InNames : List (List ℕ) → Items → CertFault → Type 0
InNames names ds f = InEntries (InName names) ds f ⊎ IsTwice (Names names) (λ n m. n ≡ m) (fault.Note []) ds f

-- the list is not exactly two integers, or the lower end is above the upper one
abbrev pub InEnds : Items → CertFault → Type 0
InEnds ds f = ((end_at 0 ds ≡ None) × Departs (at 0 ∷ []) f) ⊎ (((end_at 1 ds ≡ None) × Departs (at 1 ∷ []) f)
    ⊎ (((d : Data) × (get_item 2 ds ≡ Some d) × Departs (at 2 ∷ []) f)
    ⊎ ((lo hi : ℤ) × (end_at 0 ds ≡ Some lo) × (end_at 1 ds ≡ Some hi) × (hi <ℤ lo) × (f ≡ fault.Note []))))

-- the value is no list, or the fault is in its two ends
abbrev pub InSpan : Data → CertFault → Type 0
InSpan d f = InList InEnds d f

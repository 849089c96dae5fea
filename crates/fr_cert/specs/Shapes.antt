-- What a value of a text means, by its shape: each word here says so for any meaning M of the values inside it.
--
-- | word                   | meaning                                                                       |
-- |------------------------|-------------------------------------------------------------------------------|
-- | At                     | the object has the key, and what it holds there means this                    |
-- | OrDefault, AtOrDefault | the same of a key that may be missing; without it, the default is meant       |
-- | IsObject, IsList       | the value is an object, a list, and its contents mean this                    |
-- | EachEntry              | the entries of a list mean these things, one for each, in order               |
-- | EachMember             | the members of an object do, each by its name and its value                   |
-- | IsNamed                | a member is a name, and its value means this                                  |
-- | Names, AreNames        | the value is a name, is a list of different names                             |
-- | IsDepth                | the value is an integer from 0 to 255                                         |
-- | IsSpan                 | the value is a list of two integers, the lower end first                      |
use Rattle.std.specs.Prelude.{◌≡◌, ◌≢◌, ◌≤◌, ◌≤ℤ◌, ℕ, ℤ, pos, List, [], ◌∷◌, Option, Some, None, AllPairs}
use Rattle.serde_json.specs.Data.{Data, Items, no_items, item, Members, no_members, member}
use Rattle.serde_json.specs.Find.{get_item, as_array, as_object, as_str}
use Rattle.fr_instr.specs.Names.{place_of}
use Rattle.fr_notes.specs.Fits.{most_depth}
use Rattle.fr_cert.specs.Keys.{field, integer_of, end_at}
use Rattle.fr_cert.specs.declared.key.Key.{Key}

-- the object has the key, and what it holds there means x
abbrev pub At : {A : Type 0} → Key → (Data → A → Type 0) → Members → A → Type 0
At k M ms x = (d : Data) × (field k ms ≡ Some d) × M d x

-- the value, if there is one, means x; without one x is the default
abbrev pub OrDefault : {A : Type 0} → A → (Data → A → Type 0) → Option Data → A → Type 0
OrDefault default M None x = x ≡ default
OrDefault default M (Some d) x = M d x

-- what the object holds at the key, if it has it, means x; without the key x is the default
abbrev pub AtOrDefault : {A : Type 0} → Key → A → (Data → A → Type 0) → Members → A → Type 0
AtOrDefault k default M ms x = OrDefault default M (field k ms) x

-- the value is an object, and its members mean x
abbrev pub IsObject : {A : Type 0} → (Members → A → Type 0) → Data → A → Type 0
IsObject M d x = (ms : Members) × (as_object d ≡ Some ms) × M ms x

-- the value is a list, and its entries mean x
abbrev pub IsList : {A : Type 0} → (Items → A → Type 0) → Data → A → Type 0
IsList M d x = (ds : Items) × (as_array d ≡ Some ds) × M ds x

-- the entries mean these things, one for each, in order
abbrev pub EachEntry : {A : Type 0} → (Data → A → Type 0) → Items → List A → Type 0
EachEntry M no_items [] = Unit {0}
EachEntry M no_items (x ∷ xs) = ⊥
EachEntry M (item d ds) [] = ⊥
EachEntry M (item d ds) (x ∷ xs) = M d x × EachEntry M ds xs

-- the members mean these things, one for each, in order
abbrev pub EachMember : {A : Type 0} → (List ℕ → Data → A → Type 0) → Members → List A → Type 0
EachMember M no_members [] = Unit {0}
EachMember M no_members (x ∷ xs) = ⊥
EachMember M (member name d ms) [] = ⊥
EachMember M (member name d ms) (x ∷ xs) = M name d x × EachMember M ms xs

-- the name is at this place of the list, and the value beside it means this
abbrev pub IsNamed : {A : Type 0} → List (List ℕ) → (Data → A → Type 0) → List ℕ → Data → ℕ × A → Type 0
IsNamed names M name d x = (place_of names name ≡ Some x.0) × M d x.1

-- the value is a text, which is the name at this place of the list
abbrev pub Names : List (List ℕ) → Data → ℕ → Type 0
Names names d n = (name : List ℕ) × (as_str d ≡ Some name) × (place_of names name ≡ Some n)

-- the value is a list of names at these places, none of them twice
abbrev pub AreNames : List (List ℕ) → Items → List ℕ → Type 0
AreNames names ds ns = EachEntry (Names names) ds ns × AllPairs (λ n m. n ≢ m) ns

-- the value is an integer from 0 to 255
abbrev pub IsDepth : Data → ℕ → Type 0
IsDepth d n = (integer_of d ≡ Some (pos n)) × (n ≤ most_depth)

-- the list has exactly two integers, the lower end and the upper one
pub record AreEnds (ds : Items) (range : ℤ × ℤ) : Type 0 where
  pub lo : end_at 0 ds ≡ Some range.0
  pub hi : end_at 1 ds ≡ Some range.1
  pub only : get_item 2 ds ≡ None
  pub order : range.0 ≤ℤ range.1

-- the value is a list of them
abbrev pub IsSpan : Data → ℤ × ℤ → Type 0
IsSpan d range = IsList AreEnds d range

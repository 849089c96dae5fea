-- Which faults are present in the tables of an application's text: those of keys, of what is at them, and of entries.
--
-- | word                       | meaning                                                                        |
-- |----------------------------|--------------------------------------------------------------------------------|
-- | is_memory, Standing        | an allocation was refused; a fact about every other fault                      |
-- | InTable, InVariable        | a key of a table is missing, of a wrong type or unknown                        |
-- | InKind                     | the key `kind` is missing, or says no kind                                     |
-- | InObject, InLine, InActor  | the same of an object's table, of an entry of the code, of an actor's table    |
-- | InEntry, InEntryAt         | the fault is present in an entry of an array, whose name is by its place        |
-- | InEach, InEachAt           | it is present in some entry of an array, of what is at a list's key             |
-- | InApplication              | the fault is present in the table of the whole text                            |
use Rattle.std.specs.Prelude.{◌≡◌, ◌⊎◌, ℕ, List, Bool, true, false, Option, Some, None, string_bytes}
use Rattle.toml.specs.Data.{Data, string, array, table, Items, Members, get_member, get_item, as_str}
use Rattle.fr_reader.specs.Keys.{field, is_key_of, IsKeyOf, IsRequired, suits, kind_word, actor_word}
use Rattle.fr_instr.specs.declared.fault.LineFault.TheVariants as line
use Rattle.fr_program.specs.declared.fault.BuildFault.TheVariants as build
use Rattle.fr_reader.specs.declared.key.Key.{Key}
use Rattle.fr_reader.specs.declared.key.Key.TheVariants as key
use Rattle.fr_reader.specs.declared.key.ObjectKind.{ObjectKind}
use Rattle.fr_reader.specs.declared.key.TableKind.{TableKind}
use Rattle.fr_reader.specs.declared.key.TableKind.TheVariants as table_kind
use Rattle.fr_reader.specs.declared.key.TableName.{TableName}
use Rattle.fr_reader.specs.declared.key.TableName.TheVariants as name
use Rattle.fr_reader.specs.declared.fault.ReadFault.{ReadFault}
use Rattle.fr_reader.specs.declared.fault.ReadFault.TheVariants as fault

-- an allocation was refused, here or in the fault of a line or of the parts
abbrev pub is_memory : ReadFault → Bool
is_memory fault.Memory = true
is_memory (fault.Line actor i line.Memory) = true
is_memory (fault.Build build.Memory) = true
is_memory f = false

-- a fault that is not want of memory is present
abbrev pub Standing : (ReadFault → Type 0) → ReadFault → Type 0
Standing P f = is_memory f ≡ false → P f

-- the fault is present in a table of this kind, which has this name: a key is missing, of a wrong type, or unknown
abbrev pub InTable : TableKind → TableName → Members → ReadFault → Type 0
InTable table_kind name ms (fault.Missing t k) = (t ≡ name) × IsKeyOf table_kind k × IsRequired k × (field k ms ≡ None)
InTable table_kind name ms (fault.WrongType t k) = (t ≡ name) × (d : Data) × (field k ms ≡ Some d) × (suits k d ≡ false) × IsKeyOf table_kind k
InTable table_kind name ms (fault.UnknownKey t s) = (t ≡ name) × (d : Data) × (get_member (string_bytes s) ms ≡ Some d) × (is_key_of table_kind (string_bytes s) ≡ false)
InTable table_kind name ms f = ⊥

-- the fault is present in a variable's table
abbrev pub InVariable : TableName → Members → ReadFault → Type 0
InVariable = InTable table_kind.Variable

-- the fault is present at `kind`: it is missing, or none of the words that kinds have
abbrev pub InKind : {K : Type 0} → (K → List ℕ) → TableName → Members → ReadFault → Type 0
InKind word name ms (fault.Missing t key.Kind) = (t ≡ name) × (field key.Kind ms ≡ None)
InKind word name ms (fault.WrongType t key.Kind) = (t ≡ name) × (d : Data) × (field key.Kind ms ≡ Some d) × ((k : _) → as_str d ≡ Some (word k) → ⊥)
InKind word name ms f = ⊥

-- the fault is present in an object's table: at its kind, or among the keys that its kind has
abbrev pub InObject : TableName → Members → ReadFault → Type 0
InObject name ms f = InKind kind_word name ms f ⊎ ((k : ObjectKind) × (field key.Kind ms ≡ Some (string (kind_word k))) × InTable (table_kind.Object k) name ms f)

-- the fault is present in an entry of an array, which has this name: it is no table, or the fault is present in that table
abbrev pub InEntry : Key → TableName → (Members → ReadFault → Type 0) → Data → ReadFault → Type 0
InEntry list name F (table ms) f = F ms f
InEntry list name F d f = f ≡ fault.WrongType name list

-- the same, where the name is by the entry's place
abbrev pub InEntryAt : Key → (ℕ → TableName) → (TableName → Members → ReadFault → Type 0) → ℕ → Data → ReadFault → Type 0
InEntryAt list named F i = InEntry list (named i) (F (named i))

-- the fault is present in some entry
abbrev pub InEach : (ℕ → Data → ReadFault → Type 0) → Items → ReadFault → Type 0
InEach F ds f = (i : ℕ) × (d : Data) × (get_item i ds ≡ Some d) × F i d f

-- the fault is present in an entry of the code: it is no text
abbrev pub InLine : TableName → Data → ReadFault → Type 0
InLine name d f = (f ≡ fault.WrongType name key.Code) × (as_str d ≡ None)

-- the fault is present in an actor's table: at its kind, at one of its keys, or in an entry of its code
abbrev pub InActor : TableName → Members → ReadFault → Type 0
InActor name ms f = InKind actor_word name ms f ⊎ (InTable table_kind.Actor name ms f ⊎ ((ds : Items) × (field key.Code ms ≡ Some (array ds)) × InEach (λ i. InLine name) ds f))

-- the fault is present in an entry of what the key of a list holds
abbrev pub InEachAt : (ℕ → Data → ReadFault → Type 0) → Option Data → ReadFault → Type 0
InEachAt F None f = ⊥
InEachAt F (Some (array ds)) f = InEach F ds f
InEachAt F (Some d) f = ⊥

-- the fault is present in the table of the whole text: at one of its keys, or in an entry of one of the three lists
abbrev pub InApplication : Members → ReadFault → Type 0
InApplication root f = InTable table_kind.Application name.Whole root f
    ⊎ (InEachAt (InEntryAt key.Variable name.Variable InVariable) (field key.Variable root) f
    ⊎ (InEachAt (InEntryAt key.Object name.Object InObject) (field key.Object root) f
    ⊎ InEachAt (InEntryAt key.Actor name.Actor InActor) (field key.Actor root) f))

-- The keys of an application's tables, and what each may hold.
--
-- | word                    | meaning                                                              |
-- |-------------------------|----------------------------------------------------------------------|
-- | key_text                | the text of a key                                                    |
-- | kind_word, actor_word   | the word of a kind of object, of a kind of actor                     |
-- | kind_named              | the kind whose word an object's `kind` is                            |
-- | spells                  | a text is that of a key                                              |
-- | is_own_key              | a key that objects of a kind have beside those of every object       |
-- | is_key_of, IsKeyOf      | a key that tables of a kind may have                                 |
-- | IsRequired              | a key that is in each table that may have it                         |
-- | IsNumberKey, IsTextKey, IsListKey | keys that ask for a number, a text, a list of tables       |
-- | suits                   | a value is of the type that the key asks for                         |
-- | field                   | what a table holds at a key                                          |
use Rattle.std.specs.Prelude.{ℕ, List, Bool, false, IsTrue, Option, codes, is_some, ◌||◌}
use Rattle.std.specs.Str.{bytes_eq}
use Rattle.toml.specs.Data.{Data, Members, get_member, as_str, as_integer, as_bool, as_array}
use Rattle.fr_program.specs.declared.parts.Kind.{Kind}
use Rattle.fr_program.specs.declared.parts.Kind.TheVariants as kind
use Rattle.fr_program.specs.declared.parts.ActorKind.{ActorKind}
use Rattle.fr_program.specs.declared.parts.ActorKind.TheVariants as actor
use Rattle.fr_reader.specs.declared.key.Key.{Key}
use Rattle.fr_reader.specs.declared.key.Key.TheVariants as key
use Rattle.fr_reader.specs.declared.key.ObjectKind.{ObjectKind}
use Rattle.fr_reader.specs.declared.key.ObjectKind.TheVariants.{Queue, Binary, Counting, Mutex, Recursive, Stream, Message}
use Rattle.fr_reader.specs.declared.key.TableKind.{TableKind}
use Rattle.fr_reader.specs.declared.key.TableKind.TheVariants as table_kind

-- the text of a key
abbrev pub key_text : Key → List ℕ
key_text key.Variable = codes "variable"
key_text key.Object = codes "object"
key_text key.Actor = codes "actor"
key_text key.Name = codes "name"
key_text key.Lo = codes "lo"
key_text key.Hi = codes "hi"
key_text key.Init = codes "init"
key_text key.Owner = codes "owner"
key_text key.Kind = codes "kind"
key_text key.Live = codes "live"
key_text key.Size = codes "size"
key_text key.First = codes "first"
key_text key.Code = codes "code"

-- the word at `kind` of an object
abbrev pub kind_word : ObjectKind → List ℕ
kind_word Queue = codes "queue"
kind_word Binary = codes "binary"
kind_word Counting = codes "counting"
kind_word Mutex = codes "mutex"
kind_word Recursive = codes "recursive"
kind_word Stream = codes "stream"
kind_word Message = codes "message"

-- the word at `kind` of an actor
abbrev pub actor_word : ActorKind → List ℕ
actor_word actor.Task = codes "task"
actor_word actor.Interrupt = codes "interrupt"

-- the kind whose word is at `kind`
abbrev pub kind_named : Kind → ObjectKind
kind_named (kind.Queue size lo hi) = Queue
kind_named kind.Binary = Binary
kind_named (kind.Counting size first) = Counting
kind_named kind.Mutex = Mutex
kind_named kind.Recursive = Recursive
kind_named (kind.Stream size) = Stream
kind_named (kind.Message size) = Message

-- the text is that of the key
abbrev pub spells : List ℕ → Key → Bool
spells text k = bytes_eq text (key_text k)

-- a key that objects of this kind have beside the keys of every object
abbrev pub is_own_key : ObjectKind → List ℕ → Bool
is_own_key Queue t = spells t key.Size || spells t key.Lo || spells t key.Hi
is_own_key Counting t = spells t key.Size || spells t key.First
is_own_key Stream t = spells t key.Size
is_own_key Message t = spells t key.Size
is_own_key Binary t = false
is_own_key Mutex t = false
is_own_key Recursive t = false

-- a key that a table of this kind may have
abbrev pub is_key_of : TableKind → List ℕ → Bool
is_key_of table_kind.Application t = spells t key.Variable || spells t key.Object || spells t key.Actor
is_key_of table_kind.Variable t = spells t key.Name || spells t key.Lo || spells t key.Hi || spells t key.Init || spells t key.Owner
is_key_of (table_kind.Object o) t = spells t key.Name || spells t key.Kind || spells t key.Live || is_own_key o t
is_key_of table_kind.Actor t = spells t key.Name || spells t key.Kind || spells t key.Code

-- the same, of a key by its name here
abbrev pub IsKeyOf : TableKind → Key → Type 0
IsKeyOf table_kind k = IsTrue (is_key_of table_kind (key_text k))

-- a key that is in each table that may have it: all but `owner` and the three lists
abbrev pub IsRequired : Key → Type 0
IsRequired key.Variable = ⊥
IsRequired key.Object = ⊥
IsRequired key.Actor = ⊥
IsRequired key.Owner = ⊥
IsRequired k = Unit {0}

-- a key that asks for a number
abbrev pub IsNumberKey : Key → Type 0
IsNumberKey key.Lo = Unit {0}
IsNumberKey key.Hi = Unit {0}
IsNumberKey key.Init = Unit {0}
IsNumberKey key.Size = Unit {0}
IsNumberKey key.First = Unit {0}
IsNumberKey k = ⊥

-- a key that asks for a text
abbrev pub IsTextKey : Key → Type 0
IsTextKey key.Name = Unit {0}
IsTextKey key.Owner = Unit {0}
IsTextKey key.Kind = Unit {0}
IsTextKey k = ⊥

-- a key that asks for a list of tables
abbrev pub IsListKey : Key → Type 0
IsListKey key.Variable = Unit {0}
IsListKey key.Object = Unit {0}
IsListKey key.Actor = Unit {0}
IsListKey k = ⊥

-- the value is of the type that the key asks for
abbrev pub suits : Key → Data → Bool
suits key.Variable d = is_some (as_array d)
suits key.Object d = is_some (as_array d)
suits key.Actor d = is_some (as_array d)
suits key.Name d = is_some (as_str d)
suits key.Lo d = is_some (as_integer d)
suits key.Hi d = is_some (as_integer d)
suits key.Init d = is_some (as_integer d)
suits key.Owner d = is_some (as_str d)
suits key.Kind d = is_some (as_str d)
suits key.Live d = is_some (as_bool d)
suits key.Size d = is_some (as_integer d)
suits key.First d = is_some (as_integer d)
suits key.Code d = is_some (as_array d)

-- what a table holds at a key
unfoldable pub field : Key → Members → Option Data
field k ms = get_member (key_text k) ms

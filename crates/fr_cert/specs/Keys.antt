-- The keys of a certificate's objects, and what they hold.
--
-- | word                                      | meaning                                             |
-- |-------------------------------------------|-----------------------------------------------------|
-- | key_text                                  | the text of a key                                   |
-- | is_key_of                                 | a key that an object of a kind may have             |
-- | AreKnown                                  | an object has no other keys                         |
-- | field                                     | what an object holds at a key                       |
-- | integer_of                                | the integer that a value is                         |
-- | end_at                                    | the integer at a position of a list                 |
use Rattle.std.specs.Prelude.{◌≡◌, ℕ, ℤ, List, Bool, ◌||◌, IsTrue, Option, Some, option_and_then, codes}
use Rattle.std.specs.Str.{bytes_eq}
use Rattle.serde_json.specs.Data.{Data, Items, Members}
use Rattle.serde_json.specs.Find.{get_member, get_item, as_number, as_integer}
-- the names of the application's variables, objects and actors, each at its number
pub use Rattle.fr_instr.specs.AppNames.{names_in}
use Rattle.fr_cert.specs.declared.key.Key.{Key}
use Rattle.fr_cert.specs.declared.key.Key.TheVariants.{Version, Ends, Notes, Buffer, End, Guard, Sole, Mutex, Turn, Values, Held, Crit, Susp, Live, Dead, Range}
use Rattle.fr_cert.specs.declared.key.Keyed.{Keyed}
use Rattle.fr_cert.specs.declared.key.Keyed.TheVariants as place

-- the text of a key
abbrev pub key_text : Key → List ℕ
key_text Version = codes "version"
key_text Ends = codes "ends"
key_text Notes = codes "notes"
key_text Buffer = codes "buffer"
key_text End = codes "end"
key_text Guard = codes "guard"
key_text Sole = codes "sole"
key_text Mutex = codes "mutex"
key_text Turn = codes "turn"
key_text Values = codes "values"
key_text Held = codes "held"
key_text Crit = codes "crit"
key_text Susp = codes "susp"
key_text Live = codes "live"
key_text Dead = codes "dead"
key_text Range = codes "range"

-- the text is that of the key
abbrev pub spells : List ℕ → Key → Bool
spells text k = bytes_eq text (key_text k)

-- a key that the whole certificate, an end, each kind of guard, or a note may have
abbrev pub is_key_of : Keyed → List ℕ → Bool
is_key_of place.Certificate t = spells t Version || spells t Ends || spells t Notes
is_key_of place.End t = spells t Buffer || spells t End || spells t Guard
is_key_of place.Sole t = spells t Sole
is_key_of place.Mutex t = spells t Mutex
is_key_of place.Turn t = spells t Turn || spells t Values
is_key_of place.Note t = spells t Held || spells t Crit || spells t Susp || spells t Live || spells t Dead || spells t Range

-- each key of the object is known there
abbrev pub AreKnown : Keyed → Members → Type 0
AreKnown place ms = (k : List ℕ) (d : Data) → get_member k ms ≡ Some d → IsTrue (is_key_of place k)

-- what an object holds at a key
unfoldable pub field : Key → Members → Option Data
field k ms = get_member (key_text k) ms

-- the integer that a value is: a number that the crate gives as an `i64` or as a `u64`
abbrev pub integer_of : Data → Option ℤ
integer_of d = option_and_then as_integer (as_number d)

-- the integer at a position of a list
abbrev pub end_at : ℕ → Items → Option ℤ
end_at i ds = option_and_then integer_of (get_item i ds)

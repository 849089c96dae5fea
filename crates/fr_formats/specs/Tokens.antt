-- Pieces of a text in JSON, as tokens.
--
-- | word                              | meaning                                                                 |
-- |-----------------------------------|-------------------------------------------------------------------------|
-- | field, flag, integer, number      | a member of an object: its key, and a value of this kind                |
-- | object, array                     | a key, and the bracket with which its value begins                      |
-- | message                           | a member that is an object with a text                                  |
-- | maybe                             | what is written of a value that may lack: nothing where it lacks        |
-- | listed                            | a member that is an array; nothing where it has no items                |
-- | mark                              | the bracket that a character is; nothing for any other                  |
-- | tokens_of                         | the tokens of a `Piece`                                                 |
-- | written                           | the text of tokens, in which nothing steers what shows it               |
use Rattle.std.specs.Prelude.{ℕ, ℤ, ◌==◌, Bool, if◌then◌else◌, List, [], ◌∷◌, ◌++◌, Option, Some, None, codes, decimal, encode_utf8_all, flat_map, option_map}
use Rattle.std.specs.Fmt.{signed_decimal}
use Rattle.json.specs.Layout.{pretty}
use Rattle.json.specs.Token as json
use Rattle.json.specs.Token.{Token}
use Rattle.fr_escape.specs.AsJson.{as_json}
use Rattle.fr_formats.specs.declared.piece.Piece.{Piece}
use Rattle.fr_formats.specs.declared.piece.Piece.TheVariants.{Marks, Object, Array, Key, Text, Field, MaybeField, Flag, Integer, Number, MaybeNumber, Message}

abbrev pub field : List ℕ → List ℕ → List Token
field key text = json.key key ∷ json.string text ∷ []

abbrev pub flag : List ℕ → Bool → List Token
flag key value = json.key key ∷ json.boolean value ∷ []

abbrev pub integer : List ℕ → ℤ → List Token
integer key value = json.key key ∷ json.number (signed_decimal value) ∷ []

abbrev pub number : List ℕ → ℕ → List Token
number key value = json.key key ∷ json.number (decimal value) ∷ []

abbrev pub object : List ℕ → List Token
object key = json.key key ∷ json.begin_object ∷ []

abbrev pub array : List ℕ → List Token
array key = json.key key ∷ json.begin_array ∷ []

abbrev pub message : List ℕ → List ℕ → List Token
message key text = object key ++ field (codes "text") text ++ json.end_object ∷ []

abbrev pub maybe : {A : Type 0} → (A → List Token) → Option A → List Token
maybe write None = []
maybe write (Some value) = write value

abbrev pub listed : {A : Type 0} → List ℕ → (A → List Token) → List A → List Token
listed key write [] = []
listed key write (x ∷ xs) = array key ++ flat_map write (x ∷ xs) ++ json.end_array ∷ []

-- `{` (123), `}` (125), `[` (91) and `]` (93)
abbrev pub mark : ℕ → List Token
mark c =
    if c == 123 then json.begin_object ∷ [] else if c == 125 then json.end_object ∷ []
    else if c == 91 then json.begin_array ∷ [] else if c == 93 then json.end_array ∷ [] else []

abbrev pub tokens_of : Piece → List Token
tokens_of (Marks marks) = flat_map mark marks.now
tokens_of (Object key) = object key.now
tokens_of (Array key) = array key.now
tokens_of (Key key) = json.key key.now ∷ []
tokens_of (Text text) = json.string text.now ∷ []
tokens_of (Field key text) = field key.now text.now
tokens_of (MaybeField key text) = maybe (field key.now) (option_map (λ t. t.now) text)
tokens_of (Flag key value) = flag key.now value
tokens_of (Integer key value) = integer key.now value
tokens_of (Number key value) = number key.now value
tokens_of (MaybeNumber key value) = maybe (number key.now) value
tokens_of (Message key text) = message key.now text.now

-- a line for each item and member, and a newline at the end
abbrev pub written : List Token → List ℕ
written tokens = encode_utf8_all (as_json (pretty tokens)) ++ codes "\n"

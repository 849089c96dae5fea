-- What a regular file has to hold that an output replaces.
--
-- | word                     | meaning                                                                   |
-- |--------------------------|---------------------------------------------------------------------------|
-- | tree_of                  | the value that bytes are the text of, in JSON                             |
-- | holds_number, holds_list | the value is an object with a number, a list at this key                  |
-- | has_members              | the value is an object with as many members as a certificate              |
-- | has_form                 | the value is an object with the keys of a certificate and no other        |
-- | is_certificate           | the bytes are the text of such a value                                    |
-- | most_bytes               | the greatest length of a certificate                                      |
-- | is_page                  | the bytes begin as a page                                                 |
-- | may_replace              | an output that replaces this may replace a file that holds these bytes    |
use Rattle.std.specs.Prelude.{ℕ, Bool, true, false, ◌&&◌, ◌||◌, ◌==◌, List, length, nat_eq, nat_le, Option, None, is_some, option_and_then, if◌then◌else◌, codes}
use Rattle.std.specs.List.{starts_with}
use Rattle.std.specs.Option.{option_map_or}
use Rattle.std.specs.Str.{is_utf8}
use Rattle.serde_json.specs.Data.{Data}
use Rattle.serde_json.specs.Events.{members_len}
use Rattle.serde_json.specs.Find.{as_array, as_number, as_object, get}
use Rattle.serde_json.specs.Read.{read}
use Rattle.fr_files.specs.declared.outputs.Holds.{Holds}
use Rattle.fr_files.specs.declared.outputs.Holds.TheVariants.{Anything, Certificate, Page}

-- the value that the bytes are the text of: UTF-8, and in it JSON
abbrev pub tree_of : List ℕ → Option Data
tree_of bytes = if is_utf8 bytes then read bytes else None

-- the value is an object with a number at this key
abbrev pub holds_number : List ℕ → Data → Bool
holds_number key d = is_some (option_and_then as_number (get key d))

-- the value is an object with a list at this key
abbrev pub holds_list : List ℕ → Data → Bool
holds_list key d = is_some (option_and_then as_array (get key d))

-- the value is an object with three members, no more
abbrev pub has_members : Data → Bool
has_members d = option_map_or (λ ms. members_len ms == 3) (as_object d) false

-- the value is an object with a number at `version`, lists at `ends` and at `notes`, and no other member
abbrev pub has_form : Data → Bool
has_form d = has_members d && holds_number (codes "version") d && holds_list (codes "ends") d && holds_list (codes "notes") d

-- the bytes are the text of such a value
unfoldable pub is_certificate : List ℕ → Bool
is_certificate bytes = option_map_or has_form (tree_of bytes) false

-- how many bytes the text of a certificate has at the most
abbrev pub most_bytes : ℕ
most_bytes = 16777216

-- the bytes begin as a page
abbrev pub is_page : List ℕ → Bool
is_page bytes = starts_with nat_eq bytes (codes "<!DOCTYPE html>")

-- an output that replaces this may replace a file that holds these bytes; one without any may be replaced in any case
abbrev pub may_replace : Holds → List ℕ → Bool
may_replace Anything held = true
may_replace Certificate held = length held == 0 || nat_le (length held) most_bytes && is_certificate held
may_replace Page held = length held == 0 || is_page held

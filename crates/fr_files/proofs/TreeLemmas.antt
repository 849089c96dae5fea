-- The value that bytes are the text of.
use Rattle.std.proofs.Common.{◌≡◌, ℕ, Bool, true, false, List, Option, Some, None, refl, sym, ap, ◌∙◌}
use Rattle.std.specs.Str.{IsUtf8, is_utf8}
use Rattle.std.proofs.lemmas.Str.{IsUtf8-from_is_utf8, is_utf8-from_IsUtf8}
use Rattle.serde_json.specs.Data.{Data}
use Rattle.serde_json.specs.Read.{read}
use Rattle.fr_files.specs.Replaced.{tree_of}

-- what is read is that value
pub tree_read : (bytes : List ℕ) (d : Data) → IsUtf8 bytes → read bytes ≡ Some d → tree_of bytes ≡ Some d
tree_read bytes d utf8 is = rw (is_utf8-from_IsUtf8 bytes utf8) is

-- where nothing is read there is none
pub tree_unread : (bytes : List ℕ) → (IsUtf8 bytes → read bytes ≡ None) → tree_of bytes ≡ None
tree_unread bytes none = go (is_utf8 bytes) refl
  where
    go : (b : Bool) → is_utf8 bytes ≡ b → tree_of bytes ≡ None
    go true e = rw e (none (IsUtf8-from_is_utf8 bytes e))
    go false e = rw e refl

use Rattle.std.proofs.Common.{◌≡◌, List, ◌++◌, String, Global, string_bytes, IsTrue}
use Rattle.std.specs.List.{AllByRecursion}
use Rattle.std.specs.Map.{keys_of}
use Rattle.fr_reader.specs.Keys.{is_key_of}
use Rattle.fr_reader.proofs.table.known_keys.Given as goal

-- the keys are those in front and those that are left, and each one in front is known
abbrev pub invariant-loop-text : goal.invariant-loop-text
invariant-loop-text l =
    (front : List (String Global)) × (keys_of l.table.entries ≡ front ++ l.text-iterator) × AllByRecursion (λ k. IsTrue (is_key_of l.kind (string_bytes k))) front

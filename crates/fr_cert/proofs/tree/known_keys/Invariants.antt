use Rattle.std.proofs.Common.{◌≡◌, List, ◌++◌, String, Global, string_bytes, IsTrue}
use Rattle.fr_cert.proofs.Terms.{AllByRecursion, keys_of, is_key_of}
use Rattle.fr_cert.proofs.tree.known_keys.Given as goal

-- the keys are those in front and those that are left, and each one in front is known
abbrev pub invariant-loop-name : goal.invariant-loop-name
invariant-loop-name l =
    (front : List (String Global)) × (keys_of l.map.entries ≡ front ++ l.name-iterator) × AllByRecursion (λ k. IsTrue (is_key_of l.place (string_bytes k))) front

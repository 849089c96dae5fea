use Rattle.std.proofs.Common.{◌≡◌, ◌++◌, string_bytes, take}
use Rattle.fr_escape.specs.Uri.{uri}
use Rattle.fr_escape.proofs.uri.push_uri.Given as goal

abbrev pub invariant-loop-byte : goal.invariant-loop-byte
invariant-loop-byte l = string_bytes l.out ≡ string_bytes l.fn.out ++ uri (take l.byte-index l.path)

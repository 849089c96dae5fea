use Rattle.std.proofs.Common.{◌≡◌, take, map}
use Rattle.fr_reader.specs.Views.{line_text}
use Rattle.fr_reader.specs.Meaning.{AreNames}
use Rattle.fr_reader.proofs.names.check_each.Given as goal

-- the names so far are names, each is given once, and these are the ones that were seen
abbrev pub invariant-loop-name : goal.invariant-loop-name
invariant-loop-name l = record { seen : l.seen.keys ≡ take l.name-index l.names; names : AreNames (map line_text (take l.name-index l.names)) }

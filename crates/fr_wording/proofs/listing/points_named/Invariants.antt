use Rattle.std.proofs.Common.{◌≡◌, take, string_bytes}
use Rattle.std.specs.List.{flat_map}
use Rattle.fr_program.specs.Points.{points_of}
use Rattle.fr_wording.specs.Listing.{listed_text}
use Rattle.fr_wording.proofs.listing.points_named.Given as goal

-- the lines so far are those of the points so far
abbrev pub invariant-loop-number : goal.invariant-loop-number
invariant-loop-number l = string_bytes l.text ≡ flat_map (listed_text l.sources l.app) (take l.number (points_of l.app))

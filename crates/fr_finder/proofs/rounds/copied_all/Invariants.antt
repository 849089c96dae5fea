use Rattle.std.proofs.Common.{◌≡◌, take}
use Rattle.fr_finder.proofs.rounds.copied_all.Given as goal

abbrev pub invariant-loop-alternative : goal.invariant-loop-alternative
invariant-loop-alternative l = l.copy.items ≡ take l.alternative-index l.alternative-items

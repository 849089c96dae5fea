use Rattle.fr_notes.proofs.Terms.{AllWithin, ImpliesSome}
use Rattle.fr_notes.proofs.implication.imply_each.Given as goal

-- each alternative so far implies some other one
abbrev pub invariant-loop-alternative : goal.invariant-loop-alternative
invariant-loop-alternative l = AllWithin (ImpliesSome l.others) l.alternatives 0 l.alternative-index

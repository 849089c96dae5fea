use Rattle.std.specs.Prelude.{take}
use Rattle.fr_witness.specs.Hunt.{AreFound}
use Rattle.fr_witness.proofs.hunt.Hunt.one_each.Given as goal

-- there is a step for each of the alternatives so far
abbrev pub invariant-loop-one : goal.invariant-loop-one
invariant-loop-one l = AreFound l.self l.way (take l.one-index l.undone) l.steps.items

use Rattle.std.proofs.Common.{take, map}
use Rattle.std.specs.List.{AllZip}
use Rattle.fr_program.specs.View as program
use Rattle.fr_reader.specs.Meaning.{IsCoded}
use Rattle.fr_reader.specs.Views.{actor_text}
use Rattle.fr_reader.proofs.parts.actors_of.Given as goal

abbrev pub invariant-loop-text : goal.invariant-loop-text
invariant-loop-text l = AllZip (IsCoded l.names) (map (actor_text) (take l.text-index l.texts)) (map program.actor_of l.actors.items)

use Rattle.std.proofs.Common.{take, map}
use Rattle.std.specs.List.{AllZip}
use Rattle.fr_program.specs.View as program
use Rattle.fr_reader.specs.Meaning.{IsOwned}
use Rattle.fr_reader.specs.Views.{variable_text}
use Rattle.fr_reader.proofs.parts.variables_of.Given as goal

abbrev pub invariant-loop-index : goal.invariant-loop-index
invariant-loop-index l = AllZip (IsOwned l.names.actors) (map (variable_text) (take l.index l.texts)) (map program.variable_of l.variables.items)

use Rattle.std.proofs.Common.{take, map}
use Rattle.toml.specs.View.{items_view}
use Rattle.fr_reader.specs.Texts.{Each, IsTableOf, IsVariable}
use Rattle.fr_reader.specs.Views.{variable_text}
use Rattle.fr_reader.proofs.variable.variables_of.Given as goal

abbrev pub invariant-loop-index : goal.invariant-loop-index
invariant-loop-index l = Each (IsTableOf IsVariable) (items_view (take l.index l.array.items)) (map (variable_text) l.variables.items)

use Rattle.std.proofs.Common.{take, map}
use Rattle.toml.specs.View.{items_view}
use Rattle.fr_reader.specs.Texts.{Each, IsText}
use Rattle.fr_reader.specs.Views.{line_text}
use Rattle.fr_reader.proofs.actor.lines_of.Given as goal

abbrev pub invariant-loop-value : goal.invariant-loop-value
invariant-loop-value l = Each (IsText) (items_view (take l.value-index l.array.items)) (map (line_text) l.lines.items)

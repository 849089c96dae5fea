use Rattle.std.proofs.Common.{take, map}
use Rattle.toml.specs.View.{items_view}
use Rattle.fr_reader.specs.Texts.{Each, IsTableOf, IsObject}
use Rattle.fr_reader.specs.Views.{object_text}
use Rattle.fr_reader.proofs.object.objects_of.Given as goal

abbrev pub invariant-loop-index : goal.invariant-loop-index
invariant-loop-index l = Each (IsTableOf IsObject) (items_view (take l.index l.array.items)) (map (object_text) l.objects.items)

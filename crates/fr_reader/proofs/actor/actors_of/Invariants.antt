use Rattle.std.proofs.Common.{take, map}
use Rattle.toml.specs.View.{items_view}
use Rattle.fr_reader.specs.Texts.{Each, IsTableOf, IsActor}
use Rattle.fr_reader.specs.Views.{actor_text}
use Rattle.fr_reader.proofs.actor.actors_of.Given as goal

abbrev pub invariant-loop-index : goal.invariant-loop-index
invariant-loop-index l = Each (IsTableOf IsActor) (items_view (take l.index l.array.items)) (map (actor_text) l.actors.items)

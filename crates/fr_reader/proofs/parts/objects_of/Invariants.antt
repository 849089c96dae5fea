use Rattle.std.proofs.Common.{◌≡◌, take, map}
use Rattle.std.specs.List.{AllZip}
use Rattle.fr_program.specs.View as program
use Rattle.fr_reader.specs.Views.{object_text}
use Rattle.fr_reader.proofs.parts.objects_of.Given as goal

abbrev pub invariant-loop-text : goal.invariant-loop-text
invariant-loop-text l = AllZip (λ text o. o ≡ text) (map (object_text) (take l.text-index l.texts)) (map program.object_of l.objects.items)

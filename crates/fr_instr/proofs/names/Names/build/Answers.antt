use Rattle.std.proofs.Common.{◌++◌}
use Rattle.fr_instr.specs.Views.{texts}
use Rattle.fr_instr.proofs.NameLaws.{apart_left, apart_right}
use Rattle.fr_instr.proofs.names.Names.build.Goals as goal

pub numbered-requires-2 : goal.numbered-requires-2
numbered-requires-2 c =
    apart_left (texts c.args.objects.now) (texts c.args.actors.now) (apart_right (texts c.args.variables.now) (texts c.args.objects.now ++ texts c.args.actors.now) c.requires.once)

pub numbered-requires-3 : goal.numbered-requires-3
numbered-requires-3 c =
    apart_right (texts c.args.objects.now) (texts c.args.actors.now) (apart_right (texts c.args.variables.now) (texts c.args.objects.now ++ texts c.args.actors.now) c.requires.once)

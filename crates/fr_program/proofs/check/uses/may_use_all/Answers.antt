use Rattle.fr_program.specs.declared.ids.VarId.{VarId}
use Rattle.fr_program.specs.Fault.{MayUse}
use Rattle.fr_program.specs.Uses.{variables_of}
use Rattle.fr_program.specs.View.{program_of}
use Rattle.fr_program.proofs.UsesLemmas.{All-used, used-All}
use Rattle.fr_program.proofs.check.uses.may_use_all.Goals as goal

pub returns : goal.returns
returns c =
    let F = λ (x : VarId). MayUse (program_of c.args.parts.now) c.args.actor.0 x in
    let xs = variables_of c.args.instr in (
      λ t. All-used F c.variables.result xs c.variables.ensures (c.may_use_places.ensures.0 t),
      λ all. c.may_use_places.ensures.1 (used-All F c.variables.result xs c.variables.ensures all),
    )

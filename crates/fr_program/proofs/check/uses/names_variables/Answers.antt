use Rattle.fr_program.specs.declared.ids.VarId.{VarId}
use Rattle.fr_program.specs.InstrFault.{IsVariable}
use Rattle.fr_program.specs.Uses.{variables_of}
use Rattle.fr_program.specs.View.{program_of}
use Rattle.fr_program.proofs.UsesLemmas.{All-used, used-All}
use Rattle.fr_program.proofs.check.uses.names_variables.Goals as goal

pub returns : goal.returns
returns c =
    let F = λ (x : VarId). IsVariable (program_of c.args.parts.now) x in
    let xs = variables_of c.args.instr in (
      λ t. All-used F c.variables.result xs c.variables.ensures (c.names_places.ensures.0 t),
      λ all. c.names_places.ensures.1 (used-All F c.variables.result xs c.variables.ensures all),
    )

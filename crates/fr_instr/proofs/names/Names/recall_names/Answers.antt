use Rattle.std.proofs.Common.{subst}
use Rattle.fr_instr.specs.Names.{NamesOf, AreNames}
use Rattle.fr_instr.proofs.names.Names.recall_names.Goals as goal

pub returns : goal.returns
returns c = let P : NamesOf → Type 0 = AreNames in subst P c.self.view_is c.self.invariant

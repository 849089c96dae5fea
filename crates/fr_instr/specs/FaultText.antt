-- The texts of line faults: the number and the name that a refusal's line shows.
use Rattle.std.specs.Prelude.{ℕ, List, codes}
use Rattle.fr_instr.specs.declared.fault.LineFault.{LineFault}
use Rattle.fr_instr.specs.declared.fault.LineFault.TheVariants.{Memory, Syntax, UnknownName, UnknownCall, ArgCount, BadNumber}

-- the number and the name of a line fault
abbrev pub text_of : LineFault → List ℕ
text_of Memory = codes "0 Memory"
text_of Syntax = codes "1 Syntax"
text_of UnknownName = codes "2 UnknownName"
text_of UnknownCall = codes "3 UnknownCall"
text_of ArgCount = codes "4 ArgCount"
text_of BadNumber = codes "5 BadNumber"

-- The texts of build faults: the number and the name that a refusal's line shows.
use Rattle.std.specs.Prelude.{ℕ, List, codes}
use Rattle.fr_program.specs.declared.fault.BuildFault.{BuildFault}
use Rattle.fr_program.specs.declared.fault.BuildFault.TheVariants.{Memory, TooMany, BadRange, BadTarget, FallsOff, TwoShared, NotOwner, KindMismatch, FromIsrInTask, ResultRange, Operands, Names}

-- the number and the name of a build fault, without the line of code or the actor that it is about
abbrev pub text_of : BuildFault → List ℕ
text_of Memory = codes "0 Memory"
text_of TooMany = codes "1 TooMany"
text_of (BadRange at) = codes "2 BadRange"
text_of (BadTarget at) = codes "3 BadTarget"
text_of (FallsOff a) = codes "4 FallsOff"
text_of (TwoShared at) = codes "5 TwoShared"
text_of (NotOwner at) = codes "6 NotOwner"
text_of (KindMismatch at) = codes "7 KindMismatch"
text_of (FromIsrInTask at) = codes "8 FromIsrInTask"
text_of (ResultRange at) = codes "9 ResultRange"
text_of (Operands at) = codes "10 Operands"
text_of (Names at) = codes "11 Names"

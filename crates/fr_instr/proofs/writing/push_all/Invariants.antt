use Rattle.std.proofs.Common.{◌≡◌, ◌++◌, take, string_bytes}
use Rattle.fr_instr.specs.Views.{texts}
use Rattle.fr_instr.specs.WrittenLine.{joined}
use Rattle.fr_instr.proofs.writing.push_all.Given as goal

abbrev pub invariant-loop-piece : goal.invariant-loop-piece
invariant-loop-piece l = string_bytes l.out ≡ string_bytes l.initial.out ++ joined (texts (take l.piece-index l.pieces))

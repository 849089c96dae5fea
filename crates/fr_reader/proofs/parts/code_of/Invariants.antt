use Rattle.std.proofs.Common.{take, map}
use Rattle.std.specs.Prelude.{All}
use Rattle.std.specs.List.{AllZip}
use Rattle.fr_instr.specs.Lines.{IsLine}
use Rattle.fr_reader.specs.Views.{line_text}
use Rattle.fr_reader.proofs.parts.code_of.Given as goal

abbrev pub invariant-loop-index : goal.invariant-loop-index
invariant-loop-index l = AllZip (IsLine l.names) (map (line_text) (take l.index l.lines)) l.code.items × All (λ e. IsLine l.names e.0.now e.1) l.recent.items

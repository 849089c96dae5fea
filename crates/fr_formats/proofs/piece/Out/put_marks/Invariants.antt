use Rattle.std.proofs.Common.{◌≡◌, ◌++◌, take, flat_map}
use Rattle.fr_formats.specs.Tokens.{mark}
use Rattle.fr_formats.proofs.piece.Out.put_marks.Given as goal

abbrev pub invariant-loop-mark : goal.invariant-loop-mark
invariant-loop-mark l = l.self.tokens ≡ l.fn.self.tokens ++ flat_map mark (take l.mark-index l.mark-items)

use Rattle.std.proofs.Common.{◌≡◌, ◌++◌, take, flat_map}
use Rattle.fr_formats.specs.Tokens.{tokens_of}
use Rattle.fr_formats.proofs.piece.Out.put.Given as goal

abbrev pub invariant-loop-piece : goal.invariant-loop-piece
invariant-loop-piece l = l.self.tokens ≡ l.fn.self.tokens ++ flat_map tokens_of (take l.piece-index l.pieces)

use Rattle.std.proofs.Common.{◌≡◌, ◌++◌, take, flat_map, string_bytes}
use Rattle.fr_page.specs.Markup.{bytes_of}
use Rattle.fr_page.proofs.writer.Writer.put.Given as goal

abbrev pub invariant-loop-piece : goal.invariant-loop-piece
invariant-loop-piece l = string_bytes l.self.out ≡ string_bytes l.fn.self.out ++ flat_map bytes_of (take l.piece-index l.pieces)

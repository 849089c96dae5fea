use Rattle.std.proofs.Common.{◌≡◌, ◌++◌, take, string_bytes}
use Rattle.fr_page.specs.Markup.{each}
use Rattle.fr_page.proofs.writer.Writer.each.Given as goal

abbrev pub invariant-loop-text : goal.invariant-loop-text
invariant-loop-text l = string_bytes l.self.out ≡ string_bytes l.fn.self.out ++ each l.open (take l.text-index l.texts) l.close

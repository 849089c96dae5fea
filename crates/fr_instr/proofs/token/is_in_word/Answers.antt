use Rattle.fr_instr.proofs.WordBytes.{table_same}
use Rattle.fr_instr.proofs.token.is_in_word.Goals as goal

pub returns-then-byte-lt128 : goal.returns-then-byte-lt128
returns-then-byte-lt128 c = table_same c.args.byte c.if-byte-lt128.true

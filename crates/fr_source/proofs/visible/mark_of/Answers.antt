-- A way out of the lines says nothing: the mark is that of the line itself.
use Rattle.std.proofs.Common.{inr, arith}
use Rattle.fr_source.proofs.Glides.{glides-none}
use Rattle.fr_source.proofs.visible.mark_of.Goals as goal

pub returns-else-last-lines : goal.returns-else-last-lines
returns-else-last-lines c = (c.args.number, (λ v. glides-none _ _ v _), inr (omega arith))

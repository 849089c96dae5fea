-- The line and the column are named.
use Rattle.std.proofs.Common.{refl}
use Rattle.fr_trail.proofs.answer.line_refused.Goals as goal

pub returns : goal.returns
returns c = (_, c.in_ok-format.ensures.ok, refl)

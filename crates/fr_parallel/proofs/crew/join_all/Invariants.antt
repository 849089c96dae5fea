use Rattle.std.proofs.Common.{length}
use Rattle.fr_parallel.proofs.crew.join_all.Given as goal

abbrev pub decreases-loop-handle : goal.decreases-loop-handle
decreases-loop-handle g l = length l.handles.items

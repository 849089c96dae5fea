use Rattle.fr_judge.proofs.Points.{KeepsBelow}
use Rattle.fr_judge.proofs.verdict.judge_among.Given as goal

-- the points so far keep every part
abbrev pub invariant-loop-number : goal.invariant-loop-number
invariant-loop-number l = KeepsBelow l.app l.certificate l.number

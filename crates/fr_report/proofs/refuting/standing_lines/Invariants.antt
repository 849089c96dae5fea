use Rattle.std.proofs.Common.{◌≡◌, take}
use Rattle.fr_wording.specs.Lines.{lines_text}
use Rattle.fr_wording.specs.Standings.{standings_text}
use Rattle.fr_report.proofs.refuting.standing_lines.Given as goal

-- the lines so far are those of the places so far
abbrev pub invariant-loop-standing : goal.invariant-loop-standing
invariant-loop-standing l = lines_text l.lines.items ≡ standings_text l.explains l.app (take l.standing-index l.standings)

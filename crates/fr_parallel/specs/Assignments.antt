-- For private clauses: what the workers of one assignment owe and hand back.
use Rattle.std.specs.Prelude.{ℕ}
use Rattle.fr_board.specs.Values.{PassValue}
use Rattle.fr_ends.specs.Fits.{CertificateFits}
use Rattle.fr_judge.specs.Lists.{AreListsOf}
use Rattle.fr_parallel.specs.declared.crew.Assignment.{Assignment}
use Rattle.fr_worker.specs.Kept.{IsFor, IsNewFor, IsWorkedBy}

-- the board has a job for each point, the certificate fits, and the lists are of both
pub record IsReady (t : Assignment) : Type 0 where
  pub jobs : IsFor t.app.now t.board.now
  pub fits : CertificateFits t.app.now t.certificate.now
  pub lists : AreListsOf t.app.now t.certificate.now t.lists.now

-- a pass of the assignment's board that has done nothing
abbrev pub IsNewOf : Assignment → PassValue → Type 0
IsNewOf t p = IsNewFor t.board.now p

-- the passes of so many workers after their turns, as one
abbrev pub IsDoneBy : Assignment → ℕ → PassValue → Type 0
IsDoneBy t count p = IsWorkedBy t.board.now t.app.now t.certificate.now count p

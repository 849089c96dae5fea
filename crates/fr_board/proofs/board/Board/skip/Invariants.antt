use Rattle.fr_board.specs.declared.progress.Outcome.TheVariants.{Skipped}
use Rattle.fr_board.proofs.board.Board.skip.Given as goal

abbrev pub ghosts-count : goal.ghosts-count
ghosts-count a = record { number = a.number; outcome = Skipped }

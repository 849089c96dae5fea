use Rattle.fr_board.specs.declared.progress.Outcome.TheVariants.{Passed}
use Rattle.fr_board.proofs.board.Board.passed.Given as goal

abbrev pub ghosts-count : goal.ghosts-count
ghosts-count a = record { number = a.number; outcome = Passed }

use Rattle.fr_runner.proofs.threads.run.Given as goal

-- the run is that of the machine that was made
abbrev pub ghosts-run_locked : goal.ghosts-run_locked
ghosts-run_locked g a = record { app = a.machine.approved.app; words = a.machine.words; polls = a.machine.polls }

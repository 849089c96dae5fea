-- What a pass knows, what each call makes of it, and sums over all passes.
--
--   new_progress jobs weight    of a pass that has done nothing
--   after_draw p n              with the open number n at its end
--   after_dry_draw p            with one dry mark more: a draw found no number left
--   after_outcome p n o         where the number n has become o
--   after_look p n              where the last look is n
--   joined p q                  of two passes as one
--   spent_progress              of what is left of a pass that went into another
--   total f passes              f of each pass, added up
--   in_pass f                   f of each number that the pass has drawn, added up
--   dry_marks_of, weight_of     its dry marks, its weight
use Rattle.std.specs.Prelude.{ℕ, ◌+◌, min, List, [], ◌∷◌, ◌++◌}
use Rattle.fr_board.specs.declared.progress.Outcome.{Outcome}
use Rattle.fr_board.specs.declared.progress.Outcome.TheVariants.{Open}
use Rattle.fr_board.specs.declared.progress.Drawn.{Drawn}
use Rattle.fr_board.specs.declared.progress.Progress.{Progress}
use Rattle.fr_board.specs.Drawn.{sum_of, entry, with_outcome}

-- a pass that has done nothing
abbrev pub new_progress : ℕ → ℕ → Progress
new_progress jobs weight = record { jobs = jobs; drawn = []; look = jobs; dry_marks = 0; weight = weight }

-- the pass with one open number more
abbrev pub after_draw : Progress → ℕ → Progress
after_draw p n = record p { drawn = p.drawn ++ entry n Open ∷ [] }

-- the pass with one dry mark more
abbrev pub after_dry_draw : Progress → Progress
after_dry_draw p = record p { dry_marks = p.dry_marks + 1 }

-- the pass in which the number n has become o
abbrev pub after_outcome : Progress → ℕ → Outcome → Progress
after_outcome p n o = record p { drawn = with_outcome n o p.drawn }

-- the pass after a look
abbrev pub after_look : Progress → ℕ → Progress
after_look p n = record p { look = n }

-- two passes as one
abbrev pub joined : Progress → Progress → Progress
joined p q = record { jobs = p.jobs; drawn = p.drawn ++ q.drawn; look = min p.look q.look; dry_marks = p.dry_marks + q.dry_marks; weight = p.weight + q.weight }

-- what is left of a pass that went into another
abbrev pub spent_progress : Progress
spent_progress = record { jobs = 0; drawn = []; look = 0; dry_marks = 0; weight = 0 }

-- f of each pass, added up
abbrev pub total : (Progress → ℕ) → List Progress → ℕ
total f [] = 0
total f (p ∷ ps) = f p + total f ps

-- f of each number of the pass, added up
abbrev pub in_pass : (Drawn → ℕ) → Progress → ℕ
in_pass f p = sum_of f p.drawn

-- its dry marks
abbrev pub dry_marks_of : Progress → ℕ
dry_marks_of p = p.dry_marks

-- its weight
abbrev pub weight_of : Progress → ℕ
weight_of p = p.weight

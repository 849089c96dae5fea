use Rattle.std.proofs.Common.{ℕ, sym, ◌∙◌, subst, arith}
use Rattle.fr_board.specs.Tally.{IsTallyOf}
use Rattle.fr_judge.specs.declared.part.Verdict.{Verdict}
use Rattle.fr_judge.specs.Told.{TellsVerdict}
use Rattle.fr_judge.proofs.Points.{yes-safe}
use Rattle.fr_worker.specs.Kept.{KeepsAt}
use Rattle.fr_parallel.proofs.Least.{all-done, tally-least}
use Rattle.fr_parallel.proofs.verdict.judge_by_crew.Goals as goal

pub verdict_at-requires : goal.verdict_at-requires
verdict_at-requires g c =
    let made = c.in_ok-board.ensures.new in
    let all = c.in_ok-all.ensures.all in
    let heavy = all.weight ∙ made.count ∙ sym made.seats_are in
    let tally = (c.in-Ok-finish.ensures.whole heavy).1 in
    let Keeps : ℕ → Type 0 = KeepsAt c.args.app.now c.args.certificate.now in
    let least = tally-least Keeps _ c.in-Ok-finish.tally.least c.in_ok-all.all.progress all.right
    (subst (λ (n : ℕ). IsTallyOf n c.in-Ok-finish.tally.least c.in_ok-all.all.progress) made.jobs_are tally) in
    let J = c.with-judging.ensures in
    record { least = rw (J.app, J.certificate) least }

pub unreachable-requires : goal.unreachable-requires
unreachable-requires g c =
    let made = c.in_ok-board.ensures.new in
    let all = c.in_ok-all.ensures.all in
    let ended = c.in-Err.ensures in
    let heavy = all.weight ∙ made.count ∙ sym made.seats_are in
    let Keeps : ℕ → Type 0 = KeepsAt c.args.app.now c.args.certificate.now in
    let done = ended.whole heavy ∙ all-done Keeps _ c.in_ok-all.all.progress all.right (ended.drew_each heavy all.dry) in
    omega (arith, ended.unfinished.0)

pub returns-clause-safe : goal.returns-clause-safe
returns-clause-safe g c is_yes =
    let P = c.args.app.now in
    let C = c.args.certificate.now in
    let J = c.with-judging.ensures in
    let verdict : TellsVerdict P C c.verdict_at.result = rw (J.app, J.certificate) at c.verdict_at.ensures.verdict in
    yes-safe P C c.recall_faultless.ensures c.requires.fits (subst (λ (v : Verdict). TellsVerdict P C v) is_yes verdict)

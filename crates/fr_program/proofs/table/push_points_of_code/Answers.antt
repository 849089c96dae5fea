use Rattle.std.proofs.Common.{◌+◌, ◌++◌, [], ◌∷◌, ap, ◌∙◌, length}
use Rattle.std.proofs.lemmas.List.{drop_all, length-append}
use Rattle.fr_program.specs.Points.{points_along}
use Rattle.fr_program.specs.PointNumbers.{starts_along}
use Rattle.fr_program.proofs.PointLemmas.{points_along-drop, push-first, push-all}
use Rattle.fr_program.proofs.PointLaws.{length_points_at}
use Rattle.fr_program.proofs.StartLemmas.{starts_along-drop}
use Rattle.fr_program.proofs.table.push_points_of_code.Goals as goal

pub loop-pc-preserved : goal.loop-pc-preserved
loop-pc-preserved c =
    let done = c.loop-pc.points.items in
    let size = ap (λ xs. length xs) c.in_ok-push_points_at.ensures.points ∙ (length-append done _ ∙ ap (λ k. length done + k) (length_points_at _ _ _)) in
    let pushed = c.in_ok-push.ensures.items ∙ ap (λ n. c.loop-pc.starts.items ++ (n ∷ [])) (c.len.ensures ∙ c.loop-pc.points.ok.0) in
    record {
      points = push-first _ _ _ _ _ _ c.in_ok-push_points_at.ensures.points (points_along-drop _ _ _ _ c.loop-pc-test.true) c.loop-pc.invariant.points;
      starts = push-first _ _ _ _ _ _ pushed (starts_along-drop (length done) _ _ _ _ c.loop-pc-test.true size) c.loop-pc.invariant.starts;
    }

pub returns-clause-points : goal.returns-clause-points
returns-clause-points c =
    push-all _ _ _ (ap (λ code. points_along c.args.actor.0 c.loop-pc.pc code) (drop_all _ _ c.loop-pc-test.false)) c.loop-pc.invariant.points

pub returns-clause-starts : goal.returns-clause-starts
returns-clause-starts c =
    push-all _ _ _ (ap (λ code. starts_along (length c.loop-pc.points.items) code) (drop_all _ _ c.loop-pc-test.false)) c.loop-pc.invariant.starts

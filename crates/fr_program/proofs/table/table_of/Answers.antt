use Rattle.std.proofs.Common.{◌+◌, ap, map, length, ◌∙◌}
use Rattle.std.proofs.lemmas.List.{drop_all, length-append, map_push}
use Rattle.fr_program.specs.View.{actor_of}
use Rattle.fr_program.specs.Points.{points_from}
use Rattle.fr_program.specs.PointNumbers.{starts_from}
use Rattle.fr_program.proofs.PointLemmas.{points_from-drop, push-first, push-all}
use Rattle.fr_program.proofs.PointLaws.{length_points_along}
use Rattle.fr_program.proofs.StartLemmas.{starts_from-drop}
use Rattle.fr_program.proofs.table.table_of.Goals as goal

pub loop-a-preserved : goal.loop-a-preserved
loop-a-preserved c =
    let done = c.loop-a.points.items in
    let row = c.in_ok-push_points_of_code.field-0 in
    let size = ap (λ xs. length xs) c.in_ok-push_points_of_code.ensures.points ∙ (length-append done _ ∙ ap (λ k. length done + k) (length_points_along _ _ _)) in
    let pushed = ap (map (λ v. v.items)) c.in_ok-push.ensures.items ∙ map_push (λ v. v.items) c.loop-a.starts.items row in
    record {
      points = push-first _ _ _ _ _ _ c.in_ok-push_points_of_code.ensures.points (points_from-drop _ _ _ _ c.loop-a-test.true c.index-actors-a.is c.deref.ensures.value) c.loop-a.invariant.points;
      starts = push-first _ _ _ _ _ _ pushed (starts_from-drop (length done) _ _ _ _ _ _ c.loop-a-test.true c.index-actors-a.is c.deref.ensures.value c.in_ok-push_points_of_code.ensures.starts size) c.loop-a.invariant.starts;
    }

pub returns-clause-points : goal.returns-clause-points
returns-clause-points c =
    push-all _ _ _ (ap (λ actors. points_from c.loop-a.a (map actor_of actors)) (drop_all _ _ c.loop-a-test.false)) c.loop-a.invariant.points

pub returns-clause-starts : goal.returns-clause-starts
returns-clause-starts c =
    push-all _ _ _ (ap (λ actors. starts_from (length c.loop-a.points.items) (map actor_of actors)) (drop_all _ _ c.loop-a-test.false)) c.loop-a.invariant.starts

use Rattle.std.specs.Prelude.{◌≢◌}
use Rattle.fr_notes.proofs.Terms.{turned}
use Rattle.fr_notes.proofs.ComparisonLaws.{if_none, apart-turned, no-pair-same, no-pair-turned, turned-least}
use Rattle.fr_notes.proofs.comparison.both_apart.Goals as goal

pub returns-in_err-new_right-clause-none : goal.returns-in_err-new_right-clause-none
returns-in_err-new_right-clause-none c =
    let a = c.args.left in
    let b = c.args.right in
    if_none _ (no-pair-same (turned (λ x y. x ≢ y)) (λ x y. x ≢ y) a b apart-turned (no-pair-turned (λ x y. x ≢ y) b a c.in_err-new_right.ensures.none))

pub returns-clause-some : goal.returns-clause-some
returns-clause-some c = record {
  left = c.in_ok-new_left.ensures.some;
  right = turned-least c.args.right c.args.left c.in_ok-new_right.new_right c.in_ok-new_right.ensures.some;
}

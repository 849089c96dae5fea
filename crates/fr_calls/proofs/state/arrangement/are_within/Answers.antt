-- Each number is in a range exactly where each is at least its lower and at most its upper end.
use Rattle.std.proofs.Common.{sym, subst}
use Rattle.std.specs.Prelude.{◌≤ℤ◌, ℤ, List, All}
use Rattle.std.proofs.lemmas.Int.{to_z-of_z}
use mir.Syntax.{w64}
use Rattle.fr_calls.proofs.state.arrangement.are_within.Goals as goal

abbrev AllFrom : List ℤ → ℤ → Type 0
AllFrom vs lo = All (λ v. lo ≤ℤ v) vs

abbrev AllUpTo : List ℤ → ℤ → Type 0
AllUpTo vs hi = All (λ v. v ≤ℤ hi) vs

pub returns-then-are_from : goal.returns-then-are_from
returns-then-are_from c =
    let vs = c.args.values.now.items in
    let zl = to_z-of_z w64 c.args.lo c.ranges.lo in
    let zh = to_z-of_z w64 c.args.hi c.ranges.hi in
    let from = subst (AllFrom vs) zl (c.are_from.ensures.0 c.if-are_from.true) in (
      (λ h. let to = subst (AllUpTo vs) zh (c.are_up_to.ensures.0 h) in λ k d b. (from k d b, to k d b)),
      (λ all. c.are_up_to.ensures.1 (subst (AllUpTo vs) (sym zh) (λ k d b. (all k d b).1))),
    )

pub returns-else-are_from : goal.returns-else-are_from
returns-else-are_from c =
    let vs = c.args.values.now.items in
    let zl = to_z-of_z w64 c.args.lo c.ranges.lo in
    ((λ h. cc), (λ all. c.are_from.ensures.1 (subst (AllFrom vs) (sym zl) (λ k d b. (all k d b).0))))

-- A name that is found among the later ones is one of a pair; one that isn't adds its pairs to those so far.
use Rattle.std.proofs.Common.{◌≢◌, List, ℕ, Bor}
use Rattle.std.proofs.lemmas.Bool.{false≢true}
use Rattle.fr_program.proofs.PairLemmas.{pairs_more, pairs_later}
use Rattle.fr_program.proofs.check.names.are_distinct.Goals as goal

abbrev Differs : Bor (List ℕ) → Bor (List ℕ) → Type 0
Differs x y = x.now ≢ y.now

pub returns-then-not-differs_from_each : goal.returns-then-not-differs_from_each
returns-then-not-differs_from_each c = (
  λ f. absurd (false≢true f),
  λ pairs. c.if-not-differs_from_each.ensures.1 (pairs_later Differs c.args.names.now c.loop-k.k _ c.loop-k-test.true pairs),
)

pub loop-k-preserved : goal.loop-k-preserved
loop-k-preserved c =
    pairs_more Differs c.args.names.now c.loop-k.k _ c.loop-k-test.true c.loop-k.invariant (c.differs_from_each.ensures.0 c.if-not-differs_from_each.false)

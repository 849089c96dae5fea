-- At each place is the block of its run.
use Rattle.std.proofs.Common.{◌≡◌, ◌<◌, ℕ, length, sym, ap, subst, arith}
use Rattle.std.specs.Prelude.{All, IfOk}
use Rattle.fr_interfere.proofs.Terms.{AllZip, range_with_len, IfOk-then, nat_range-All, IsBlockAt, IsInRun, IsRun}
use Rattle.fr_interfere.proofs.RowLaws.{made-list, blocks-each, blocks-found}
use Rattle.fr_interfere.proofs.rows.blocks_by.Goals as goal

pub collect-requires-clause-ready : goal.collect-requires-clause-ready
collect-requires-clause-ready g c κs within =
    let ends = c.into_par_iter.ensures in
    let n = length c.as_slice-runs.result.now in
    let each = subst (λ rs. All (λ r. IsRun c.args.numbers.now r) rs) (sym c.as_slice-runs.ensures.value) c.in_ok-runs.ensures.each in
    let inside = nat_range-All (λ i. i < n) 0 n (λ i low high. high) in
    rw (c.map.ensures.base, c.with_min_len.ensures.base, c.map.ensures.f, ends.0, ends.1) (λ k d lt. ((c.requires.listed, (each, (inside k d lt, c.requires.fit))), λ y e. tt))

pub returns-clause-each : goal.returns-clause-each
returns-clause-each g c =
    let h = c.in_ok-made.ensures in
    let ends = c.into_par_iter.ensures in
    let P = c.args.app.now in
    let notes = c.args.notes.now in
    let numbers = c.args.numbers.now in
    let runs = c.as_slice-runs.result.now in
    let n = length runs in
    let list : h.1.0 ≡ range_with_len 0 n = rw (h.1.1, c.map.ensures.base, c.with_min_len.ensures.base, ends.0, ends.1) (ap (λ m. range_with_len 0 m) (omega arith)) in
    let zip = rw c.map.ensures.f at h.1.2 in
    let each = subst (λ ns. AllZip (λ k r. IfOk r (λ b. IsBlockAt P notes numbers runs k b)) ns h.0) list zip in
    IfOk-then c.in_ok-made.made _ _ (made-list _ (λ k b. IsBlockAt P notes numbers runs k b) (λ v. v.items) c.in_ok-made.made h.0 n each h.2)
    (λ v all. blocks-each P notes numbers runs v.items all.0 all.1)

pub returns-clause-found : goal.returns-clause-found
returns-clause-found g c =
    let h = c.in_ok-made.ensures in
    let ends = c.into_par_iter.ensures in
    let P = c.args.app.now in
    let notes = c.args.notes.now in
    let numbers = c.args.numbers.now in
    let runs = c.as_slice-runs.result.now in
    let n = length runs in
    let list : h.1.0 ≡ range_with_len 0 n = rw (h.1.1, c.map.ensures.base, c.with_min_len.ensures.base, ends.0, ends.1) (ap (λ m. range_with_len 0 m) (omega arith)) in
    let zip = rw c.map.ensures.f at h.1.2 in
    let each = subst (λ ns. AllZip (λ k r. IfOk r (λ b. IsBlockAt P notes numbers runs k b)) ns h.0) list zip in
    let found = subst (λ rs. (j : ℕ) → j < length numbers → IsInRun rs j) (sym c.as_slice-runs.ensures.value) c.in_ok-runs.ensures.found in
    IfOk-then c.in_ok-made.made _ _ (made-list _ (λ k b. IsBlockAt P notes numbers runs k b) (λ v. v.items) c.in_ok-made.made h.0 n each h.2)
    (λ v all q at listed. blocks-found P notes numbers runs v.items all.0 all.1 found q listed)

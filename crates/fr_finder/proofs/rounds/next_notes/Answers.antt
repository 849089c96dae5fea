use Rattle.std.proofs.Common.{◌≡◌, ◌<◌, length}
use Rattle.rayon.proofs.ToStd.{nat_range-All}
use Rattle.fr_program.specs.Points.{points_of}
use Rattle.fr_notes.specs.Fits.{NoteFits}
use Rattle.fr_finder.proofs.Items.{made-count, made-fit, from-zero}
use Rattle.fr_finder.proofs.rounds.next_notes.Goals as goal

pub collect-requires-clause-ready : goal.collect-requires-clause-ready
collect-requires-clause-ready g c κs within =
    let ends = c.into_par_iter.ensures in
    let n = length (points_of c.args.before.app.now) in
    let inside = nat_range-All (λ i. i < n) 0 n (λ i low high. high) in
    rw (c.map.ensures.base, c.with_min_len.ensures.base, c.map.ensures.f, ends.0, ends.1, c.points.ensures) (λ k d lt. ((inside k d lt, c.requires), λ y e. tt))

pub returns-clause-points : goal.returns-clause-points
returns-clause-points g c =
    let h = c.in_ok-notes.ensures in
    let ends = c.into_par_iter.ensures in
    let n = length (points_of c.args.before.app.now) in
    let count : length h.1.0 ≡ n =
    rw (h.1.1, c.map.ensures.base, c.with_min_len.ensures.base, ends.0, ends.1, c.points.ensures) (from-zero n) in
    made-count (λ v. v.items) c.in_ok-notes.notes h.0 h.1.0 _ _ n h.1.2 count h.2

pub returns-clause-fit : goal.returns-clause-fit
returns-clause-fit g c =
    let h = c.in_ok-notes.ensures in
    let zip = rw c.map.ensures.f at h.1.2 in
    made-fit (λ v. v.items) c.in_ok-notes.notes h.0 h.1.0 _ (λ note. NoteFits c.args.before.app.now note) zip h.2

use Rattle.std.proofs.Common.{◌≡◌, ◌<◌, ◌≤◌, ◌∙◌, [], length, refl, sym, subst, arith}
use Rattle.fr_notes.proofs.Terms.{false≢true, get_or_default, AllWithin-more, AllWithin-upto, All-from_all_within, at_read, refuted, NoteFits}
use Rattle.fr_program.specs.Points.{points_of}
use Rattle.fr_notes.proofs.notes.Notes.fits.Goals as goal

pub returns-then-count-points : goal.returns-then-count-points
returns-then-count-points c = (λ f. absurd (false≢true f), λ fit. let same = fit.0 in absurd (omega (arith, same)))

pub returns-then-not-note_fits : goal.returns-then-not-note_fits
returns-then-not-note_fits c =
    let i = c.loop-number.number in
    let notes = c.args.self.now in
    let within : i < length notes = omega arith in (
      λ f. absurd (false≢true f),
      λ fit. absurd (refuted _ c.if-not-note_fits.true c.note_fits.ensures.1 (subst (NoteFits c.args.app.now) (sym c.note.ensures) (fit.1 i [] within))),
    )

pub loop-number-preserved : goal.loop-number-preserved
loop-number-preserved c =
    let Q = NoteFits c.args.app.now in
    let i = c.loop-number.number in
    let notes = c.args.self.now in
    let note = c.note.result.now in
    let within : i < length notes = omega arith in
    let is = c.note.ensures ∙ get_or_default notes i [] note within in
    AllWithin-more Q notes 0 i c.loop-number.invariant (at_read notes Q i note within is (c.note_fits.ensures.0 c.if-not-note_fits.false))

pub returns : goal.returns
returns c =
    let Q = NoteFits c.args.app.now in
    let notes = c.args.self.now in
    let end : length notes ≤ c.loop-number.number = omega arith in
    let many : length notes ≡ length (points_of c.args.app.now) = omega arith in (
      λ _. (many, All-from_all_within Q notes (AllWithin-upto Q notes 0 c.loop-number.number (length notes) end c.loop-number.invariant)),
      λ _. refl,
    )

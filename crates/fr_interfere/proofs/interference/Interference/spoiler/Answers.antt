-- Where all steps stay in declared ranges, only what the note says can be changed; else the leavers are looked at too.
use Rattle.std.proofs.Common.{◌≡◌, Some, length, sym, subst}
use Rattle.std.specs.Prelude.{slice_get}
use Rattle.fr_interfere.proofs.Terms.{Point, points_of, IsSpoiler, CanLeave, Lists, IsFirstOf, IsListed}
use Rattle.fr_effects.proofs.IndexLaws.{numbers-below}
use Rattle.fr_interfere.proofs.SpoilerLaws.{first-of-two, first-of-three}
use Rattle.fr_interfere.proofs.interference.Interference.spoiler.Goals as goal

pub returns-then-self : goal.returns-then-self
returns-then-self c =
    let P = c.self.inside.app.now in
    let notes = c.self.inside.notes.now in
    subst (λ m. (p : Point) → slice_get (points_of m.app) c.args.number ≡ Some p → IsSpoiler m.app m.notes p c.lesser-changer.result) c.self.view_is (λ p here.
    first-of-two P c.recall_faultless.ensures notes p c.first_writer-writer.result c.first_maker.result c.lesser-changer.result c.lesser-changer.ensures
    (c.self.invariant.stay.0 c.if-self.true) (c.first_writer-writer.ensures p here) (c.first_maker.ensures p here))

pub first_listed-requires-clause-below : goal.first_listed-requires-clause-below
first_listed-requires-clause-below c =
    let P = c.self.inside.app.now in
    let lists = subst (Lists P (CanLeave P) (length (points_of P))) (sym c.leavers.ensures) c.self.invariant.index.leavers in
    numbers-below P (CanLeave P) c.leavers.result.now lists

pub returns : goal.returns
returns c =
    let P = c.self.inside.app.now in
    let notes = c.self.inside.notes.now in
    let I = c.self.inside.index.now in
    subst (λ m. (p : Point) → slice_get (points_of m.app) c.args.number ≡ Some p → IsSpoiler m.app m.notes p c.lesser.result) c.self.view_is (λ p here.
    first-of-three P c.recall_faultless.ensures notes c.recall_numbered.ensures c.self.invariant.fit I c.self.invariant.index p
    c.first_writer-writer.result c.first_maker.result c.lesser-changer.result c.first_listed.result c.lesser.result c.lesser-changer.ensures c.lesser.ensures
    (c.first_writer-writer.ensures p here) (c.first_maker.ensures p here)
    (subst (λ xs. IsFirstOf P notes p (IsListed P xs) c.first_listed.result) c.leavers.ensures (c.first_listed.ensures p here)))

-- Where the note doesn't speak of the object, no such step disturbs it; else each such step's point is in the list.
use Rattle.std.proofs.Common.{◌≡◌, Some, length, sym, subst}
use Rattle.std.specs.Prelude.{All}
use Rattle.fr_interfere.proofs.Terms.{points_of, made_of, IsUnclaimed, Lists, AreListed, IsRow, IsListed, MakesOne}
use Rattle.fr_effects.proofs.IndexLaws.{listed-point}
use Rattle.fr_interfere.proofs.RowLaws.{lists-listed}
use Rattle.fr_interfere.proofs.SpoilerLaws.{first-fewer}
use Rattle.fr_interfere.proofs.UnsaidLaws.{unclaimed-undisturbed}
use Rattle.fr_interfere.proofs.spoilers.first_maker_of.Goals as goal

pub returns-then-is_unclaimed : goal.returns-then-is_unclaimed
returns-then-is_unclaimed c = λ p here q there makes.
    let P = c.args.app.now in
    let unclaimed = subst (λ note. All (λ n. IsUnclaimed c.args.object.0 n) note) (c.at.ensures.is p here) (c.is_unclaimed.ensures.0 c.if-is_unclaimed.true) in
    unclaimed-undisturbed P c.recall_faultless.ensures c.args.notes.now p q there c.args.object.0 makes unclaimed

pub first_among-requires-clause-listed : goal.first_among-requires-clause-listed
first_among-requires-clause-listed c =
    let P = c.args.app.now in
    let k = c.args.object.0 in
    subst (AreListed P) (sym c.lives.ensures) (lists-listed P (λ e. made_of e ≡ Some k) _ (c.requires.index.lives k c.requires.object))

pub first_among-requires-clause-row : goal.first_among-requires-clause-row
first_among-requires-clause-row c = λ row is.
    subst (λ xs. IsRow c.args.app.now c.args.notes.now xs row.now) (sym c.lives.ensures) (c.maker_row.ensures c.args.app.now c.args.notes.now c.args.index.now c.requires.hulls row is)

pub returns-else-is_unclaimed : goal.returns-else-is_unclaimed
returns-else-is_unclaimed c = λ p here.
    let P = c.args.app.now in
    let k = c.args.object.0 in
    let lists = subst (Lists P (λ e. made_of e ≡ Some k) (length (points_of P))) (sym c.lives.ensures) (c.requires.index.lives k c.requires.object) in
    first-fewer P c.args.notes.now p (IsListed P c.lives.result.now) (MakesOne P k)
    (λ q at has. listed-point P (λ e. made_of e ≡ Some k) c.lives.result.now c.recall_numbered.ensures lists q at has)
    c.first_among.result (c.first_among.ensures p here)

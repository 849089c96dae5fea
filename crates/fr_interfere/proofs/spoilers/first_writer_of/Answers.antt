-- Where the note doesn't speak of the variable, no such step disturbs it; else each such step's point is in the list.
use Rattle.std.proofs.Common.{◌≡◌, Some, length, sym, subst}
use Rattle.std.specs.Prelude.{All}
use Rattle.fr_interfere.proofs.Terms.{points_of, target_of, IsFree, Lists, AreListed, IsRow, IsListed, WritesInside}
use Rattle.fr_effects.proofs.IndexLaws.{listed-point}
use Rattle.fr_interfere.proofs.RowLaws.{lists-listed}
use Rattle.fr_interfere.proofs.SpoilerLaws.{first-fewer}
use Rattle.fr_interfere.proofs.UnsaidLaws.{free-undisturbed}
use Rattle.fr_interfere.proofs.spoilers.first_writer_of.Goals as goal

pub returns-then-is_free : goal.returns-then-is_free
returns-then-is_free c = λ p here q there writes.
    let P = c.args.app.now in
    let free = subst (λ note. All (λ n. IsFree P c.args.variable.0 n) note) (c.at.ensures.is p here) (c.is_free.ensures.0 c.if-is_free.true) in
    free-undisturbed P c.recall_faultless.ensures c.args.notes.now p q there c.args.variable.0 writes.0 writes.1 free

pub first_among-requires-clause-listed : goal.first_among-requires-clause-listed
first_among-requires-clause-listed c =
    let P = c.args.app.now in
    let k = c.args.variable.0 in
    subst (AreListed P) (sym c.writers.ensures) (lists-listed P (λ e. target_of e ≡ Some k) _ (c.requires.index.writers k c.requires.variable))

pub first_among-requires-clause-row : goal.first_among-requires-clause-row
first_among-requires-clause-row c = λ row is.
    subst (λ xs. IsRow c.args.app.now c.args.notes.now xs row.now) (sym c.writers.ensures) (c.writer_row.ensures c.args.app.now c.args.notes.now c.args.index.now c.requires.hulls row is)

pub returns-else-is_free : goal.returns-else-is_free
returns-else-is_free c = λ p here.
    let P = c.args.app.now in
    let k = c.args.variable.0 in
    let lists = subst (Lists P (λ e. target_of e ≡ Some k) (length (points_of P))) (sym c.writers.ensures) (c.requires.index.writers k c.requires.variable) in
    first-fewer P c.args.notes.now p (IsListed P c.writers.result.now) (WritesInside P c.args.notes.now k)
    (λ q at has. listed-point P (λ e. target_of e ≡ Some k) c.writers.result.now c.recall_numbered.ensures lists q at has.0)
    c.first_among.result (c.first_among.ensures p here)

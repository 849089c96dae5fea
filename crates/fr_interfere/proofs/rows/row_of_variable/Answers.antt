-- A list of the index is one of rising numbers of points.
use Rattle.std.proofs.Common.{◌≡◌, Some, sym, subst}
use Rattle.fr_interfere.proofs.Terms.{target_of, AreListed}
use Rattle.fr_interfere.proofs.RowLaws.{lists-listed}
use Rattle.fr_interfere.proofs.rows.row_of_variable.Goals as goal

pub row_of-requires-clause-listed : goal.row_of-requires-clause-listed
row_of-requires-clause-listed c =
    let P = c.args.app.now in
    let x = c.args.variable in
    subst (AreListed P) (sym c.writers.ensures) (lists-listed P (λ e. target_of e ≡ Some x) _ (c.requires.index.writers x c.requires.variable))

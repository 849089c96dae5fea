use Rattle.std.proofs.Common.{◌≡◌, inr, subst, sym, false}
use Rattle.std.proofs.lemmas.Bool.{false≢true}
use Rattle.std.proofs.lemmas.Result.{err_from_is_err_and}
use Rattle.toml.specs.View.{table_view}
use Rattle.fr_program.specs.declared.fault.BuildFault.{BuildFault}
use Rattle.fr_program.specs.View.{program_of}
use Rattle.fr_reader.specs.Faults.{is_memory}
use Rattle.fr_reader.specs.Views.{texts_view}
use Rattle.fr_reader.specs.declared.fault.ReadFault.TheVariants as fault
use Rattle.fr_reader.proofs.app.read_app.Goals as goal

pub returns-in_err-parts-clause-err : goal.returns-in_err-parts-clause-err
returns-in_err-parts-clause-err c =
    let p = err_from_is_err_and c.from_residual-in_err-parts.result c.from_residual-in_err-parts.ensures.1 in
    rw (p.1, p.2) (λ named. inr (
      table_view c.in_ok-table.table,
      c.in_ok-table.ensures.ok,
      inr (texts_view c.in_ok-texts.texts, c.in_ok-texts.ensures.ok, c.in_err-parts.ensures.err named),
    ))

pub returns-clause-err : goal.returns-clause-err
returns-clause-err c named =
    let P : BuildFault → Type 0 = λ f. is_memory (fault.Build f) ≡ false in
    let stands = c.in-Err.ensures.present (λ e. false≢true (sym (subst P e named))) in
    inr (
      table_view c.in_ok-table.table,
      c.in_ok-table.ensures.ok,
      inr (texts_view c.in_ok-texts.texts, c.in_ok-texts.ensures.ok, inr (c.in_ok-parts.ensures.names, inr (inr (program_of c.in_ok-parts.parts, c.in_ok-parts.ensures.ok, stands)))),
    )

use Rattle.std.proofs.lemmas.Result.{err_from_is_err_and}
use Rattle.fr_program.specs.View as program
use Rattle.fr_reader.specs.Meaning.{IsOwned}
use Rattle.fr_reader.specs.Views.{variable_text}
use Rattle.fr_reader.proofs.ZipLemmas.{zip_more, get_mapped}
use Rattle.fr_reader.proofs.parts.variables_of.Goals as goal

pub returns-in_err-variable_of-clause-err : goal.returns-in_err-variable_of-clause-err
returns-in_err-variable_of-clause-err c =
    let p = err_from_is_err_and c.from_residual.result c.from_residual.ensures.1 in
    rw (p.1, p.2) (λ named. (
      c.loop-index.index,
      _,
      get_mapped variable_text c.args.texts.now c.loop-index.index _ c.loop-index-test.true,
      c.in_err-variable_of.ensures.err named,
    ))

pub loop-index-preserved : goal.loop-index-preserved
loop-index-preserved c =
    zip_more (IsOwned c.args.names.now.actors) variable_text program.variable_of c.args.texts.now c.loop-index.index _ c.loop-index.variables.items c.push.new.self.items c.in_ok-variable_of.field-0
    c.loop-index-test.true c.loop-index.invariant c.in_ok-variable_of.ensures.ok c.in_ok-push.ensures.items

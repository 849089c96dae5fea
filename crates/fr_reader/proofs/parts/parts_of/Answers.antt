-- A fault that is present in what the texts say is present in the texts, whose names are good.
use Rattle.std.proofs.Common.{rules, inr}
use Rattle.std.proofs.lemmas.Result.{IfErr-weaker}
use Rattle.fr_reader.specs.Meaning.{AreNames, names_in}
use Rattle.fr_reader.specs.Views.{texts_view}
use Rattle.fr_reader.proofs.parts.parts_of.Goals as goal

pub returns-clause-err : goal.returns-clause-err
returns-clause-err c =
    let names : AreNames (names_in (texts_view c.args.texts.now)) = search rules in
    IfErr-weaker c.parts_with.result _ _ (λ f said named. inr (names, said named)) c.parts_with.ensures.err

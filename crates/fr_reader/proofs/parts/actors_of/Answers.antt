use Rattle.std.proofs.Common.{get_or, subst}
use Rattle.std.proofs.lemmas.Result.{err_from_is_err_and}
use Rattle.fr_program.specs.View as program
use Rattle.fr_reader.specs.Meaning.{IsCoded}
use Rattle.fr_reader.specs.Stands.{InLines}
use Rattle.fr_reader.specs.Views.{actor_text}
use Rattle.fr_reader.specs.declared.actor.ActorText.{ActorText}
use Rattle.fr_reader.proofs.ZipLemmas.{zip_more, get_mapped}
use Rattle.fr_reader.proofs.parts.actors_of.Goals as goal

pub returns-in_err-actor_of-clause-err : goal.returns-in_err-actor_of-clause-err
returns-in_err-actor_of-clause-err c =
    let p = err_from_is_err_and c.from_residual.result c.from_residual.ensures.1 in
    let P : ActorText → Type 0 = λ a. InLines c.args.names.now (actor_text a).name (actor_text a).lines c.in_err-actor_of.field-0.0 in
    rw (p.1, p.2) (λ named. (
      c.loop-text.text-index,
      actor_text (get_or c.args.texts.now c.loop-text.text-index c.text-item.result),
      get_mapped actor_text c.args.texts.now c.loop-text.text-index c.text-item.result c.loop-text-test.true,
      subst P c.text-item.is (c.in_err-actor_of.ensures.err named),
    ))

pub loop-text-preserved : goal.loop-text-preserved
loop-text-preserved c =
    let P : ActorText → Type 0 = λ a. IsCoded c.args.names.now (actor_text a) (program.actor_of c.in_ok-actor_of.field-0) in
    zip_more (IsCoded c.args.names.now) actor_text program.actor_of c.args.texts.now c.loop-text.text-index c.text-item.result c.loop-text.actors.items c.push.new.self.items c.in_ok-actor_of.field-0
    c.loop-text-test.true c.loop-text.invariant (subst P c.text-item.is c.in_ok-actor_of.ensures.ok) c.in_ok-push.ensures.items

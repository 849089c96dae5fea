use Rattle.std.proofs.Common.{◌≢◌, ◌∙◌, All, AllPairs, sym, ap, subst}
use Rattle.fr_program.specs.Limits.{IsName}
use Rattle.fr_instr.specs.Views.{texts}
use Rattle.fr_instr.proofs.AppNamesLemmas.{all_three, variable_texts, object_texts, actor_texts, three_names}
use Rattle.fr_instr.proofs.app_names.names_of.Goals as goal

pub build-requires-clause-names : goal.build-requires-clause-names
build-requires-clause-names c =
    let P = c.args.app.now in
    let vs = variable_texts P c.variables.result.now _ c.variables.ensures (ap texts c.deref.ensures.value ∙ c.in_ok-variables.ensures) in
    let os = object_texts P c.objects.result.now _ c.objects.ensures (ap texts c.deref-2.ensures.value ∙ c.in_ok-objects.ensures) in
    let as_ = actor_texts P c.actors.result.now _ c.actors.ensures (ap texts c.deref-3.ensures.value ∙ c.in_ok-actors.ensures) in
    subst (All IsName) (sym (all_three P _ _ _ vs os as_)) c.recall_faultless.ensures.names.names

pub build-requires-clause-once : goal.build-requires-clause-once
build-requires-clause-once c =
    let P = c.args.app.now in
    let vs = variable_texts P c.variables.result.now _ c.variables.ensures (ap texts c.deref.ensures.value ∙ c.in_ok-variables.ensures) in
    let os = object_texts P c.objects.result.now _ c.objects.ensures (ap texts c.deref-2.ensures.value ∙ c.in_ok-objects.ensures) in
    let as_ = actor_texts P c.actors.result.now _ c.actors.ensures (ap texts c.deref-3.ensures.value ∙ c.in_ok-actors.ensures) in
    subst (AllPairs (λ x y. x ≢ y)) (sym (all_three P _ _ _ vs os as_)) c.recall_faultless.ensures.names.once

pub returns : goal.returns
returns c =
    let P = c.args.app.now in
    let vs = variable_texts P c.variables.result.now _ c.variables.ensures (ap texts c.deref.ensures.value ∙ c.in_ok-variables.ensures) in
    let os = object_texts P c.objects.result.now _ c.objects.ensures (ap texts c.deref-2.ensures.value ∙ c.in_ok-objects.ensures) in
    let as_ = actor_texts P c.actors.result.now _ c.actors.ensures (ap texts c.deref-3.ensures.value ∙ c.in_ok-actors.ensures) in
    three_names P c.build.result _ _ _ vs os as_ c.build.ensures.variables c.build.ensures.objects c.build.ensures.actors

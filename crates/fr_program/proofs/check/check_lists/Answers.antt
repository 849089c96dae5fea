-- Each list is checked as it is held; what holds there holds of the list that it means.
use Rattle.std.proofs.Common.{subst, sym, ◌∙◌, All}
use Rattle.std.proofs.lemmas.List.{length-map}
use Rattle.std.proofs.lemmas.List.Elements.{All-map}
use Rattle.fr_program.specs.Program.{ObjectOf}
use Rattle.fr_program.specs.Limits.{VariableInLimits, KindInLimits}
use Rattle.fr_program.specs.ListFault.{HasOwner}
use Rattle.fr_program.specs.View.{variable_of, object_of, actor_of, program_of}
use Rattle.fr_program.proofs.ListLemmas.{All-unmapped}
use Rattle.fr_program.proofs.FaultLemmas.{refuted, all_end, falls_off}
use Rattle.fr_program.proofs.check.check_lists.Goals as goal

pub returns-then-not-are_variables_in_limits-clause-err : goal.returns-then-not-are_variables_in_limits-clause-err
returns-then-not-are_variables_in_limits-clause-err c = λ free.
    refuted _ c.if-not-are_variables_in_limits.true c.are_variables_in_limits.ensures.1 (rw c.deref.ensures.value (All-unmapped VariableInLimits variable_of c.args.parts.now.variables.items free.variables))

pub returns-then-not-are_objects_in_limits-clause-err : goal.returns-then-not-are_objects_in_limits-clause-err
returns-then-not-are_objects_in_limits-clause-err c = λ free.
    let F = λ (o : ObjectOf). KindInLimits o.kind in
    refuted _ c.if-not-are_objects_in_limits.true c.are_objects_in_limits.ensures.1 (rw c.deref-else-not-are_variables_in_limits.ensures.value (All-unmapped F object_of c.args.parts.now.objects.items free.objects))

pub returns-in-Some-clause-err : goal.returns-in-Some-clause-err
returns-in-Some-clause-err c =
    falls_off c.args.parts.now.actors.items c.in-Some.actor (rw (← c.deref-else-not-are_objects_in_limits.ensures.value) (sym c.in-Some.ensures))

pub returns-then-not-are_owners_there-clause-err : goal.returns-then-not-are_owners_there-clause-err
returns-then-not-are_owners_there-clause-err c = λ free.
    let parts = c.args.parts.now in
    let count = length-map parts.actors.items actor_of ∙ (sym parts.actors.ok.0 ∙ sym c.len.ensures) in
    let F = HasOwner c.len.result in
    refuted _ c.if-not-are_owners_there.true c.are_owners_there.ensures.1 (rw c.deref-in_default.ensures.value (All-unmapped F variable_of parts.variables.items (subst (λ n. All (HasOwner n) (program_of parts).variables) count free.owners)))

pub returns-else-not-are_owners_there-clause-ok : goal.returns-else-not-are_owners_there-clause-ok
returns-else-not-are_owners_there-clause-ok c =
    let parts = c.args.parts.now in
    let count = length-map parts.actors.items actor_of ∙ (sym parts.actors.ok.0 ∙ sym c.len.ensures) in
    let F = λ (o : ObjectOf). KindInLimits o.kind in
    record {
      small = c.is_small.ensures.0 c.if-not-is_small.false;
      variables = All-map VariableInLimits variable_of parts.variables.items (rw (← c.deref.ensures.value) (c.are_variables_in_limits.ensures.0 c.if-not-are_variables_in_limits.false));
      objects = All-map F object_of parts.objects.items (rw (← c.deref-else-not-are_variables_in_limits.ensures.value) (c.are_objects_in_limits.ensures.0 c.if-not-are_objects_in_limits.false));
      ends = all_end parts.actors.items (rw (← c.deref-else-not-are_objects_in_limits.ensures.value) (sym c.in_default.ensures));
      owners = subst (λ n. All (HasOwner n) (program_of parts).variables) (sym count) (All-map (HasOwner c.len.result) variable_of parts.variables.items (rw (← c.deref-in_default.ensures.value) (c.are_owners_there.ensures.0 c.if-not-are_owners_there.false)));
    }

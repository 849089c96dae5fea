use Rattle.std.proofs.Common.{◌≡◌, sym, ap, ◌∙◌}
use Rattle.fr_notes.proofs.Terms.{Calls, On, first_forbidden}
use Rattle.fr_notes.proofs.Never.{forbidden-never}
use Rattle.fr_notes.proofs.StepLaws.{object-there}
use Rattle.fr_notes.proofs.steps.change_by.Goals as goal

pub first_forbidden-requires : goal.first_forbidden-requires
first_forbidden-requires c = c.recall_faultless.ensures.names.things _ _ _ c.requires.instr

pub change_before-requires-clause-names : goal.change_before-requires-clause-names
change_before-requires-clause-names c = c.recall_faultless.ensures.names.things _ _ _ c.requires.instr

pub change_inside-requires-clause-object : goal.change_inside-requires-clause-object
change_inside-requires-clause-object c =
    let it = c.in-Call-On in
    let call : it.field-0 ≡ On it.call = rw it.is at it.field-0-is in
    object-there c.args.app.now c.args.instr.now it.call (c.recall_faultless.ensures.names.things _ _ _ c.requires.instr) (it.is ∙ ap (λ x. Calls x) call)

pub returns-in-Some-clause-none : goal.returns-in-Some-clause-none
returns-in-Some-clause-none c =
    let P = c.args.app.now in
    let i = c.args.instr.now in
    forbidden-never P c.args.known.now c.args.point c.args.way i _ (record { faultless = c.recall_faultless.ensures; fits = c.requires.fits; point = c.requires.point; stands = c.in-Before.is; instr = c.requires.instr }) (ap (λ x. first_forbidden P x i) (sym c.condition_at-condition.ensures) ∙ sym c.first_forbidden.ensures ∙ c.in-Some.is)

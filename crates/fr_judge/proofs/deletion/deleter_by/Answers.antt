-- Where the point isn't inside a call, no delete is a danger to it.
use Rattle.std.proofs.Common.{◌≡◌, Some, None, sym, ◌∙◌, subst}
use Rattle.fr_judge.proofs.Terms.{same_Some, instr_of, used_inside}
use Rattle.fr_judge.proofs.Deletes.{outside-near, used-there}
use Rattle.fr_judge.proofs.deletion.deleter_by.Goals as goal

pub first_delete-requires-clause-object : goal.first_delete-requires-clause-object
first_delete-requires-clause-object c = used-there c.args.app.now c.recall_faultless.ensures c.point.result c.in-Some.object (sym c.used_inside.ensures ∙ c.in-Some.is)

pub returns-in-Some : goal.returns-in-Some
returns-in-Some c = λ p e.
    let same = same_Some _ _ (sym c.point.ensures ∙ e) in
    c.first_delete.ensures p e (subst (λ r. used_inside r.side (instr_of c.args.app.now r) ≡ Some c.in-Some.object) same (sym c.used_inside.ensures ∙ c.in-Some.is))

pub returns-in-None : goal.returns-in-None
returns-in-None c = λ p e q.
    let same = same_Some _ _ (sym c.point.ensures ∙ e) in
    outside-near c.args.app.now c.args.notes.now p q (subst (λ r. used_inside r.side (instr_of c.args.app.now r) ≡ None) same (sym c.used_inside.ensures ∙ c.in-None.is))

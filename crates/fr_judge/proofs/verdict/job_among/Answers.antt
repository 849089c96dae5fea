-- Each call says whether the parts of one kind are kept; the first kind that isn't gives the answer.
use Rattle.std.proofs.Common.{Some, None, ap, subst}
use Rattle.fr_judge.proofs.Terms.{IsFirstOwn}
use Rattle.fr_judge.proofs.Firsts.{own-first, guard-first, near-first, spoiled-first, all-kept, first-is-of}
use Rattle.fr_judge.proofs.verdict.job_among.Goals as goal

pub returns-in-Some-clause-first : goal.returns-in-Some-clause-first
returns-in-Some-clause-first c = λ p e.
    let P = c.args.app.now in
    let notes = ap (λ D. D.notes) c.certificate.view_is in
    let own = subst (λ ns. IsFirstOwn P ns p (Some c.in-Some.failing)) notes (c.in-Some.ensures p e) in
    rw c.part_of_own.ensures (own-first P c.args.certificate.now p c.in-Some.failing own)

pub returns-in-Some-clause-speaks : goal.returns-in-Some-clause-speaks
returns-in-Some-clause-speaks c =
    let P = c.args.app.now in
    let C = c.args.certificate.now in
    let p = c.point-point.result in
    let notes = ap (λ D. D.notes) c.certificate.view_is in
    let own = subst (λ ns. IsFirstOwn P ns p (Some c.in-Some.failing)) notes (c.in-Some.ensures p c.point-point.ensures) in
    rw c.part_of_own.ensures (first-is-of P c.recall_faultless.ensures C p _ (own-first P C p c.in-Some.failing own))

pub returns-in-Some-guarded-clause-first : goal.returns-in-Some-guarded-clause-first
returns-in-Some-guarded-clause-first c = λ p e.
    let P = c.args.app.now in
    let notes = ap (λ D. D.notes) c.certificate.view_is in
    let own = subst (λ ns. IsFirstOwn P ns p None) notes (c.in_default.ensures p e) in
    guard-first P c.args.certificate.now p c.in-Some-guarded.end own (c.in-Some-guarded.ensures.first p e)

pub returns-in-Some-deleter_among-clause-first : goal.returns-in-Some-deleter_among-clause-first
returns-in-Some-deleter_among-clause-first c = λ p e.
    let P = c.args.app.now in
    let notes = ap (λ D. D.notes) c.certificate.view_is in
    let own = subst (λ ns. IsFirstOwn P ns p None) notes (c.in_default.ensures p e) in
    let near = c.in-Some-deleter_among.ensures p e in
    near-first P c.args.certificate.now p c.in-Some-deleter_among.other own (c.in_default-guarded.ensures.first p e) near

pub returns-in-Some-spoiler_among-clause-first : goal.returns-in-Some-spoiler_among-clause-first
returns-in-Some-spoiler_among-clause-first c = λ p e.
    let P = c.args.app.now in
    let notes = ap (λ D. D.notes) c.certificate.view_is in
    let own = subst (λ ns. IsFirstOwn P ns p None) notes (c.in_default.ensures p e) in
    let near = c.in_default-deleter_among.ensures p e in
    let spoiler = c.in-Some-spoiler_among.ensures p e in
    spoiled-first P c.args.certificate.now p c.point.result c.in-Some-spoiler_among.other c.point.ensures own (c.in_default-guarded.ensures.first p e) near spoiler

pub returns-in-None-clause-first : goal.returns-in-None-clause-first
returns-in-None-clause-first c = λ p e.
    let P = c.args.app.now in
    let notes = ap (λ D. D.notes) c.certificate.view_is in
    let own = subst (λ ns. IsFirstOwn P ns p None) notes (c.in_default.ensures p e) in
    let near = c.in_default-deleter_among.ensures p e in
    let calm = c.in-None.ensures p e in
    all-kept P c.args.certificate.now p own (c.in_default-guarded.ensures.first p e) near calm

use Rattle.std.proofs.Common.{◌≡◌, ◌++◌, ◌+◌, ◌∷◌, [], Some, take, get_or, ap, ◌∙◌, subst, rules}
use Rattle.std.specs.Prelude.{IfSome}
use Rattle.std.proofs.lemmas.List.{take_more, take_all}
use Rattle.fr_witness.specs.Hunt.{IsFound, AreFound}
use Rattle.fr_witness.proofs.Found.{grown}
use Rattle.fr_witness.proofs.hunt.Hunt.one_each.Goals as goal

pub loop-one-preserved : goal.loop-one-preserved
loop-one-preserved c =
    let h = c.args.self.now in
    let way = c.args.way in
    let us = c.args.undone.now in
    let i = c.loop-one.one-index in
    let n = c.one-item.result in
    let at : get_or us i n ≡ n = search (rules, c.one-item.is) in
    let more = take_more us i n c.loop-one-test.true ∙ ap (λ m. take i us ++ m ∷ []) at in
    let found = subst (λ o. IfSome o (λ t. IsFound h (Some way) (n ∷ []) way t)) c.in-Some.is c.in_ok-step.ensures in
    grown h way (take i us) (take (i + 1) us) n c.loop-one.steps.items c.push.new.self.items c.in-Some.step more c.in_ok-push-in-Some.ensures.items c.loop-one.invariant found

pub returns : goal.returns
returns c =
    let us = c.args.undone.now in
    let all : take c.loop-one.one-index us ≡ us = take_all c.loop-one.one-index us c.loop-one-test.false in
    subst (λ vs. AreFound c.args.self.now c.args.way vs c.loop-one.steps.items) all c.loop-one.invariant

-- Each row leaves what the function that has it says.
use Rattle.std.proofs.Common.{None, Some, refl}
use Rattle.fr_notes.proofs.Terms.{Then, Else}
use Rattle.fr_notes.proofs.PlainRows.{goto-left, no-row, return-left}
use Rattle.fr_notes.proofs.BeforeLaws.{as-made, left-here}
use Rattle.fr_notes.proofs.steps.change_before.Goals as goal

pub returns-in-Goto-Then : goal.returns-in-Goto-Then
returns-in-Goto-Then c =
    let P = c.args.app.now in
    let k = c.args.known.now in
    rw (c.in-Goto-Then.is-0, c.in-Goto-Then.is-1) (λ p spot none. as-made P k p Then _ _ c.unchanged.ensures.same (goto-left P k p _ spot none))

pub returns-in-Return-Then : goal.returns-in-Return-Then
returns-in-Return-Then c =
    let P = c.args.app.now in
    let k = c.args.known.now in
    rw (c.in-Return-Then.is-0, c.in-Return-Then.is-1) (λ p spot none. as-made P k p Then _ _ c.unchanged-in-Return-Then.ensures.same (return-left P k p spot none))

pub returns-in-If-default : goal.returns-in-If-default
returns-in-If-default c = left-here c.args.app.now c.args.known.now _ _ _ _ _ c.in-If-default.is-0 refl (c.branched.ensures c.args.app.now _)

pub returns-in-Call-Then : goal.returns-in-Call-Then
returns-in-Call-Then c = left-here c.args.app.now c.args.known.now _ _ _ _ _ c.in-Call-Then.is-0 c.in-Call-Then.is-1 c.called.ensures

pub returns-in-Call-Else : goal.returns-in-Call-Else
returns-in-Call-Else c = left-here c.args.app.now c.args.known.now _ _ _ _ _ c.in-Call-Else.is-0 c.in-Call-Else.is-1 (c.call_failed.ensures c.args.app.now)

pub returns-in-Set-Then : goal.returns-in-Set-Then
returns-in-Set-Then c = left-here c.args.app.now c.args.known.now _ _ _ _ (Some c.set.result) c.in-Set-Then.is-0 c.in-Set-Then.is-1 (c.set.ensures c.args.app.now)

pub returns-in_default-Else : goal.returns-in_default-Else
returns-in_default-Else c =
    left-here c.args.app.now c.args.known.now _ _ _ _ None c.in_default-Else.is-0 c.in_default-Else.is-1 (no-row c.args.app.now c.args.known.now _ Else (λ t r. r))

pub returns-in_default-Else-2 : goal.returns-in_default-Else-2
returns-in_default-Else-2 c =
    left-here c.args.app.now c.args.known.now _ _ _ _ None c.in_default-Else.is-0 c.in_default-Else.is-1 (no-row c.args.app.now c.args.known.now _ Else (λ t r. r))

pub returns-in_default-Else-3 : goal.returns-in_default-Else-3
returns-in_default-Else-3 c =
    left-here c.args.app.now c.args.known.now _ _ _ _ None c.in_default-Else.is-0 c.in_default-Else.is-1 (no-row c.args.app.now c.args.known.now _ Else (λ t r. r))

pub returns-in_default-Else-4 : goal.returns-in_default-Else-4
returns-in_default-Else-4 c =
    left-here c.args.app.now c.args.known.now _ _ _ _ None c.in_default-Else.is-0 c.in_default-Else.is-1 (no-row c.args.app.now c.args.known.now _ Else (λ t r. r))

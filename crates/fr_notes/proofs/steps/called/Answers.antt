-- Each call leaves what the function that has it says.
use Rattle.std.proofs.Common.{Some, ap, refl, sym, subst}
use Rattle.fr_notes.proofs.Terms.{Calls, Then, LeavesBefore}
use Rattle.fr_notes.proofs.PlainRows.{yield-left, delay-left, end-left}
use Rattle.fr_notes.proofs.BeforeLaws.{as-made, left-here}
use Rattle.fr_notes.proofs.steps.called.Goals as goal

pub returns-in-Yield : goal.returns-in-Yield
returns-in-Yield c =
    let P = c.args.app.now in
    let k = c.args.known.now in
    subst (λ x. LeavesBefore P k (Calls x) Then (Some c.unchanged.result)) (sym c.in-Yield.is) (λ p spot none. as-made P k p Then _ _ c.unchanged.ensures.same (yield-left P k p spot none))

pub returns-in-Delay : goal.returns-in-Delay
returns-in-Delay c =
    let P = c.args.app.now in
    let k = c.args.known.now in
    subst (λ x. LeavesBefore P k (Calls x) Then (Some c.unchanged-in-Delay.result)) (sym c.in-Delay.is) (λ p spot none. as-made P k p Then _ _ c.unchanged-in-Delay.ensures.same (delay-left P k p _ spot none))

pub returns-in-DeleteSelf : goal.returns-in-DeleteSelf
returns-in-DeleteSelf c =
    let P = c.args.app.now in
    let k = c.args.known.now in
    subst (λ x. LeavesBefore P k (Calls x) Then (Some c.unchanged-in-DeleteSelf.result)) (sym c.in-DeleteSelf.is) (λ p spot none. as-made P k p Then _ _ c.unchanged-in-DeleteSelf.ensures.same (end-left P k p spot none))

pub returns-in-EnterCritical : goal.returns-in-EnterCritical
returns-in-EnterCritical c = left-here c.args.app.now c.args.known.now _ _ _ _ _ (ap (λ x. Calls x) c.in-EnterCritical.is) refl (c.entered.ensures c.args.app.now _)

pub returns-in-ExitCritical : goal.returns-in-ExitCritical
returns-in-ExitCritical c = left-here c.args.app.now c.args.known.now _ _ _ _ _ (ap (λ x. Calls x) c.in-ExitCritical.is) refl (c.left.ensures c.args.app.now _)

pub returns-in-SuspendAll : goal.returns-in-SuspendAll
returns-in-SuspendAll c = left-here c.args.app.now c.args.known.now _ _ _ Then (Some c.suspended.result) (ap (λ x. Calls x) c.in-SuspendAll.is) refl (c.suspended.ensures c.args.app.now)

pub returns-in-ResumeAll : goal.returns-in-ResumeAll
returns-in-ResumeAll c = left-here c.args.app.now c.args.known.now _ _ _ _ _ (ap (λ x. Calls x) c.in-ResumeAll.is) refl (c.resumed.ensures c.args.app.now)

pub returns-in-Create : goal.returns-in-Create
returns-in-Create c = left-here c.args.app.now c.args.known.now _ _ _ _ _ (ap (λ x. Calls x) c.in-Create.is) refl (c.created.ensures c.args.app.now _ _)

pub returns-in-Delete : goal.returns-in-Delete
returns-in-Delete c = left-here c.args.app.now c.args.known.now _ _ _ _ _ (ap (λ x. Calls x) c.in-Delete.is) refl (c.deleted.ensures c.args.app.now _)

pub returns-in-On : goal.returns-in-On
returns-in-On c = left-here c.args.app.now c.args.known.now _ _ _ _ _ (ap (λ x. Calls x) c.in-On.is) refl (c.begun.ensures c.args.app.now (sym c.kind.ensures))

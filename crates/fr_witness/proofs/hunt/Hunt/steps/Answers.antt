use Rattle.std.proofs.Common.{arith, ap, length, ◌≡◌, ◌∷◌, [], None, sym, subst}
use Rattle.std.specs.Prelude.{IfSome}
use Rattle.fr_rules.specs.declared.way.Way.TheVariants.{Then, Else}
use Rattle.fr_witness.specs.Hunt.{IsFound, AreFound, UndoAll}
use Rattle.fr_witness.proofs.Found.{single, several}
use Rattle.fr_witness.proofs.hunt.Hunt.steps.Goals as goal

pub returns-in-Some : goal.returns-in-Some
returns-in-Some c =
    let h = c.args.self.now in
    let us = c.alternatives-undone.result.now in
    let way = c.in-Some.field-0-0 in
    let step = c.in-Some.step in
    let found = subst (λ o. IfSome o (λ t. IsFound h None us t.0 t.1)) c.in-Some.is c.in_ok-step.ensures in
    let one = subst (λ vs. UndoAll h vs (step ∷ [])) c.alternatives-undone.ensures (single h us way step found) in
    subst (λ ts. UndoAll h c.args.note.now ts) (sym c.in_ok-vec.ensures.items) one

pub returns-in-Some-2 : goal.returns-in-Some-2
returns-in-Some-2 c =
    let h = c.args.self.now in
    let us = c.alternatives-undone.result.now in
    let found = subst (λ o. IfSome o (λ s. AreFound h Then us s.items)) c.in-Some-2.is c.in_ok-steps.ensures in
    let some : us ≡ [] → ⊥ = λ e. let none : length us ≡ 0 = ap length e in absurd (omega (arith, none, c.if-undone-lt2.false)) in
    subst (λ vs. UndoAll h vs c.in-Some-2.steps.items) c.alternatives-undone.ensures (several h us Then c.in-Some-2.steps.items some found)

pub returns-in-Some-3 : goal.returns-in-Some-3
returns-in-Some-3 c =
    let h = c.args.self.now in
    let us = c.alternatives-undone.result.now in
    let found = subst (λ o. IfSome o (λ s. AreFound h Else us s.items)) c.in-Some-3.is c.in_ok-steps-2.ensures in
    let some : us ≡ [] → ⊥ = λ e. let none : length us ≡ 0 = ap length e in absurd (omega (arith, none, c.if-undone-lt2.false)) in
    subst (λ vs. UndoAll h vs c.in-Some-3.steps.items) c.alternatives-undone.ensures (several h us Else c.in-Some-3.steps.items some found)

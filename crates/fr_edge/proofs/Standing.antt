-- States in which an actor stands at a point, and one alternative holds of it.
use Rattle.std.proofs.Common.{◌≡◌, Some, sym, ap, ◌∙◌, subst}
use Rattle.fr_edge.proofs.Terms.{same_Some, Instr, Point, Program, instr_at, instr_of, State, At, Rule, Breach, Breaches, Alternative, NotedBy}

-- where the point's actor breaches a rule, it does so at the point's instruction
pub breach-here : (P : Program) (p : Point) (i : Instr) (n : Alternative) (S : State) (rule : Rule) → instr_of P p ≡ Some i → NotedBy P p n S → Breach P S rule p.actor.0 → Breaches P S p.actor.0 p.side i rule
breach-here P p i n S rule is noted b =
    let e : At b.stands.pc b.side ≡ At p.pc p.side = sym b.stands.at ∙ noted.at in
    let pc : b.stands.pc ≡ p.pc = cc in
    let side : b.side ≡ p.side = cc in
    let same : b.instr ≡ i = same_Some _ _ (sym b.stands.is ∙ ap (λ k. instr_at P p.actor.0 k) pc ∙ is) in
    subst (λ s. Breaches P S p.actor.0 s i rule) side (subst (λ j. Breaches P S p.actor.0 b.side j rule) same b.breaches)

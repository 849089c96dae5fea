-- An actor that is at a point has the point's instruction, and steps by a row of it.
use Rattle.std.proofs.Common.{◌≡◌, List, Some, sym, ap, ◌∙◌, subst}
use Rattle.std.specs.Prelude.{ℤ, IsTrue}
use Rattle.fr_judge.proofs.Terms.{same_Some, Instr, Point, Side, Program, instr_at, instr_of, State, At, goes_to, Rule, Stands, Breaches, Way, StepBy, Row, landing, transition, Note, IsAt, Noted}
use Rattle.fr_judge.proofs.Terms.{KeepsRule, is_own}

module _ (P : Program) (p : Point) (i : Instr) (is : instr_of P p ≡ Some i) where
  -- it is at the point's side, and before or inside that instruction
  pub is-here : (S : State) (side : Side) (j : Instr) → IsAt S p → Stands P S p.actor.0 side j → (side ≡ p.side) × (j ≡ i)
  is-here S side j at s =
      let e : At p.pc p.side ≡ At s.pc side = sym at ∙ s.at in
      let pc : p.pc ≡ s.pc = cc in
      (cc, same_Some _ _ (sym (subst (λ k. instr_at P p.actor.0 k ≡ Some j) (sym pc) s.is) ∙ is))

  -- a rule that the instruction breaches in no state with the point's note is kept
  pub rule-kept : (notes : List Note) (rule : Rule) → ((S : State) → Noted P notes p S → IsTrue (is_own i rule) → Breaches P S p.actor.0 p.side i rule → ⊥) → KeepsRule P notes p rule
  rule-kept notes rule free j at own S noted breach =
      let e = is-here S breach.side breach.instr noted.at breach.stands in
      let same = same_Some _ _ (sym at ∙ is) in
      free S noted (subst (λ k. IsTrue (is_own k rule)) same own) (subst (λ k. Breaches P S p.actor.0 p.side k rule) e.1 (subst (λ s. Breaches P S p.actor.0 s breach.instr rule) e.0 breach.breaches))

  -- its step is by a row of the instruction, and leads where that row does
  pub steps-by : (way : Way) (S : State) (c : ℤ) (S' : State) → IsAt S p → StepBy P way S p.actor.0 c S' → (mid : State) × Row P (transition S p.actor.0 c mid) p.side i way × (S' ≡ goes_to p.actor.0 (landing p.pc p.side i way) mid)
  steps-by way S c S' at t =
      let e = is-here S t.side t.instr at (record { pc = t.pc; at = t.at; is = t.is }) in
      let places : At t.pc t.side ≡ At p.pc p.side = sym t.at ∙ at in
      let pc : t.pc ≡ p.pc = cc in (
        t.mid,
        subst (λ k. Row P (transition S p.actor.0 c t.mid) p.side k way) e.1 (subst (λ s. Row P (transition S p.actor.0 c t.mid) s t.instr way) e.0 t.row),
        t.moved ∙ ap (λ k. goes_to p.actor.0 (landing k t.side t.instr way) t.mid) pc ∙ ap (λ s. goes_to p.actor.0 (landing p.pc s t.instr way) t.mid) e.0 ∙ ap (λ j. goes_to p.actor.0 (landing p.pc p.side j way) t.mid) e.1,
      )

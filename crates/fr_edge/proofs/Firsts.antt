-- The first own obligation that fails, from what is known of each alternative and each row.
use Rattle.std.proofs.Common.{◌≡◌, ℕ, ◌<◌, List, length, Option, Some, None, sym, ap, ◌∙◌, subst, arith}
use Rattle.std.specs.Prelude.{Contains, slice_get}
use Rattle.std.proofs.lemmas.Option.{slice_get_within}
use Rattle.fr_edge.proofs.Terms.{same_Some, Instr, Point, Program, actor_at, instr_at, no_actor, IsPoint, points_of, point_number, IsFaultless, Place, At, Done, Rule, Alternative, Note, note_at}
use Rattle.fr_edge.proofs.Terms.{KeepsRule, Goes, KeepsRuleBy, BreaksRuleBy, IsAmong, NoteOutcome, GoesOutcome}
use Rattle.fr_program.proofs.InstrLemmas.{instr_at-within}
use Rattle.fr_program.specs.PointNumbers.{PointsAreNumbered}
use Rattle.fr_program.specs.declared.ids.ActorId.{ActorId}
use Rattle.fr_rules.specs.declared.way.Landing.TheVariants.{At as LandsAt}
use Rattle.fr_rules.specs.Landing.{landing_of}
use Rattle.fr_edge.specs.declared.failure.Own.{Own}
use Rattle.fr_edge.specs.FirstOwn.{KeepsRules, IsLeastRule, IsFirstOwn}

-- code is short
pub pc-small : (P : Program) (a pc : ℕ) (i : Instr) → IsFaultless P → instr_at P a pc ≡ Some i → pc < 512
pc-small P a pc i free e =
    let l = slice_get_within (actor_at P a).code pc i e in
    let s = free.small.code a no_actor (instr_at-within P a pc i e) in omega arith

-- the first own obligation is the same of what is equal
pub own-there : (P Q : Program) (ns ms : List Note) (p q : Point) (own : Option Own) → P ≡ Q → ns ≡ ms → p ≡ q → IsFirstOwn P ns p own → IsFirstOwn Q ms q own
own-there P Q ns ms p q own same_app same_notes same_point first =
    subst (λ A. IsFirstOwn A ms q own) same_app (subst (λ L. IsFirstOwn P L q own) same_notes (subst (λ r. IsFirstOwn P ns r own) same_point first))

module _ (P : Program) (notes : List Note) (p : Point) (note : Note) (is_note : note ≡ note_at P notes p) where
  keeps-rule : (rule : Rule) → ((n : Alternative) → IsAmong note (length note) n → KeepsRuleBy P p n rule) → KeepsRule P notes p rule
  keeps-rule rule keeps = λ i is own S noted breach.
      let h = noted.holds in
      keeps h.0 (subst (λ q. Contains q h.0) (sym is_note) h.1) i is own S (record { formed = noted.formed; at = noted.at; holds = h.2 }) breach

  breaks-rule : (rule : Rule) (n : Alternative) → IsAmong note (length note) n → BreaksRuleBy P p n rule → KeepsRule P notes p rule → ⊥
  breaks-rule rule n m b keeps =
      keeps b.instr b.is b.own b.state (record { formed = b.noted.formed; at = b.noted.at; holds = (n, subst (λ q. Contains q n) is_note m, b.noted.holds) }) b.breach

  pub least-rule : (rule : Rule) → NoteOutcome P p note (length note) (Some rule) → IsLeastRule P notes p rule
  least-rule rule o = (breaks-rule rule o.0.0 o.0.1 o.0.2, λ other lt. keeps-rule other (o.1 other lt))

  pub all-rules : NoteOutcome P p note (length note) None → KeepsRules P notes p
  all-rules o = λ rule. keeps-rule rule (λ n m. o n m rule)

  -- the point with the least missed number
  pub goes-first : (k : ℕ) (t : Point) → PointsAreNumbered P → slice_get (points_of P) k ≡ Some t → GoesOutcome P notes p (Some k) → IsPoint P t × (Goes P notes p t → ⊥) × ((other : Point) → IsPoint P other → point_number P other < point_number P t → Goes P notes p other)
  goes-first k t numbered is o =
      let listed = numbered.listed k t is in
      let same : o.0 ≡ t = same_Some _ _ (sym (numbered.at o.0 o.1) ∙ ap (λ j. slice_get (points_of P) j) o.2 ∙ is) in
      (listed.0, subst (λ q. Goes P notes p q → ⊥) same o.3, λ other at lt. o.4 other at (omega (arith, lt, listed.1)))

  pub missed-below : (k : ℕ) → PointsAreNumbered P → GoesOutcome P notes p (Some k) → k < length (points_of P)
  missed-below k numbered o = let l = slice_get_within (points_of P) (point_number P o.0) o.0 (numbered.at o.0 o.1) in omega (arith, o.2)

-- where the code lands
pub landed : (a : ActorId) (place : Place) (target : Point) → LandsAt target ≡ landing_of a place → (target.actor ≡ a) × (place ≡ At target.pc target.side)
landed a (At pc side) target e =
    let f : target ≡ record { actor = a; pc = pc; side = side } = cc in
    (ap (λ q. q.actor) f, sym (ap (λ q. At q.pc q.side) f))
landed a Done target e = cc

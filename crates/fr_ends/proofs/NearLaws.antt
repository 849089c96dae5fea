-- A delete is a danger to a point exactly where the point is inside a call on the object that is deleted, and some state
-- has both notes.
use Rattle.std.proofs.Common.{◌≡◌, ◌≢◌, ℕ, Option, Some, Bool, true, false, refl, sym, ap, ◌∙◌, subst, eq-eqb}
use Rattle.std.specs.Prelude.{◌↔◌, List, not, IsTrue}
use Rattle.std.specs.Option.{option_map}
use Rattle.std.proofs.lemmas.Bool.{eqb-true, false≢true}
use Rattle.fr_program.specs.declared.ids.ActorId.{ActorId}
use Rattle.fr_program.specs.declared.ids.ObjId.{ObjId}
use Rattle.fr_program.specs.declared.ids.Point.{Point}
use Rattle.fr_program.specs.declared.instr.ObjectCall.{ObjectCall}
use Rattle.fr_program.specs.Program.{Program}
use Rattle.fr_program.specs.Lookup.{IsPoint, instr_of}
use Rattle.fr_program.specs.Fault.{IsFaultless}
use Rattle.fr_notes.specs.Note.{Note}
use Rattle.fr_notes.specs.Noted.{note_at}
use Rattle.fr_notes.specs.Compare.{AreTogether}
use Rattle.fr_notes.specs.Fits.{NoteFits}
use Rattle.fr_notes.proofs.PairLaws.{together-noted}
use Rattle.fr_ends.specs.Guarded.{called_inside, deleted_before, IsInsideOn, Deletes, Near}
use Rattle.fr_ends.specs.Nearness.{are_same, deletes_used}

-- what it is that one point's instruction deletes what the other one uses
pub record Clash (P : Program) (p q : Point) : Type 0 where
  pub object : ℕ
  pub call : ObjectCall
  pub inside : IsInsideOn P p object call
  pub deletes : Deletes P q object

module _ (P : Program) (p q : Point) where
  pub clash-found : Clash P p q → deletes_used P p q ≡ true
  clash-found c =
      let u = c.inside in
      let d = c.deletes in rw (u.1, d.2) (eq-eqb c.call.object.0 d.0.0 (u.0 ∙ sym d.1))

  pub found-clash : deletes_used P p q ≡ true → Clash P p q
  found-clash e = parts (called_inside p.side (instr_of P p)) (deleted_before q.side (instr_of P q)) refl refl e
    where
      parts : (used : Option ObjectCall) (dropped : Option ObjId) → called_inside p.side (instr_of P p) ≡ used → deleted_before q.side (instr_of P q) ≡ dropped → are_same (option_map (λ call. call.object) used) dropped ≡ true → Clash P p q
      parts (Some call) (Some n) inside deletes t = record {
        object = call.object.0;
        call = call;
        inside = (refl, inside);
        deletes = (n, sym (eqb-true call.object.0 n.0 t), deletes);
      }
      parts used dropped inside deletes t = cc

  pub not-near : Clash P p q → IsFaultless P → IsPoint P p → IsPoint P q → q.actor ≢ p.actor → (notes : List Note) → NoteFits P (note_at P notes p) → NoteFits P (note_at P notes q) → AreTogether P p.actor.0 (note_at P notes p) q.actor.0 (note_at P notes q) → Near P notes p q → ⊥
  not-near c free at there ne notes f g both near =
      let d = together-noted P free p q at there ne (note_at P notes p) (note_at P notes q) f g both in
      near there ne c.object c.call c.inside c.deletes d.0
      (record { formed = d.5.formed; at = d.5.at; holds = (d.1, d.3, d.5.holds) })
      (record { formed = d.6.formed; at = d.6.at; holds = (d.2, d.4, d.6.holds) })

  pub near-apart : (notes : List Note) → (AreTogether P p.actor.0 (note_at P notes p) q.actor.0 (note_at P notes q) → ⊥) → Near P notes p q
  near-apart notes none = λ there ne o call inside deletes S h k.
      none ((λ e. ne (let f : ℕ → ActorId = λ a. record { 0 = a } in ap f (sym e))), S, h.formed, h.holds, k.holds)

  pub near-unused : (notes : List Note) → deletes_used P p q ≡ false → Near P notes p q
  near-unused notes f = λ there ne o call inside deletes S h k.
      let t = clash-found (record { object = o; call = call; inside = inside; deletes = deletes }) in cc

  -- where the instruction of q deletes what p uses, the delete is no danger exactly where the notes aren't together
  pub near-both : IsFaultless P → IsPoint P p → IsPoint P q → (notes : List Note) (one other : Note) → one ≡ note_at P notes p → other ≡ note_at P notes q → NoteFits P one → NoteFits P other → deletes_used P p q ≡ true → (t : Bool) → (IsTrue t ↔ AreTogether P p.actor.0 one q.actor.0 other) → (IsTrue (not t) ↔ Near P notes p q)
  near-both free at there notes one other is_one is_other f g used t h = go t (subst (λ m. IsTrue t ↔ AreTogether P p.actor.0 (note_at P notes p) q.actor.0 m) is_other (subst (λ n. IsTrue t ↔ AreTogether P p.actor.0 n q.actor.0 other) is_one h))
    where
      danger : AreTogether P p.actor.0 (note_at P notes p) q.actor.0 (note_at P notes q) → Near P notes p q → ⊥
      danger both = not-near (found-clash used) free at there (λ e. both.0 (ap (λ x. x.0) (sym e))) notes (subst (λ n. NoteFits P n) is_one f) (subst (λ n. NoteFits P n) is_other g) both

      go : (t : Bool) → (IsTrue t ↔ AreTogether P p.actor.0 (note_at P notes p) q.actor.0 (note_at P notes q)) → (IsTrue (not t) ↔ Near P notes p q)
      go true h = (λ f. absurd (false≢true f), λ near. absurd (danger (h.0 refl) near))
      go false h = (λ f. near-apart notes (λ both. false≢true (h.1 both)), λ near. refl)

-- A point whose steps don't delete the object of the call that another point is inside is no danger to that.
use Rattle.std.proofs.Common.{◌≡◌, ℕ, ◌<◌, Option, Some, None, true, false, List, length, get_or, refl, ap, subst, arith, ⊎_elim}
use Rattle.std.specs.Prelude.{Bool, nat_eq}
use Rattle.fr_judge.proofs.Terms.{same_Some, Instr, Calls, Delete, On, Point, Side, Before, Inside, Program, IsFaultless, IsPoint, instr_of, points_of, point_number, points_are_numbered, effect_at}
use Rattle.fr_judge.proofs.Terms.{effect_by, made_of, Lists, AreChecked, checked-point, in-list, listed-point, Note, deleted_before, Near, used_inside, are_same, near-unused}
use Rattle.fr_program.specs.declared.ids.ObjId.{ObjId}

module _ (P : Program) (notes : List Note) (p q : Point) where
  pub outside-near : used_inside p.side (instr_of P p) ≡ None → Near P notes p q
  outside-near out = near-unused P p q notes (rw out refl)

  -- a point that neither creates nor deletes the object is no danger
  pub undeleted-near : (o : ObjId) → used_inside p.side (instr_of P p) ≡ Some o → (made_of (effect_at P q) ≡ Some o.0 → ⊥) → Near P notes p q
  undeleted-near o used still = near-unused P p q notes (rw used (apart q.side (instr_of P q) still))
    where
      apart : (s : Side) (instr : Option Instr) → (made_of (effect_by P s instr) ≡ Some o.0 → ⊥) → are_same (Some o) (deleted_before s instr) ≡ false
      apart Before (Some (Calls (Delete kind n))) still = by_test (nat_eq o.0 n.0) refl
        where
          by_test : (b : Bool) → nat_eq o.0 n.0 ≡ b → are_same (Some o) (Some n) ≡ false
          by_test true e = let same : n.0 ≡ o.0 = grind (arith, e) in absurd (still (ap (λ k. Some k) same))
          by_test false e = e
      apart s instr still = refl

-- where those of the object's creates and deletes whose places come before are none, no delete with such a place is
pub checked-near : (P : Program) (notes : List Note) (p : Point) (o : ObjId) → used_inside p.side (instr_of P p) ≡ Some o → (items : List ℕ) →
    Lists P (λ e. made_of e ≡ Some o.0) (length (points_of P)) items → (bound : ℕ) → AreChecked P (λ q. Near P notes p q) items bound →
    (q : Point) → IsPoint P q → ((j : ℕ) → j < length items → get_or items j 0 ≡ point_number P q → j < bound) → Near P notes p q
checked-near P notes p o used items lists bound checked q at place = ⊎_elim
    (λ listed. checked-point P (λ r. Near P notes p r) items (points_are_numbered P) bound checked q at listed place)
    (λ not. undeleted-near P notes p q o used (λ made. not (listed-point P (λ e. made_of e ≡ Some o.0) items (points_are_numbered P) lists q at made)))
    (in-list items (point_number P q))

-- the object of a call is one of the application's
pub used-there : (P : Program) → IsFaultless P → (p : Point) (o : ObjId) → used_inside p.side (instr_of P p) ≡ Some o → o.0 < length P.objects
used-there P free p o used = by_instr p.side (instr_of P p) refl used
  where
    by_instr : (s : Side) (i : Option Instr) → instr_of P p ≡ i → used_inside s i ≡ Some o → o.0 < length P.objects
    by_instr Inside (Some (Calls (On call))) e is =
        subst (λ (x : ObjId). x.0 < length P.objects) (same_Some call.object o is) (free.names.things p.actor.0 p.pc (Calls (On call)) e).1
    by_instr s i e is = cc

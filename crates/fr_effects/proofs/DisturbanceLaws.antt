-- What a step leaves decides whether it disturbs a note.
use Rattle.std.proofs.Common.{◌≡◌, ◌≢◌, ℕ, List, Option, Some, sym, ap, ◌∙◌, subst}
use Rattle.std.specs.Prelude.{◌↔◌, Bool, IsTrue, IfSome, Contains, slice_get}
use Rattle.fr_effects.proofs.Terms.{same_Some, Point, Program, IsPoint, points_of, PointsAreNumbered, Way, Then, Else, Alternative, Note, note_at, AlternativeFits, NoteFits, Known, AllLeave}
use Rattle.fr_effects.proofs.Terms.{IsLeft, IsOther, LeavesSome, beside, CanMeet, compatible-from, compatible-meet, SparesSome, IsSparedByRow, IsSparedByRows, Undisturbed}
use Rattle.fr_notes.specs.declared.change.Change.{Change}
use Rattle.fr_notes.specs.Known.{Spares}
use Rattle.fr_notes.proofs.KnownUses.{undisturbed-both}
use Rattle.fr_program.proofs.PointLemmas.{same-actor}
use Rattle.fr_effects.proofs.Lists.{contained-fits}

-- a row that leaves a change leaves an alternative of the note where that is spared, and only there
pub left-spares : (P : Program) (k : Known) (n : Alternative) → k.other ≡ Some n → (q : Point) (way : Way) (change : Change) → IsLeft P k q way change → (p : Point) → IsOther P k q p → (note : Note) → NoteFits P note → (SparesSome k n change note ↔ LeavesSome P k q p way p.actor.0 note)
left-spares P k n e q way change left p other note fits = (
  λ (i, m, l, at, spares) can. (m, (i, l, at), (exact m (i, l, at)).0 spares),
  λ leaves.
      let s = leaves (left.can p other) in (s.1.0, s.0, s.1.1, s.1.2, (exact s.0 s.1).1 s.2),
)
  where
    exact : (m : Alternative) → Contains note m → (Spares k n change m ↔ AllLeave P k q p way p.actor.0 m)
    exact m i =
        subst (λ (o : Option Alternative). IfSome o (λ n. (m : Alternative) → AlternativeFits P m → (Spares k n change m ↔ AllLeave P k q p way p.actor.0 m))) e (left.spares p other) m (contained-fits P note fits m i)

-- alternatives that exclude each other are in no state together
pub unmet-spares : (P : Program) (p q : Point) → p.actor ≢ q.actor → (n m : Alternative) → AlternativeFits P n → AlternativeFits P m → (note : Note) → (CanMeet m n → ⊥) → IsSparedByRows P p n q m note
unmet-spares P p q ne n m fits others note none = (by_way Then, by_way Else)
  where
    by_way : (way : Way) → IsSparedByRow P p n q m way note
    by_way way can =
        let c = compatible-from q.actor.0 p.actor.0 (λ e. ne (same-actor p.actor q.actor e)) m n can.0 can.3.mover.holds can.3.other.holds in
        absurd (none (compatible-meet P m n others fits c))

-- a point is undisturbed exactly where each pair of alternatives is spared by both rows
pub undisturbed-spared : (P : Program) (notes : List Note) (p q : Point) → IsPoint P q → q.actor ≢ p.actor → (((n m : Alternative) → Contains (note_at P notes p) n → Contains (note_at P notes q) m → IsSparedByRows P p n q m (note_at P notes p)) ↔ Undisturbed P notes p q)
undisturbed-spared P notes p q there ne =
    let both = undisturbed-both P notes p q there ne in (
      λ each. both.1 (λ n m one other way. by_way n m (each n m one other) way),
      λ u n m one other. (both.0 u n m one other Then, both.0 u n m one other Else),
    )
  where
    by_way : (n m : Alternative) → IsSparedByRows P p n q m (note_at P notes p) → (way : Way) → IsSparedByRow P p n q m way (note_at P notes p)
    by_way n m s Then = s.0
    by_way n m s Else = s.1

-- the same, as the code tells it of both notes
pub each-undisturbed : (P : Program) (notes : List Note) (p q : Point) → IsPoint P q → q.actor ≢ p.actor → (note others : Note) → note ≡ note_at P notes p → others ≡ note_at P notes q → (result : Bool) → (IsTrue result ↔ ((n m : Alternative) → Contains note n → Contains others m → IsSparedByRows P p n q m note)) → (IsTrue result ↔ Undisturbed P notes p q)
each-undisturbed P notes p q there ne note others is are result both =
    let b = undisturbed-spared P notes p q there ne in
    let k = subst (λ (x : Note). IsTrue result ↔ ((n m : Alternative) → Contains (note_at P notes p) n → Contains x m → IsSparedByRows P p n q m (note_at P notes p))) are (subst (λ (x : Note). IsTrue result ↔ ((n m : Alternative) → Contains x n → Contains others m → IsSparedByRows P p n q m x)) is both) in
    (λ t. b.0 (k.0 t), λ u. k.1 (b.1 u))

-- one row, of what is known where p's actor has the alternative n and q's the alternative m
pub by-row : (P : Program) (p q : Point) (n m : Alternative) (note : Note) (way : Way) (k : Known) → k ≡ beside m n → (result : Bool) → ((p : Point) → IsOther P k q p → (IsTrue result ↔ LeavesSome P k q p way p.actor.0 note)) → IsPoint P p → p.actor ≢ q.actor → (IsTrue result ↔ IsSparedByRow P p n q m way note)
by-row P p q n m note way k e result both at ne =
    subst (λ x. (p : Point) → IsOther P x q p → (IsTrue result ↔ LeavesSome P x q p way p.actor.0 note)) e both p (at, ne)

-- a point by its number
pub numbered-point : (P : Program) → PointsAreNumbered P → (k : ℕ) (p : Point) → slice_get (points_of P) k ≡ Some p → IsPoint P p
numbered-point P numbered k p e = (numbered.listed k p e).0

pub same-point : (P : Program) (k : ℕ) (p q : Point) → slice_get (points_of P) k ≡ Some p → slice_get (points_of P) k ≡ Some q → p ≡ q
same-point P k p q e f = same_Some p q (sym e ∙ f)

-- of what is equal the same is disturbed
pub undisturbed-there : {P Q : Program} {ns ms : List Note} {p q r s : Point} → P ≡ Q → ns ≡ ms → p ≡ q → r ≡ s → Undisturbed P ns p r ≡ Undisturbed Q ms q s
undisturbed-there {P} {Q} {ns} {ms} {p} {q} {r} {s} app notes one other =
    ap (λ A. Undisturbed A ns p r) app ∙ ap (λ L. Undisturbed Q L p r) notes ∙ ap (λ x. Undisturbed Q ms x r) one ∙ ap (λ x. Undisturbed Q ms q x) other

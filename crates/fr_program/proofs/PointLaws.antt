-- Points and their numbers are inverse. A point's number splits as the list does: what comes before its actor,
-- before its instruction, and its side. So both ways go along the actors, then along the code, then the sides.
use Rattle.std.proofs.Common.{◌≡◌, ◌+◌, ◌⊎◌, ℕ, suc, zero, List, [], ◌∷◌, ◌++◌, Option, None, Some, length, take, get_or, slice_get, sum_by, inl, inr, refl, sym, ap, ◌∙◌, subst, add-zero, zero-add, arith}
use Rattle.std.specs.Option.{option_map}
use Rattle.std.proofs.lemmas.List.{length-map, length-append}
use Rattle.std.proofs.lemmas.List.Sums.{sum_by-cons}
use Rattle.std.proofs.lemmas.Option.{slice_get-map, none-some, same_Some}
use Rattle.fr_program.specs.declared.instr.Instr.{Instr}
use Rattle.fr_program.specs.declared.instr.Instr.TheVariants.{Call as Calls}
use Rattle.fr_program.specs.declared.instr.Call.TheVariants.{On}
use Rattle.fr_program.specs.declared.ids.Point.{Point}
use Rattle.fr_program.specs.declared.ids.Side.{Side}
use Rattle.fr_program.specs.declared.ids.Side.TheVariants.{Before, Inside}
use Rattle.fr_program.specs.Program.{Program, ActorOf}
use Rattle.fr_program.specs.Lookup.{HasSide, IsPoint, no_actor}
use Rattle.fr_program.specs.Points.{sides_of, side_number, points_at, points_along, points_from, count_of_instr, count_of_actor, point_number}
use Rattle.fr_program.specs.PointNumbers.{PointsAreNumbered}

abbrev point_at : ℕ → ℕ → Side → Point
point_at a pc side = record { actor = record { 0 = a }; pc = pc; side = side }

-- ---- lengths

pub length_points_at : (a pc : ℕ) (i : Instr) → length (points_at a pc i) ≡ count_of_instr i
length_points_at a pc i = length-map (sides_of i) (point_at a pc)

pub length_points_along : (a pc : ℕ) (code : List Instr) → length (points_along a pc code) ≡ sum_by count_of_instr code
length_points_along a pc [] = refl
length_points_along a pc (i ∷ code) =
    let rest = length_points_along a (pc + 1) code in
    omega (arith, length-append (points_at a pc i) (points_along a (pc + 1) code), length_points_at a pc i, sum_by-cons count_of_instr i code, rest)

-- ---- elements of two lists end to end

get_left : {X : Type 0} (xs ys : List X) (k : ℕ) (x : X) → slice_get xs k ≡ Some x → slice_get (xs ++ ys) k ≡ Some x
get_left [] ys k x at = absurd (none-some x at)
get_left (y ∷ xs) ys zero x at = at
get_left (y ∷ xs) ys (suc k) x at = get_left xs ys k x at

get_right : {X : Type 0} (xs ys : List X) (m : ℕ) → slice_get (xs ++ ys) (length xs + m) ≡ slice_get ys m
get_right [] ys m = ap (slice_get ys) (zero-add m)
get_right (x ∷ xs) ys m =
    let next : suc (length xs) + m ≡ suc (length xs + m) = omega arith in
    ap (slice_get ((x ∷ xs) ++ ys)) next ∙ get_right xs ys m

later_suc : (n k m : ℕ) → k ≡ n + m → suc k ≡ suc n + m
later_suc n k m is = omega arith

get_split : {X : Type 0} (xs ys : List X) (k : ℕ) (x : X) → slice_get (xs ++ ys) k ≡ Some x →
    (slice_get xs k ≡ Some x) ⊎ ((m : ℕ) × (k ≡ length xs + m) × (slice_get ys m ≡ Some x))
get_split [] ys k x at = inr (k, sym (zero-add k), at)
get_split (y ∷ xs) ys zero x at = inl at
get_split (y ∷ xs) ys (suc k) x at = elim (get_split xs ys k x at) [
  | inl first ↦ inl first
  | inr later ↦ inr (later.0, later_suc (length xs) k later.0 later.1, later.2)
]

mapped : {X Y : Type 0} (f : X → Y) (o : Option X) (y : Y) → option_map f o ≡ Some y → (x : X) × (o ≡ Some x) × (y ≡ f x)
mapped f None y at = absurd (none-some y at)
mapped f (Some x) y at = (x, refl, sym (same_Some (f x) y at))

-- ---- sides

side_stands : (i : Instr) (s : Side) → HasSide i s → slice_get (sides_of i) (side_number s) ≡ Some s
side_stands (Calls (On call)) Before has = refl
side_stands (Calls (On call)) Inside has = refl
side_stands i Before has = refl
side_stands i Inside has = absurd has

side_listed : (i : Instr) (k : ℕ) (s : Side) → slice_get (sides_of i) k ≡ Some s → HasSide i s × (side_number s ≡ k)
side_listed (Calls (On call)) zero s at = subst (λ t. HasSide (Calls (On call)) t × (side_number t ≡ 0)) (same_Some Before s at) (tt, refl)
side_listed (Calls (On call)) (suc zero) s at = subst (λ t. HasSide (Calls (On call)) t × (side_number t ≡ 1)) (same_Some Inside s at) (tt, refl)
side_listed (Calls (On call)) (suc (suc k)) s at = absurd (none-some s at)
side_listed i zero s at = subst (λ t. HasSide i t × (side_number t ≡ 0)) (same_Some Before s at) (tt, refl)
side_listed i (suc k) s at = absurd (none-some s at)

-- ---- from a place to its number

along_at : (a pc : ℕ) (code : List Instr) (k : ℕ) (i : Instr) (s : Side) → slice_get code k ≡ Some i → HasSide i s →
    slice_get (points_along a pc code) (sum_by count_of_instr (take k code) + side_number s) ≡ Some (point_at a (pc + k) s)
along_at a pc [] k i s at has = absurd (none-some i at)
along_at a pc (j ∷ code) zero i s at has =
    let same = same_Some j i at in
    let here : slice_get (points_at a pc j) (side_number s) ≡ Some (point_at a pc s) = slice_get-map (point_at a pc) (sides_of j) (side_number s) ∙ ap (option_map (point_at a pc)) (side_stands j s (subst (λ x. HasSide x s) (sym same) has)) in
    let first = get_left (points_at a pc j) (points_along a (pc + 1) code) (side_number s) (point_at a pc s) here in
    ap (slice_get (points_along a pc (j ∷ code))) (zero-add (side_number s)) ∙ (first ∙ ap (λ n. Some (point_at a n s)) (sym (add-zero pc)))
along_at a pc (j ∷ code) (suc k) i s at has =
    let n : sum_by count_of_instr (take (suc k) (j ∷ code)) + side_number s ≡ length (points_at a pc j) + (sum_by count_of_instr (take k code) + side_number s) =
    omega (arith, sum_by-cons count_of_instr j (take k code), length_points_at a pc j) in
    let next : (pc + 1) + k ≡ pc + suc k = omega arith in
    ap (slice_get (points_along a pc (j ∷ code))) n ∙ (get_right (points_at a pc j) (points_along a (pc + 1) code) _ ∙ (along_at a (pc + 1) code k i s at has ∙ ap (λ n. Some (point_at a n s)) next))

from_at : (n : ℕ) (actors : List ActorOf) (a pc : ℕ) (i : Instr) (s : Side) → slice_get (get_or actors a no_actor).code pc ≡ Some i → HasSide i s →
    slice_get (points_from n actors) (sum_by count_of_actor (take a actors) + sum_by count_of_instr (take pc (get_or actors a no_actor).code) + side_number s) ≡ Some (point_at (n + a) pc s)
from_at n [] a pc i s at has = absurd (none-some i at)
from_at n (x ∷ actors) zero pc i s at has =
    let k : 0 + sum_by count_of_instr (take pc x.code) + side_number s ≡ sum_by count_of_instr (take pc x.code) + side_number s = omega arith in
    let first = get_left (points_along n 0 x.code) (points_from (n + 1) actors) _ _ (along_at n 0 x.code pc i s at has) in
    let same : point_at n (0 + pc) s ≡ point_at (n + 0) pc s = ap (λ m. point_at n m s) (zero-add pc) ∙ ap (λ m. point_at m pc s) (sym (add-zero n)) in
    ap (slice_get (points_from n (x ∷ actors))) k ∙ (first ∙ ap (λ p. Some p) same)
from_at n (x ∷ actors) (suc a) pc i s at has =
    let rest = sum_by count_of_instr (take pc (get_or actors a no_actor).code) in
    let k : sum_by count_of_actor (take (suc a) (x ∷ actors)) + rest + side_number s ≡ length (points_along n 0 x.code) + (sum_by count_of_actor (take a actors) + rest + side_number s) =
    omega (arith, sum_by-cons count_of_actor x (take a actors), length_points_along n 0 x.code) in
    let next : (n + 1) + a ≡ n + suc a = omega arith in
    ap (slice_get (points_from n (x ∷ actors))) k ∙ (get_right (points_along n 0 x.code) (points_from (n + 1) actors) _ ∙ (from_at (n + 1) actors a pc i s at has ∙ ap (λ m. Some (point_at m pc s)) next))

-- ---- from a number to its place

-- where in a code a point with this number is
record Listed (a pc : ℕ) (code : List Instr) (k : ℕ) (p : Point) : Type 0 where
  place : ℕ
  instr : Instr
  side : Side
  at : slice_get code place ≡ Some instr
  has : HasSide instr side
  is : p ≡ point_at a (pc + place) side
  number : sum_by count_of_instr (take place code) + side_number side ≡ k

first_listed : (a pc : ℕ) (j : Instr) (code : List Instr) (k : ℕ) (p : Point) → slice_get (points_at a pc j) k ≡ Some p → Listed a pc (j ∷ code) k p
first_listed a pc j code k p at =
    let m = mapped (point_at a pc) (slice_get (sides_of j) k) p (sym (slice_get-map (point_at a pc) (sides_of j) k) ∙ at) in
    let s = side_listed j k m.0 m.1 in
    record {
      place = 0;
      instr = j;
      side = m.0;
      at = refl;
      has = s.0;
      is = m.2 ∙ ap (λ n. point_at a n m.0) (sym (add-zero pc));
      number = zero-add (side_number m.0) ∙ s.1;
    }

later_listed : (a pc : ℕ) (j : Instr) (code : List Instr) (k m : ℕ) (p : Point) → k ≡ length (points_at a pc j) + m → Listed a (pc + 1) code m p → Listed a pc (j ∷ code) k p
later_listed a pc j code k m p split l =
    let next : (pc + 1) + l.place ≡ pc + suc l.place = omega arith in
    record {
      place = suc l.place;
      instr = l.instr;
      side = l.side;
      at = l.at;
      has = l.has;
      is = l.is ∙ ap (λ n. point_at a n l.side) next;
      number = omega (arith, sum_by-cons count_of_instr j (take l.place code), length_points_at a pc j, l.number);
    }

along_listed : (a pc : ℕ) (code : List Instr) (k : ℕ) (p : Point) → slice_get (points_along a pc code) k ≡ Some p → Listed a pc code k p
along_listed a pc [] k p at = absurd (none-some p at)
along_listed a pc (j ∷ code) k p at = elim (get_split (points_at a pc j) (points_along a (pc + 1) code) k p at) [
  | inl first ↦ first_listed a pc j code k p first
  | inr later ↦ later_listed a pc j code k later.0 p later.1 (along_listed a (pc + 1) code later.0 p later.2)
]

-- the same among all actors
record ListedFrom (n : ℕ) (actors : List ActorOf) (k : ℕ) (p : Point) : Type 0 where
  actor : ℕ
  place : ℕ
  instr : Instr
  side : Side
  at : slice_get (get_or actors actor no_actor).code place ≡ Some instr
  has : HasSide instr side
  is : p ≡ point_at (n + actor) place side
  number : sum_by count_of_actor (take actor actors) + sum_by count_of_instr (take place (get_or actors actor no_actor).code) + side_number side ≡ k

first_from : (n : ℕ) (x : ActorOf) (actors : List ActorOf) (k : ℕ) (p : Point) → Listed n 0 x.code k p → ListedFrom n (x ∷ actors) k p
first_from n x actors k p l = record {
  actor = 0;
  place = l.place;
  instr = l.instr;
  side = l.side;
  at = l.at;
  has = l.has;
  is = l.is ∙ (ap (λ m. point_at n m l.side) (zero-add l.place) ∙ ap (λ m. point_at m l.place l.side) (sym (add-zero n)));
  number = omega (arith, l.number);
}

later_from : (n : ℕ) (x : ActorOf) (actors : List ActorOf) (k m : ℕ) (p : Point) → k ≡ length (points_along n 0 x.code) + m → ListedFrom (n + 1) actors m p → ListedFrom n (x ∷ actors) k p
later_from n x actors k m p split l =
    let next : (n + 1) + l.actor ≡ n + suc l.actor = omega arith in
    record {
      actor = suc l.actor;
      place = l.place;
      instr = l.instr;
      side = l.side;
      at = l.at;
      has = l.has;
      is = l.is ∙ ap (λ m. point_at m l.place l.side) next;
      number = omega (arith, sum_by-cons count_of_actor x (take l.actor actors), length_points_along n 0 x.code, l.number);
    }

from_listed : (n : ℕ) (actors : List ActorOf) (k : ℕ) (p : Point) → slice_get (points_from n actors) k ≡ Some p → ListedFrom n actors k p
from_listed n [] k p at = absurd (none-some p at)
from_listed n (x ∷ actors) k p at = elim (get_split (points_along n 0 x.code) (points_from (n + 1) actors) k p at) [
  | inl first ↦ first_from n x actors k p (along_listed n 0 x.code k p first)
  | inr later ↦ later_from n x actors k later.0 p later.1 (from_listed (n + 1) actors later.0 p later.2)
]

-- ---- both ways

pub points_are_numbered : (P : Program) → PointsAreNumbered P
points_are_numbered P = record {
  at = λ p place. from_at 0 P.actors p.actor.0 p.pc place.0 p.side place.1 place.2 ∙ ap (λ a. Some (point_at a p.pc p.side)) (zero-add p.actor.0);
  listed = λ k p at.
      let l = from_listed 0 P.actors k p at in
      let is = l.is ∙ ap (λ a. point_at a l.place l.side) (zero-add l.actor) in
      subst (λ q. IsPoint P q × (point_number P q ≡ k)) (sym is) ((l.instr, l.at, l.has), l.number);
}

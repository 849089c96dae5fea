-- A step leaves a declared range only by a `set` that the index lists among the leavers.
use Rattle.std.proofs.Common.{Some, sym, subst, arith}
use Rattle.std.specs.Prelude.{ℤ, pos, ◌<◌, ◌≤ℤ◌, List, IfSome, All, length}
use Rattle.fr_interfere.proofs.Terms.{ints, by_lt_z, slice_get-get_or, Point, ObjId, VarId, Side, Before, Inside, Instr, Pick, Calls, Call, Create, Delete, On, Act, Try, Move, QueueReceive, Operand}
use Rattle.fr_interfere.proofs.Terms.{Number, Variable, Kind, Queue, Program, KindInLimits, IsPoint, no_object, no_variable, variable_at, IsFaultless, NamesThings, CoversQueue, TakesIn, ResultsFit}
use Rattle.fr_interfere.proofs.Terms.{act_variables, kind_of, AlternativeFits, NoteFits, Alternative, Note, Within, range_of, note_at, CanBeIn, Effect, Gives, Sets, effect_inside, effect_of}
use Rattle.fr_interfere.proofs.Terms.{effect_by, effect_at, Stays, declared_of, CanLeave, StaysAt}
use Rattle.fr_program.specs.Fault.{Covers}

-- what is not outside a range is inside
stable : (r : ℤ × ℤ) (v : ℤ) → ((Within r v → ⊥) → ⊥) → Within r v
stable r v not = by_lt_z v r.0
    (λ low. absurd (not (λ inside. let at = inside.0 in omega (arith, ints, at, low))))
    (λ from. by_lt_z r.1 v
    (λ high. absurd (not (λ inside. let at = inside.1 in omega (arith, ints, at, high))))
    (λ to. (from, to)))

-- what an operand can be by an alternative that fits, it can be by the declared ranges
wider : (P : Program) (m : Alternative) → AlternativeFits P m → (operand : Operand) (v : ℤ) →
    CanBeIn (range_of m) operand v → CanBeIn (declared_of P) operand v
wider P m fits (Number z) v can = can
wider P m fits (Variable x) v can =
    let inside = fits.ranges.1 x.0 in
    (omega (arith, ints, inside.0, can.0), omega (arith, ints, inside.1, can.1))

-- a receive, a `pick` and a call that moves bytes give their variable numbers of its declared range
abbrev GivesInside : Program → Effect → Type 0
GivesInside P (Gives x lo hi) = Within (declared_of P x.0) lo × Within (declared_of P x.0) hi
GivesInside P effect = Unit {0}

covers : (P : Program) (x : VarId) (lo hi : ℤ) → x.0 < length P.variables → Covers P x lo hi →
    ((variable_at P x.0).lo ≤ℤ lo) × (hi ≤ℤ (variable_at P x.0).hi)
covers P x lo hi l fits =
    subst (λ v. IfSome v (λ w. (w.lo ≤ℤ lo) × (hi ≤ℤ w.hi))) (slice_get-get_or P.variables x.0 no_variable l) fits

both-inside : (P : Program) (x : VarId) (lo hi : ℤ) → x.0 < length P.variables → lo ≤ℤ hi → Covers P x lo hi → GivesInside P (Gives x lo hi)
both-inside P x lo hi l order fits =
    let whole = covers P x lo hi l fits in
    ((whole.0, omega (arith, ints, order, whole.1)), (omega (arith, ints, order, whole.0), whole.1))

module _ (P : Program) (free : IsFaultless P) (o : ObjId) (there : o.0 < length P.objects) where
  -- what the end of an object call gives
  ending : (act : Act) → All (λ x. x.0 < length P.variables) (act_variables act) → TakesIn P o act → GivesInside P (effect_inside act (kind_of P o.0))
  ending (Try (QueueReceive into) e) names takes =
      by_kind (kind_of P o.0) (free.limits.objects o.0 no_object there)
      (subst (λ x. IfSome x (λ object. CoversQueue P into object.kind)) (slice_get-get_or P.objects o.0 no_object there) takes)
    where
      by_kind : (kind : Kind) → KindInLimits kind → CoversQueue P into kind → GivesInside P (effect_inside (Try (QueueReceive into) e) kind)
      by_kind (Queue size lo hi) limits fits = both-inside P into lo hi (names 0 into (omega arith)) limits.1 fits
      by_kind kind limits fits = tt
  ending (Move end buffer n (Some x)) names takes = both-inside P x (pos 0) (pos n) (names 0 x (omega arith)) (omega (arith, ints)) takes
  ending act names takes = tt

-- so no effect but a `set` leaves the declared range
given-inside : (P : Program) → IsFaultless P → (side : Side) (i : Instr) → NamesThings P i → ResultsFit P i → GivesInside P (effect_of P side i)
given-inside P free Before (Pick x lo hi) names fits =
    let l = names.0 0 x (omega arith) in
    let low = covers P x lo lo l fits.0 in
    let high = covers P x hi hi l fits.1 in
    (low, high)
given-inside P free Before (Calls call) names fits = by_call call
  where
    by_call : (call : Call) → GivesInside P (effect_of P Before (Calls call))
    by_call (Create kind o e) = tt
    by_call (Delete kind o) = tt
    by_call call = tt
given-inside P free Inside (Calls (On call)) names fits = ending P free call.object names.1 call.act names.0 fits
given-inside P free Before i names fits = tt
given-inside P free Inside i names fits = tt

module _ (P : Program) (free : IsFaultless P) (q : Point) (at : IsPoint P q) where
  gives : GivesInside P (effect_at P q)
  gives =
      let i = at.0 in
      let one = given-inside P free q.side i (free.names.things q.actor.0 q.pc i at.1) (free.results q.actor.0 q.pc i at.1) in
      subst (λ x. GivesInside P (effect_by P q.side x)) (sym at.1) one

  calm-stays : (e : Effect) → GivesInside P e → (CanLeave P e → ⊥) → (m : Alternative) → AlternativeFits P m → Stays P e m
  calm-stays (Gives x lo hi) inside calm m fits = inside
  calm-stays (Sets x left operator right) inside calm m fits = λ u v one other.
      stable _ _ (λ out. calm (u, v, wider P m fits left u one, wider P m fits right v other, out))
  calm-stays e inside calm m fits = tt

  -- a point that can't leave a declared range stays in it, whatever fitting notes say
  pub calm-point : (notes : List Note) → NoteFits P (note_at P notes q) → (CanLeave P (effect_at P q) → ⊥) → StaysAt P notes q
  calm-point notes fits calm = λ k m l. calm-stays (effect_at P q) gives calm _ (fits.1 k m l)

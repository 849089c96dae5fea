-- The first point that disturbs a note is one whose steps can change something that the note says, or that can leave a
-- declared range.
use Rattle.std.proofs.Common.{◌≡◌, ℕ, ◌+◌, ◌<◌, ◌≤◌, List, [], length, Option, Some, None, true, false, refl, sym, ap, subst, arith, ⊎_elim, inl, inr}
use Rattle.std.specs.Prelude.{◌⊎◌, Bool, nat_le, if◌then◌else◌}
use Rattle.fr_interfere.proofs.Terms.{cases_lt, get_or_past, Point, Side, Before, Inside, Instr, Set, Pick, Calls, Call, Create, Delete, On, Act, Try, Move, QueueReceive, Kind, Queue, Program}
use Rattle.fr_interfere.proofs.Terms.{IsPoint, point_number, PointsAreNumbered, IsFaultless, NamesThings, kind_of, NoteFits, NotesFit, Note, note_at, Effect, Nothing, Life, Gives, Sets, IsSpoiler}
use Rattle.fr_interfere.proofs.Terms.{effect_inside, effect_of, effect_by, effect_at, target_of, made_of, HasTarget, CanLeave, IsIndexOf, IndexOf, IsFirstOf, IsListed, WritesInside, MakesOne, IsBelow}
use Rattle.fr_interfere.proofs.Terms.{least_of, AllStay, StaysAt, Undisturbed}
use Rattle.fr_effects.proofs.IndexLaws.{in-list, listed-point}
use Rattle.fr_interfere.proofs.StayLaws.{calm-point}
use Rattle.fr_interfere.proofs.UnsaidLaws.{still-undisturbed}
use Rattle.fr_effects.proofs.EffectLaws.{has-target}

module _ (P : Program) (notes : List Note) (p : Point) where
  -- the first one of more points is the first one of these
  pub first-fewer : (A B : Point → Type 0) → ((q : Point) → IsPoint P q → B q → A q) → (r : Option ℕ) → IsFirstOf P notes p A r → IsFirstOf P notes p B r
  first-fewer A B in_a None f = λ q at b. f q at (in_a q at b)
  first-fewer A B in_a (Some k) (q, at, number, disturbs, least) =
      (q, at, number, disturbs, λ other there b less. least other there (in_a other there b) less)

  -- the lesser of the first ones of two sorts is the first one of both
  module _ (A B C : Point → Type 0) (split : (q : Point) → IsPoint P q → C q → (A q ⊎ B q)) where
    lower : (j k : ℕ) → j ≤ k → IsFirstOf P notes p A (Some j) → IsFirstOf P notes p B (Some k) → IsFirstOf P notes p C (Some j)
    lower j k le (q, at, number, disturbs, least) (r, there, of, spoils, lowest) =
        (q, at, number, disturbs, λ other is c less. ⊎_elim (λ a. least other is a less) (λ b. lowest other is b (omega (arith, less, le))) (split other is c))

    upper : (j k : ℕ) → k < j → IsFirstOf P notes p A (Some j) → IsFirstOf P notes p B (Some k) → IsFirstOf P notes p C (Some k)
    upper j k lt (q, at, number, disturbs, least) (r, there, of, spoils, lowest) =
        (r, there, of, spoils, λ other is c less. ⊎_elim (λ a. least other is a (omega (arith, less, lt))) (λ b. lowest other is b less) (split other is c))

    pub first-both : (r s : Option ℕ) → IsFirstOf P notes p A r → IsFirstOf P notes p B s → IsFirstOf P notes p C (least_of r s)
    first-both None None f g = λ q at c. ⊎_elim (λ a. f q at a) (λ b. g q at b) (split q at c)
    first-both None (Some k) f (q, at, number, disturbs, least) =
        (q, at, number, disturbs, λ other there c less. ⊎_elim (λ a. f other there a) (λ b. least other there b less) (split other there c))
    first-both (Some j) None (q, at, number, disturbs, least) g =
        (q, at, number, disturbs, λ other there c less. ⊎_elim (λ a. least other there a less) (λ b. g other there b) (split other there c))
    first-both (Some j) (Some k) f g = by_order (nat_le j k) refl
      where
        by_order : (b : Bool) → nat_le j k ≡ b → IsFirstOf P notes p C (if b then Some j else Some k)
        by_order true e = lower j k (grind (arith, e)) f g
        by_order false e = upper j k (grind (arith, e)) f g

  -- one variable more, or one object more
  pub one-more : (IsSo : ℕ → Point → Type 0) (k : ℕ) (r s t : Option ℕ) → t ≡ least_of r s → IsFirstOf P notes p (IsBelow IsSo k) r →
      IsFirstOf P notes p (IsSo k) s → IsFirstOf P notes p (IsBelow IsSo (k + 1)) t
  one-more IsSo k r s t is f g =
      subst (IsFirstOf P notes p (IsBelow IsSo (k + 1))) (sym is) (first-both (IsBelow IsSo k) (IsSo k) (IsBelow IsSo (k + 1)) split r s f g)
    where
      split : (q : Point) → IsPoint P q → IsBelow IsSo (k + 1) q → (IsBelow IsSo k q ⊎ IsSo k q)
      split q at (j, l, so) = ⊎_elim (λ less. inl (j, less, so)) (λ more.
          let last : j ≡ k = omega (arith, l, more) in
          inr (subst (λ i. IsSo i q) last so)) (cases_lt j k)

  -- with no variable, or no object, there is none; and more of them than there are do as well
  pub none-yet : (IsSo : ℕ → Point → Type 0) → IsFirstOf P notes p (IsBelow IsSo 0) None
  none-yet IsSo = λ q at below. let l = below.1 in absurd (omega (arith, l))

  pub enough : (IsSo : ℕ → Point → Type 0) (bound count : ℕ) → count ≤ bound → (r : Option ℕ) → IsFirstOf P notes p (IsBelow IsSo bound) r →
      IsFirstOf P notes p (IsBelow IsSo count) r
  enough IsSo bound count le = first-fewer (IsBelow IsSo bound) (IsBelow IsSo count) (λ q at (k, l, so). (k, omega (arith, l, le), so))

  -- where each other point is undisturbing, the first of some points is the first of all
  pub first-of-all : (Among : Point → Type 0) → ((q : Point) → IsPoint P q → (Among q ⊎ Undisturbed P notes p q)) → (r : Option ℕ) →
      IsFirstOf P notes p Among r → IsSpoiler P notes p r
  first-of-all Among split None f = λ q at. ⊎_elim (λ among. f q at among) (λ calm. calm) (split q at)
  first-of-all Among split (Some k) (q, at, number, disturbs, least) =
      (q, at, number, disturbs, λ other there less. ⊎_elim (λ among. least other there among less) (λ calm. calm) (split other there))

-- the object that a step creates or deletes is there
abbrev HasMade : Program → Effect → Type 0
HasMade P (Life o) = o.0 < length P.objects
HasMade P effect = Unit {0}

inside-made : (P : Program) (act : Act) (kind : Kind) → HasMade P (effect_inside act kind)
inside-made P (Try (QueueReceive into) e) (Queue size lo hi) = tt
inside-made P (Move end buffer length (Some x)) kind = tt
inside-made P act kind = tt

has-made : (P : Program) (side : Side) (i : Instr) → NamesThings P i → HasMade P (effect_of P side i)
has-made P Before (Set x l op r) names = tt
has-made P Before (Pick x lo hi) names = tt
has-made P Before (Calls call) names = by_call call names
  where
    by_call : (call : Call) → NamesThings P (Calls call) → HasMade P (effect_of P Before (Calls call))
    by_call (Create kind o e) names = names.1
    by_call (Delete kind o) names = names.1
    by_call call names = tt
has-made P Inside (Calls (On call)) names = inside-made P call.act (kind_of P call.object.0)
has-made P Before i names = tt
has-made P Inside i names = tt

-- the note of each point fits
pub each-fits : (P : Program) (notes : List Note) → NotesFit P notes → (q : Point) → NoteFits P (note_at P notes q)
each-fits P notes fit q = ⊎_elim
    (λ there. fit.1 (point_number P q) [] there)
    (λ past. subst (λ (n : Note). NoteFits P n) (sym (get_or_past notes (point_number P q) [] past)) (omega arith, λ k d l. absurd (omega (arith, l))))
    (cases_lt (point_number P q) (length notes))

module _ (P : Program) (free : IsFaultless P) (notes : List Note) where
  abbrev pub Writes : Point → Type 0
  Writes q = IsBelow (WritesInside P notes) (length P.variables) q

  abbrev pub Makes : Point → Type 0
  Makes q = IsBelow (MakesOne P) (length P.objects) q

  -- a point changes nothing, or writes within a declared range, or creates or deletes an object
  module _ (p q : Point) (at : IsPoint P q) (stays : StaysAt P notes q) where
    target : HasTarget P (effect_at P q)
    target =
        let one = has-target P q.side at.0 (free.names.things q.actor.0 q.pc at.0 at.1) in
        subst (λ x. HasTarget P (effect_by P q.side x)) (sym at.1) one

    made : HasMade P (effect_at P q)
    made =
        let one = has-made P q.side at.0 (free.names.things q.actor.0 q.pc at.0 at.1) in
        subst (λ x. HasMade P (effect_by P q.side x)) (sym at.1) one

    sorted : (e : Effect) → effect_at P q ≡ e → ((Writes q ⊎ Makes q) ⊎ Undisturbed P notes p q)
    sorted Nothing is = inr (still-undisturbed P free notes p q at is)
    sorted (Life o) is = inl (inr (o.0, subst (HasMade P) is made, ap made_of is))
    sorted (Gives x lo hi) is = inl (inl (x.0, subst (HasTarget P) is target, (ap target_of is, stays)))
    sorted (Sets x l op r) is = inl (inl (x.0, subst (HasTarget P) is target, (ap target_of is, stays)))

    pub sort : (Writes q ⊎ Makes q) ⊎ Undisturbed P notes p q
    sort = sorted (effect_at P q) refl

  -- where all steps stay in declared ranges, the lesser of the first writer and the first maker is the first of all
  pub first-of-two : (p : Point) (r s t : Option ℕ) → t ≡ least_of r s → AllStay P notes → IsFirstOf P notes p Writes r → IsFirstOf P notes p Makes s → IsSpoiler P notes p t
  first-of-two p r s t is stay f g =
      subst (IsSpoiler P notes p) (sym is)
      (first-of-all P notes p (λ q. Writes q ⊎ Makes q) (λ q at. sort p q at (stay q at)) (least_of r s)
      (first-both P notes p Writes Makes (λ q. Writes q ⊎ Makes q) (λ q at c. c) r s f g))

  module _ (numbered : PointsAreNumbered P) (fit : NotesFit P notes) (I : IndexOf) (index : IsIndexOf P I) where
    -- a point that isn't among the leavers stays in declared ranges
    pub unlisted-stays : (q : Point) → IsPoint P q → (IsListed P I.leavers q → ⊥) → StaysAt P notes q
    unlisted-stays q at not =
        calm-point P free q at notes (each-fits P notes fit q) (λ leaves. not (listed-point P (CanLeave P) I.leavers numbered index.leavers q at leaves))

    -- else the first leaver is looked for too
    pub first-of-three : (p : Point) (r s t u v : Option ℕ) → t ≡ least_of r s → v ≡ least_of t u → IsFirstOf P notes p Writes r → IsFirstOf P notes p Makes s →
        IsFirstOf P notes p (IsListed P I.leavers) u → IsSpoiler P notes p v
    first-of-three p r s t u v is more f g h =
        subst (IsSpoiler P notes p) (sym more) (first-of-all P notes p (λ q. (Writes q ⊎ Makes q) ⊎ IsListed P I.leavers q) split (least_of t u)
        (first-both P notes p (λ q. Writes q ⊎ Makes q) (IsListed P I.leavers) (λ q. (Writes q ⊎ Makes q) ⊎ IsListed P I.leavers q) (λ q at c. c) t u two h))
      where
        two : IsFirstOf P notes p (λ q. Writes q ⊎ Makes q) t
        two = subst (IsFirstOf P notes p (λ q. Writes q ⊎ Makes q)) (sym is) (first-both P notes p Writes Makes (λ q. Writes q ⊎ Makes q) (λ q at c. c) r s f g)

        split : (q : Point) → IsPoint P q → (((Writes q ⊎ Makes q) ⊎ IsListed P I.leavers q) ⊎ Undisturbed P notes p q)
        split q at = ⊎_elim (λ listed. inl (inr listed)) (λ not. ⊎_elim (λ among. inl (inl among)) (λ calm. inr calm) (sort p q at (unlisted-stays q at not)))
            (in-list I.leavers (point_number P q))

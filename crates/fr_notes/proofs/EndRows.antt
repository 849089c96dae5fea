-- The ends of object calls: from what an end makes of a content to what it leaves.
use Rattle.std.proofs.Common.{◌≡◌, ◌≢◌, ℕ, ◌<◌, length, Option, Some, Bool, true, false, refl, sym, ap, ◌∙◌, subst, arith}
use Rattle.std.specs.Prelude.{ℤ, IfSome, All}
use Rattle.fr_notes.proofs.Terms.{same_Some, false≢true, ObjId, VarId, Point, Side, Inside, Instr, Calls, On, ObjectCall, Act, Try, Give, PlainForm, RecursiveForm, Timing, Now, Kind, Mutex, Recursive}
use Rattle.fr_notes.proofs.Terms.{Range, Program, act_variables, Way, State, Content, Dead, CanHave, content_of, kind_of, becomes, count_held, IsLive, GivesUnheld, LacksMutex, given_kind, used_object}
use Rattle.fr_notes.proofs.Terms.{Completes, IsFree, transition, with_result, inside-free, live-use, Claim, NotHeld, Alive, Gone, HeldTimes, Within, ends_of, Known, IsOther, IsLeft, NeverSteps}
use Rattle.fr_notes.proofs.Terms.{taught, Holding, Unheld, Living, Lifeless, Own, Others, holding, living, mover_claim, other_claim, is_mutex, is_given_unheld, IsEnd, resulting}
use Rattle.fr_notes.proofs.Shown.{depth_for-same}
use Rattle.fr_notes.proofs.Holdings.{IsIn, live-count, unheld-count, others-free}
use Rattle.fr_notes.proofs.Seen.{Site, mover, other, IsKnown, contents-in}
use Rattle.fr_notes.proofs.Left.{end_of}
use Rattle.fr_notes.proofs.Rows.{row-never, site}
use Rattle.fr_notes.proofs.ObjectRows.{object-left}

-- what is known of a live object is true of each live content of which the rest is
module _ (a b : ℕ) (content : Content) where
  pub living-in : (before known : Holding) → living before ≡ Some known → content ≢ Dead → IsIn a b before content → IsIn a b known content
  living-in Unheld known e live i = subst (λ h. IsIn a b h content) (same_Some _ _ e) (live, i.0, i.1)
  living-in Living known e live i = subst (λ h. IsIn a b h content) (same_Some _ _ e) i
  living-in Lifeless known e live i = cc
  living-in (Own n) known e live i = subst (λ h. IsIn a b h content) (same_Some _ _ e) i
  living-in (Others n) known e live i = subst (λ h. IsIn a b h content) (same_Some _ _ e) i

  pub in-living : (before known : Holding) → living before ≡ Some known → IsIn a b known content → IsIn a b before content
  in-living Unheld known e i =
      let k : IsIn a b Living content = subst (λ h. IsIn a b h content) (sym (same_Some _ _ e)) i in (k.1, k.2)
  in-living Living known e i = subst (λ h. IsIn a b h content) (sym (same_Some _ _ e)) i
  in-living Lifeless known e i = cc
  in-living (Own n) known e i = subst (λ h. IsIn a b h content) (sym (same_Some _ _ e)) i
  in-living (Others n) known e i = subst (λ h. IsIn a b h content) (sym (same_Some _ _ e)) i

-- it is known that the object is live
abbrev pub IsAlive : Holding → Type 0
IsAlive Unheld = ⊥
IsAlive Lifeless = ⊥
IsAlive known = Unit {0}

-- what is known of a live object says so
pub living-alive : (before known : Holding) → living before ≡ Some known → IsAlive known
living-alive Unheld known e = subst IsAlive (same_Some _ _ e) tt
living-alive Living known e = subst IsAlive (same_Some _ _ e) tt
living-alive Lifeless known e = cc
living-alive (Own n) known e = subst IsAlive (same_Some _ _ e) tt
living-alive (Others n) known e = subst IsAlive (same_Some _ _ e) tt

pub alive-live : (a b : ℕ) (known : Holding) (content : Content) → IsAlive known → IsIn a b known content → content ≢ Dead
alive-live a b Unheld content l i = absurd l
alive-live a b Living content l i = i.0
alive-live a b Lifeless content l i = absurd l
alive-live a b (Own n) content l i = live-count a n content i.0
alive-live a b (Others n) content l i = live-count b n content i.0

-- what a step can make of what is known of a live object: it stays live, and as it is for the other actor
abbrev pub Follows : Holding → Holding → Type 0
Follows known new = IsAlive new × (other_claim new ≡ other_claim known)

-- a live object of the mover's is live for the other actor
alive-taught : (new : Holding) (c : Claim) → IsAlive new → taught (mover_claim new) c ≡ taught Alive c
alive-taught Unheld c l = absurd l
alive-taught Living c l = refl
alive-taught Lifeless c l = absurd l
alive-taught (Own n) NotHeld l = refl
alive-taught (Own n) Alive l = refl
alive-taught (Own n) Gone l = refl
alive-taught (Own n) (HeldTimes k) l = refl
alive-taught (Others n) c l = refl

living-taught : (before known : Holding) → living before ≡ Some known → taught Alive (other_claim before) ≡ other_claim known
living-taught Unheld known e = ap other_claim (same_Some _ _ e)
living-taught Living known e = ap other_claim (same_Some _ _ e)
living-taught Lifeless known e = cc
living-taught (Own n) known e = ap other_claim (same_Some _ _ e)
living-taught (Others n) known e = ap other_claim (same_Some _ _ e)

pub follows-taught : (before known new : Holding) → living before ≡ Some known → Follows known new → (taught (mover_claim new) (other_claim before) ≡ other_claim new) × (new ≢ Unheld)
follows-taught before known new e f =
    (alive-taught new (other_claim before) f.0 ∙ living-taught before known e ∙ sym f.1, λ same. subst IsAlive same f.0)

-- whether a call gives a mutex that the actor doesn't hold, by what is known of it
module _ (P : Program) (S : State) (a b : ℕ) where
  lacks-gives : (o : ℕ) (act : Act) (timing : Timing) → LacksMutex P S a o (given_kind act timing) → (is_mutex (kind_of P o) (given_kind act timing) ≡ true) × (count_held a (content_of S o) ≡ 0)
  lacks-gives o (Try (Give PlainForm) e) Now (mutex, none) = (ap (λ kind. is_mutex kind (Some Mutex)) mutex, none)
  lacks-gives o (Try (Give RecursiveForm) e) Now (mutex, none) = (ap (λ kind. is_mutex kind (Some Recursive)) mutex, none)
  lacks-gives o act timing h = absurd h

  gives-lacks : (o : ℕ) (kind : Kind) (given : Option Kind) → is_mutex kind given ≡ true → kind_of P o ≡ kind → count_held a (content_of S o) ≡ 0 → LacksMutex P S a o given
  gives-lacks o Mutex (Some Mutex) t is none = (is, none)
  gives-lacks o Recursive (Some Recursive) t is none = (is, none)
  gives-lacks o kind given t is none = cc

  pub gives-held : (call : ObjectCall) (known : Holding) → is_given_unheld (kind_of P call.object.0) call known ≡ false → IsIn a b known (content_of S call.object.0) → GivesUnheld P S a (Calls (On call)) → ⊥
  gives-held call (Own n) f i h =
      let none = (lacks-gives call.object.0 call.act call.timing h).1 in
      let same : count_held a (content_of S call.object.0) ≡ n = ap (count_held a) i.0 ∙ depth_for-same a n in
      absurd (omega (arith, same, none, i.1))
  gives-held call known f i h = false≢true (sym f ∙ (lacks-gives call.object.0 call.act call.timing h).0)

  pub unheld-gives : b ≢ a → (call : ObjectCall) (known : Holding) → is_given_unheld (kind_of P call.object.0) call known ≡ true → IsIn a b known (content_of S call.object.0) → GivesUnheld P S a (Calls (On call))
  unheld-gives ne call (Own n) t i = cc
  unheld-gives ne call Unheld t i = gives-lacks call.object.0 _ _ t refl (unheld-count a _ i.0)
  unheld-gives ne call Living t i = gives-lacks call.object.0 _ _ t refl (unheld-count a _ i.1)
  unheld-gives ne call Lifeless t i = gives-lacks call.object.0 _ _ t refl (ap (count_held a) i)
  unheld-gives ne call (Others n) t i = gives-lacks call.object.0 _ _ t refl (unheld-count a _ (others-free a b ne _ n i.0))

  -- where a use of the object is free, the object is live
  pub free-live : (o : ℕ) (side : Side) (i : Instr) → used_object i side ≡ Some o → IsFree P S a side i → content_of S o ≢ Dead
  free-live o side i uses free dead = free.0 IsLive refl (o, uses, dead)

-- what the end of an object call has to give, on an object of which this is known and which is `new` after it
pub record IsEndRow (s : Site) (o : ObjId) (known new : Holding) (timing : Timing) (act : Act) (way : Way) (result : Option VarId) (span : Range) : Type 0 where
  pub after : (S : State) (c : ℤ) (mid : State) → IsKnown s S → IsIn (mover s) (other s) known (content_of S o.0) → Completes s.app (transition S (mover s) c mid) o.0 timing act way → (made : Content) × (v : ℤ) × (mid ≡ with_result result v (becomes o.0 made S)) × IsIn (mover s) (other s) new made × Within (ends_of span) v
  pub shown : (d : Bool) → (before : Content) × CanHave s.app (kind_of s.app o.0) before × IsIn (mover s) (other s) known before
      × ((S : State) → content_of S o.0 ≡ before → (c : ℤ) × (made : Content) × Completes s.app (transition S (mover s) c (with_result result (end_of d (ends_of span)) (becomes o.0 made S))) o.0 timing act way)

module _ (P : Program) (k : Known) (p : Point) (known : Holding) (call : ObjectCall) (e : IsEnd P k p known call) where
  abbrev i : Instr
  i = Calls (On call)

  abbrev o : ObjId
  o = call.object

  pub end-names : (o.0 < length P.objects) × All (λ x. x.0 < length P.variables) (act_variables call.act)
  end-names = let t = e.spot.faultless.names.things p.actor.0 p.pc i e.spot.instr in (t.1, t.0)

  -- the actor's site, and the other actor
  abbrev pub at : (q : Point) → IsOther P k p q → Site
  at q there = site P k p q Inside i e.spot there

  abbrev pub b : (q : Point) → IsOther P k p q → ℕ
  b q there = other (at q there)

  module _ (q : Point) (there : IsOther P k p q) (S : State) (is : IsKnown (at q there) S) where
    end-in : IsFree P S p.actor.0 Inside i → IsIn p.actor.0 (b q there) known (content_of S o.0)
    end-in free = living-in p.actor.0 (b q there) (content_of S o.0) (holding k o.0) known e.living (free-live P S p.actor.0 (b q there) o.0 Inside i refl free) (contents-in (at q there) S is o.0)

    end-free : IsIn p.actor.0 (b q there) known (content_of S o.0) → IsFree P S p.actor.0 Inside i
    end-free inside =
        inside-free P S p.actor.0 i e.suits (gives-held P S p.actor.0 (b q there) call known e.held inside) (live-use P S p.actor.0 i Inside o.0 refl (alive-live p.actor.0 (b q there) known (content_of S o.0) (living-alive (holding k o.0) known e.living) inside))

  pub end-left : (way : Way) (new : Holding) (result : Option VarId) (span : Range) → Follows known new → IfSome result (λ x. x.0 < length P.variables) → ((q : Point) (there : IsOther P k p q) → IsEndRow (at q there) o known new call.timing call.act way result span) → IsLeft P k p way (resulting k o (mover_claim new) result span)
  end-left way new result span follows variable row = object-left P k p Inside i way e.spot o new result span (λ q there.
      let r = row q there in
      let f = follows-taught (holding k o.0) known new e.living follows in record {
        after = λ S c mid is free ends. r.after S c mid is (end-in q there S is free) ends;
        shown = λ d.
            let t = r.shown d in (
              t.0,
              t.1,
              in-living p.actor.0 (b q there) t.0 (holding k o.0) known e.living t.2,
              λ S is has.
                  let g = t.3 S has in
                  (g.0, g.1, g.2, end-free q there S is (subst (λ c. IsIn p.actor.0 (b q there) known c) (sym has) t.2)),
            );
        taught = f.0;
        some = f.1;
        object = end-names.0;
        variable = variable;
      })

  pub end-never : (way : Way) → ((q : Point) (there : IsOther P k p q) (S : State) (c : ℤ) (mid : State) → IsKnown (at q there) S → IsIn p.actor.0 (b q there) known (content_of S o.0) → Completes P (transition S p.actor.0 c mid) o.0 call.timing call.act way → ⊥) → NeverSteps P k p way
  end-never way none = row-never P k p Inside i way e.spot (λ q there S c mid is free ends. none q there S c mid is (end-in q there S is free) ends)

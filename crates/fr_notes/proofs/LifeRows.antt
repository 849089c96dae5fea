-- Creates, deletes, and the begins of object calls.
use Rattle.std.proofs.Common.{◌≡◌, ◌≢◌, ℕ, ◌<◌, length, Option, Some, None, true, false, refl, sym, ◌∙◌, subst, arith}
use Rattle.std.specs.Prelude.{pos, ◌≤ℤ◌}
use Rattle.fr_notes.proofs.Terms.{ints, ObjId, Point, Before, Instr, Calls, Create, Delete, On, ObjectCall, Range, Program, Way, Then, Else, Content, Dead, content_of, kind_of, new_content, is-built}
use Rattle.fr_notes.proofs.Terms.{no-use, live-use, Alive, Gone, Known, IsLeft, NeverSteps, taught, Holding, Unheld, Living, Lifeless, Own, Others, holding, can_be_dead, living, mover_claim}
use Rattle.fr_notes.proofs.Terms.{other_claim, is_given_unheld, IsSpot, IsUnforbidden, claiming}
use Rattle.fr_program.specs.declared.instr.CreatedKind.{CreatedKind}
use Rattle.fr_program.specs.declared.instr.DeletedKind.{DeletedKind}
use Rattle.fr_notes.proofs.Shown.{new-live}
use Rattle.fr_notes.proofs.Holdings.{IsIn, content_in, content-in, content-can, new-unheld, live-count}
use Rattle.fr_notes.proofs.Seen.{other, contents-in, known-fits}
use Rattle.fr_notes.proofs.Rows.{row-never, site}
use Rattle.fr_notes.proofs.PlainRows.{free-before}
use Rattle.fr_notes.proofs.ObjectRows.{object-left, same-content}
use Rattle.fr_notes.proofs.EndRows.{follows-taught, living-in, in-living, living-alive, alive-live, gives-held, free-live}
use Rattle.fr_notes.proofs.Ends.{living-fits}

-- where there is no result, any range does
no_range : Range
no_range = record { lo = pos 0; hi = pos 0; ordered = omega (arith, ints) }

no-range-in : (no_range.lo ≤ℤ pos 0) × (pos 0 ≤ℤ no_range.hi)
unfolding no_range
no-range-in = (omega (arith, ints), omega (arith, ints))

-- nothing is known of the object, or that it is dead
abbrev pub IsCreatable : Holding → Type 0
IsCreatable Unheld = Unit {0}
IsCreatable Lifeless = Unit {0}
IsCreatable known = ⊥

pub creatable : (known : Holding) → can_be_dead known ≡ true → IsCreatable known
creatable Unheld t = tt
creatable Lifeless t = tt
creatable known t = cc

pub not-creatable : (known : Holding) → can_be_dead known ≡ false → IsCreatable known → ⊥
not-creatable Unheld f c = cc
not-creatable Lifeless f c = cc
not-creatable known f c = c

dead-in : (a b : ℕ) (known : Holding) → IsCreatable known → IsIn a b known Dead
dead-in a b Unheld c = (λ k e. cc, λ k e. cc)
dead-in a b Lifeless c = refl
dead-in a b Living c = absurd c
dead-in a b (Own n) c = absurd c
dead-in a b (Others n) c = absurd c

-- a create leaves an object that nobody holds, or a dead one
created-taught : (known : Holding) → IsCreatable known → taught Alive (other_claim known) ≡ Alive
created-taught Unheld c = refl
created-taught Lifeless c = refl
created-taught Living c = absurd c
created-taught (Own n) c = absurd c
created-taught (Others n) c = absurd c

not-dead : (a b : ℕ) (known : Holding) (content : Content) → (IsCreatable known → ⊥) → IsIn a b known content → content ≢ Dead
not-dead a b Unheld content none i e = none tt
not-dead a b Lifeless content none i e = none tt
not-dead a b Living content none i e = i.0 e
not-dead a b (Own n) content none i e = live-count a n content i.0 e
not-dead a b (Others n) content none i e = live-count b n content i.0 e

module _ (P : Program) (k : Known) (p : Point) (made : CreatedKind) (o : ObjId) (or_else : Option ℕ) (spot : IsSpot P k p Before (Calls (Create made o or_else))) where
  abbrev create : Instr
  create = Calls (Create made o or_else)

  object-there : o.0 < length P.objects
  object-there = (spot.faultless.names.things p.actor.0 p.pc create spot.instr).1

  pub create-left : IsUnforbidden P k p create → IsCreatable (holding k o.0) → IsLeft P k p Then (claiming k o Alive)
  create-left none can = object-left P k p Before create Then spot o Living None no_range (λ q there.
      let s = site P k p q Before create spot there in record {
        after = λ S c mid is free r.
            (new_content (kind_of P o.0), pos 0, r.2, (new-live (kind_of P o.0), λ n f. new-unheld p.actor.0 n (kind_of P o.0) f, λ n f. new-unheld (other s) n (kind_of P o.0) f), no-range-in);
        shown = λ d. (Dead, tt, dead-in p.actor.0 (other s) (holding k o.0) can, λ S is has. (pos 1, new_content (kind_of P o.0), (refl, has, refl), free-before s create none S is (λ g. g) (no-use P S p.actor.0 create Before refl)));
        taught = created-taught (holding k o.0) can;
        some = λ e. cc;
        object = object-there;
        variable = tt;
      })

  pub create-fails-left : IsUnforbidden P k p create → IsCreatable (holding k o.0) → IsLeft P k p Else (claiming k o Gone)
  create-fails-left none can = object-left P k p Before create Else spot o Lifeless None no_range (λ q there.
      let s = site P k p q Before create spot there in record {
        after = λ S c mid is free r. (content_of S o.0, pos 0, r.2 ∙ same-content o S, r.1, no-range-in);
        shown = λ d. (Dead, tt, dead-in p.actor.0 (other s) (holding k o.0) can, λ S is has. (pos 0, content_of S o.0, (refl, has, sym (same-content o S)), free-before s create none S is (λ g. g) (no-use P S p.actor.0 create Before refl)));
        taught = refl;
        some = λ e. cc;
        object = object-there;
        variable = tt;
      })

  pub create-never : (way : Way) → (IsCreatable (holding k o.0) → ⊥) → NeverSteps P k p way
  create-never Then none = row-never P k p Before create Then spot (λ q there S c mid is free r.
      let s = site P k p q Before create spot there in not-dead p.actor.0 (other s) (holding k o.0) (content_of S o.0) none (contents-in s S is o.0) r.1)
  create-never Else none = row-never P k p Before create Else spot (λ q there S c mid is free r.
      let s = site P k p q Before create spot there in not-dead p.actor.0 (other s) (holding k o.0) (content_of S o.0) none (contents-in s S is o.0) r.1)

module _ (P : Program) (k : Known) (p : Point) (deleted : DeletedKind) (o : ObjId) (spot : IsSpot P k p Before (Calls (Delete deleted o))) where
  abbrev delete : Instr
  delete = Calls (Delete deleted o)

  pub delete-left : IsUnforbidden P k p delete → (known : Holding) → living (holding k o.0) ≡ Some known → IsLeft P k p Then (claiming k o Gone)
  delete-left none known live = object-left P k p Before delete Then spot o Lifeless None no_range (λ q there.
      let s = site P k p q Before delete spot there in
      let fits = living-fits P p.actor.0 (other s) (kind_of P o.0) (holding k o.0) known live (known-fits s o.0) in
      let before = content_in p.actor.0 (other s) (kind_of P o.0) known in
      let inside = content-in P p.actor.0 (other s) (kind_of P o.0) known fits in record {
        after = λ S c mid is free r. (Dead, pos 0, r.1, refl, no-range-in);
        shown = λ d. (before, content-can P p.actor.0 (other s) (kind_of P o.0) known ((is-built P spot.faultless).sizes o.0) fits, in-living p.actor.0 (other s) before (holding k o.0) known live inside, λ S is has. (pos 0, Dead, (refl, refl), free-before s delete none S is (λ g. g) (live-use P S p.actor.0 delete Before o.0 refl (λ dead. alive-live p.actor.0 (other s) known before (living-alive (holding k o.0) known live) inside (sym has ∙ dead)))));
        taught = refl;
        some = λ e. cc;
        object = (spot.faultless.names.things p.actor.0 p.pc delete spot.instr).1;
        variable = tt;
      })

module _ (P : Program) (k : Known) (p : Point) (done : ObjectCall) (spot : IsSpot P k p Before (Calls (On done))) where
  abbrev call : Instr
  call = Calls (On done)

  abbrev o : ObjId
  o = done.object

  -- the begin of a call on an object that is live, of a mutex that is the mover's if it gives one
  pub begin-left : IsUnforbidden P k p call → (known : Holding) → living (holding k o.0) ≡ Some known → is_given_unheld (kind_of P o.0) done known ≡ false → IsLeft P k p Then (claiming k o (mover_claim known))
  begin-left none known live held = object-left P k p Before call Then spot o known None no_range (λ q there.
      let s = site P k p q Before call spot there in
      let fits = living-fits P p.actor.0 (other s) (kind_of P o.0) (holding k o.0) known live (known-fits s o.0) in
      let before = content_in p.actor.0 (other s) (kind_of P o.0) known in
      let inside = content-in P p.actor.0 (other s) (kind_of P o.0) known fits in
      let f = follows-taught (holding k o.0) known known live (living-alive (holding k o.0) known live, refl) in record {
        after = λ S c mid is free r. (content_of S o.0, pos 0, r.1 ∙ same-content o S, living-in p.actor.0 (other s) (content_of S o.0) (holding k o.0) known live (free-live P S p.actor.0 (other s) o.0 Before call refl free) (contents-in s S is o.0), no-range-in);
        shown = λ d. (before, content-can P p.actor.0 (other s) (kind_of P o.0) known ((is-built P spot.faultless).sizes o.0) fits, in-living p.actor.0 (other s) before (holding k o.0) known live inside, λ S is has. (pos 0, content_of S o.0, (refl, sym (same-content o S)), free-before s call none S is (gives-held P S p.actor.0 (other s) done known held (subst (λ c. IsIn p.actor.0 (other s) known c) (sym has) inside)) (live-use P S p.actor.0 call Before o.0 refl (λ dead. alive-live p.actor.0 (other s) known before (living-alive (holding k o.0) known live) inside (sym has ∙ dead)))));
        taught = f.0;
        some = f.1;
        object = (spot.faultless.names.things p.actor.0 p.pc call spot.instr).1;
        variable = tt;
      })

-- The object of a call that can end: what is known of it, and contents that it can have.
use Rattle.std.proofs.Common.{◌≡◌, ◌≢◌, ℕ, Some, Bool, true, false, refl, subst, arith}
use Rattle.std.specs.Prelude.{IsTrue, IfSome}
use Rattle.fr_notes.proofs.Terms.{ints, same_Some, slice_get-get_or, Point, ObjectCall, Calls, On, Kind, Range, Program, no_object, KindInLimits, InstrInLimits, acts_on, Content, CanHave, kind_of}
use Rattle.fr_notes.proofs.Terms.{HasSizes, is-built, Within, HeldTimes, ends_of, CanClaim, Known, IsOther, Holding, Unheld, Living, Lifeless, Own, Others, holding, living, IsEnd}
use Rattle.fr_notes.proofs.Holdings.{IsIn, HoldingFits, content_in, content-in, content-can}
use Rattle.fr_notes.proofs.Seen.{apart, known-fits}
use Rattle.fr_notes.proofs.Left.{end_of}
use Rattle.fr_notes.proofs.EndRows.{IsAlive, living-alive, at, b, end-names}

-- both ends of a range are in it
pub end-in : (span : Range) (d : Bool) → Within (ends_of span) (end_of d (ends_of span))
end-in span false = (omega (arith, ints), span.ordered)
end-in span true = (span.ordered, omega (arith, ints))

pub living-fits : (P : Program) (a b : ℕ) (kind : Kind) (before known : Holding) → living before ≡ Some known → HoldingFits P a b kind before → HoldingFits P a b kind known
living-fits P a b kind Unheld known e f = subst (λ h. HoldingFits P a b kind h) (same_Some _ _ e) tt
living-fits P a b kind Living known e f = subst (λ h. HoldingFits P a b kind h) (same_Some _ _ e) f
living-fits P a b kind Lifeless known e f = cc
living-fits P a b kind (Own n) known e f = subst (λ h. HoldingFits P a b kind h) (same_Some _ _ e) f
living-fits P a b kind (Others n) known e f = subst (λ h. HoldingFits P a b kind h) (same_Some _ _ e) f

-- a live object of this kind, and what is known of it for an actor a that is inside a call on it, and for another actor b
pub record IsTarget (P : Program) (a b : ℕ) (kind : Kind) (known : Holding) : Type 0 where
  pub limits : KindInLimits kind
  pub sizes : HasSizes kind
  pub fits : HoldingFits P a b kind known
  pub alive : IsAlive known
  pub apart : b ≢ a

-- a content that it can have
pub some-content : (P : Program) (a b : ℕ) (kind : Kind) (known : Holding) → IsTarget P a b kind known → (before : Content) × CanHave P kind before × IsIn a b known before
some-content P a b kind known t = (content_in a b kind known, content-can P a b kind known t.sizes t.fits, content-in P a b kind known t.fits)

-- of one that can't be held no more is known than that it is live
pub living-only : (P : Program) (a b : ℕ) (kind : Kind) (known : Holding) → IsTarget P a b kind known → ((n : ℕ) → CanClaim kind (HeldTimes n) → ⊥) → known ≡ Living
living-only P a b kind Unheld t none = absurd t.alive
living-only P a b kind Living t none = refl
living-only P a b kind Lifeless t none = absurd t.alive
living-only P a b kind (Own n) t none = absurd (none n t.fits.0)
living-only P a b kind (Others n) t none = absurd (none n t.fits.0)

module _ (P : Program) (k : Known) (p : Point) (known : Holding) (call : ObjectCall) (e : IsEnd P k p known call) where
  pub target : (q : Point) (there : IsOther P k p q) → IsTarget P p.actor.0 (b P k p known call e q there) (kind_of P call.object.0) known
  target q there = record {
    limits = e.spot.faultless.limits.objects call.object.0 no_object (end-names P k p known call e).0;
    sizes = (is-built P e.spot.faultless).sizes call.object.0;
    fits = living-fits P p.actor.0 (b P k p known call e q there) (kind_of P call.object.0) (holding k call.object.0) known e.living (known-fits (at P k p known call e q there) call.object.0);
    alive = living-alive (holding k call.object.0) known e.living;
    apart = apart (at P k p known call e q there);
  }

  -- the call is for objects of its kind, and within its limits
  pub acts-on : IsTrue (acts_on call.act (kind_of P call.object.0))
  acts-on = subst (λ x. IfSome x (λ object. IsTrue (acts_on call.act object.kind))) (slice_get-get_or P.objects call.object.0 no_object (end-names P k p known call e).0) (e.spot.faultless.kinds p.actor.0 p.pc (Calls (On call)) e.spot.instr)

  pub in-limits : InstrInLimits (Calls (On call))
  in-limits = e.spot.faultless.limits.code p.actor.0 p.pc (Calls (On call)) e.spot.instr

-- An alternative that bears what a step can change holds after the step.
use Rattle.std.proofs.Common.{◌≡◌, ◌≢◌, ℕ, length, Some, sym, ap, ◌∙◌, subst, arith, ⊎_elim}
use Rattle.std.specs.Prelude.{ℤ, length, ◌↔◌, Bool, IsTrue, IfSome, Contains}
use Rattle.fr_effects.proofs.Terms.{ints, slice_get-get_or, All-contains, Point, Side, Before, Inside, Instr, Set, Pick, Calls, Call, Create, Delete, On, ObjectCall, Act, Try, Move, QueueReceive}
use Rattle.fr_effects.proofs.Terms.{Operand, Number, Variable, Operator, Times, Kind, Queue, Range, IsIn, Program, instr_of, no_object, acts_on, IsFaultless, OperandsFit, State, kind_of, operand_of}
use Rattle.fr_effects.proofs.Terms.{result_of, Way, Then, Else, StepBy, NotHeld, Alternative, Note, HoldsOne, Within, claim_of, range_of, CanBeIn, IsSpanIn, ends_of, Known, HasKnown, alone, beside}
use Rattle.fr_effects.proofs.Terms.{joint_range, Effect, Life, Gives, Sets, IsSparedByRow, IsSparedByRows, effect_inside, effect_of, IsMade, IsWritten, IsSeen, Bears, EachBears, AllBear}
use Rattle.fr_effects.proofs.Terms.{IsComputable}
use Rattle.fr_rules.proofs.Rows.{row-of-step, landing-of-step, free-to-step}
use Rattle.fr_program.proofs.PointLemmas.{same-actor}
use Rattle.fr_effects.proofs.EffectLaws.{Suits, row-seen}

-- an operand's number is one that it can be
can-be : (m : Alternative) (a : ℕ) (S : State) → HoldsOne m a S → (operand : Operand) → CanBeIn (range_of m) operand (operand_of S operand)
can-be m a S holds (Number z) = (omega (arith, ints), omega (arith, ints))
can-be m a S holds (Variable x) = holds.variables x.0

module _ (m n : Alternative) where
  bears-claim : (effect : Effect) (o : ℕ) → Bears effect m n → IsMade effect o → claim_of n o ≡ NotHeld
  bears-claim (Life k) o bears made = subst (λ j. claim_of n j ≡ NotHeld) made bears
  bears-claim effect o bears made = absurd made

  bears-value : (effect : Effect) (a : ℕ) (S : State) (x : ℕ) (v : ℤ) → HoldsOne m a S → Bears effect m n → IsWritten effect S x v → Within (range_of n x) v
  bears-value (Gives k lo hi) a S x v holds bears w =
      subst (λ j. Within (range_of n j) v) w.0 (omega (arith, ints, bears.0.0, w.1), omega (arith, ints, bears.1.1, w.2))
  bears-value (Sets k l op r) a S x v holds bears w =
      subst (λ j. Within (range_of n j) v) w.0 (subst (λ u. Within (range_of n k.0) u) (sym w.1) (bears (operand_of S l) (operand_of S r) (can-be m a S holds l) (can-be m a S holds r)))
  bears-value effect a S x v holds bears w = absurd w

  bears-holds : (effect : Effect) (a b : ℕ) (S T : State) → Bears effect m n → HoldsOne m a S → HoldsOne n b S → IsSeen effect b S T → HoldsOne n b T
  bears-holds effect a b S T bears holds h seen = record {
    critical = seen.critical ∙ h.critical;
    suspended = seen.suspended ∙ h.suspended;
    objects = λ o. seen.objects o (claim_of n o) (λ made. bears-claim effect o bears made) (h.objects o);
    variables = λ x. ⊎_elim (λ same. subst (λ v. Within (range_of n x) v) (sym same) (h.variables x)) (λ written. bears-value effect a S x _ holds bears written) (seen.values x);
  }

-- an application's object call is for its object's kind, and has a timing that its act can have
pub call-suits : (P : Program) → IsFaultless P → (q : Point) (i : Instr) → instr_of P q ≡ Some i → (call : ObjectCall) → i ≡ Calls (On call) → Suits P call
call-suits P free q i is call same =
    let at = is ∙ ap (λ x. Some x) same in
    let l = (free.names.things q.actor.0 q.pc (Calls (On call)) at).1 in
    let h = free.kinds q.actor.0 q.pc (Calls (On call)) at in
    (subst (λ x. IfSome x (λ object. IsTrue (acts_on call.act object.kind))) (slice_get-get_or P.objects call.object.0 no_object l) h, (free.limits.code q.actor.0 q.pc (Calls (On call)) at).0)

module _ (P : Program) (free : IsFaultless P) (p q : Point) (ne : p.actor ≢ q.actor) (i : Instr) (is : instr_of P q ≡ Some i) where
  -- after each step the alternative of the actor that doesn't move holds still
  bears-left : (n m : Alternative) (way : Way) → Bears (effect_of P q.side i) m n → (S : State) (c : ℤ) (T : State) → HasKnown P (beside m n) q p S → StepBy P way S q.actor.0 c T → HoldsOne n p.actor.0 T
  bears-left n m way bears S c T known step =
      let at = known.mover.at in
      let row = row-of-step P S q.actor.0 q.pc q.side i way c T at is step in
      let freely = free-to-step P S q.actor.0 q.pc q.side i at is c (T, (way, step)) in
      let seen = row-seen P S step.mid q.actor.0 p.actor.0 (λ e. ne (same-actor p.actor q.actor e)) known.mover.formed c q.side i way (call-suits P free q i is) freely row in
      let holds = bears-holds m n (effect_of P q.side i) q.actor.0 p.actor.0 S step.mid bears known.mover.holds known.other.holds seen in
      subst (λ U. HoldsOne n p.actor.0 U) (sym (landing-of-step P S q.actor.0 q.pc q.side i way c T at is step)) (record { critical = holds.critical; suspended = holds.suspended; objects = holds.objects; variables = holds.variables })

  -- so where each alternative bears it, whichever one the mover has, each is left by every step
  pub borne-spared : (note others : Note) → AllBear (effect_of P q.side i) others note → (n m : Alternative) → Contains note n → Contains others m → IsSparedByRows P p n q m note
  borne-spared note others borne n m one other = (by_way Then, by_way Else)
    where
      by_way : (way : Way) → IsSparedByRow P p n q m way note
      by_way way can =
          let bears = All-contains (λ k. Bears (effect_of P q.side i) m k) note n (All-contains (λ k. EachBears (effect_of P q.side i) k note) others m borne other) one in
          (n, one, λ S c T known step. bears-left n m way bears S c T known step)

-- what a call gives needs no product
inside-computable : (act : Act) (kind : Kind) → IsComputable (effect_inside act kind)
inside-computable (Try (QueueReceive into) e) (Queue size lo hi) = tt
inside-computable (Move end buffer length (Some x)) kind = tt
inside-computable act kind = tt

-- a `set` of an application has a number among the factors of its product
pub computable : (P : Program) (side : Side) (i : Instr) → OperandsFit i → IsComputable (effect_of P side i)
computable P Before (Set x l Times r) fits = fits
computable P Before (Set x l op r) fits = tt
computable P Before (Calls call) fits = by_call call
  where
    by_call : (call : Call) → IsComputable (effect_of P Before (Calls call))
    by_call (Create kind o e) = tt
    by_call (Delete kind o) = tt
    by_call call = tt
computable P Before (Pick x lo hi) fits = tt
computable P Inside (Calls (On call)) fits = inside-computable call.act (kind_of P call.object.0)
computable P side i fits = tt

-- the exact span of what a `set` computes lies in a range exactly where all of it does
pub set-within : (m : Alternative) (k : Known) → k ≡ alone m → (l : Operand) (op : Operator) (r : Operand) (span range : Range) → IsSpanIn (joint_range k) op l r span → (result : Bool) → (IsTrue result ↔ ((z : ℤ) → IsIn span z → IsIn range z)) →
    (IsTrue result ↔ ((u v : ℤ) → CanBeIn (range_of m) l u → CanBeIn (range_of m) r v → Within (ends_of range) (result_of op u v)))
set-within m k one l op r span range computed result both = (
  λ t u v left right. both.0 t (result_of op u v) (s.inside u v left right),
  λ all.
      let lo = subst (λ v. Within (ends_of range) v) s.lo.4 (all s.lo.0 s.lo.1 s.lo.2 s.lo.3) in
      let hi = subst (λ v. Within (ends_of range) v) s.hi.4 (all s.hi.0 s.hi.1 s.hi.2 s.hi.3) in
      both.1 (λ z inside. (omega (arith, ints, lo.0, inside.0), omega (arith, ints, hi.1, inside.1))),
)
  where
    s : IsSpanIn (range_of m) op l r span
    s = subst (λ e. IsSpanIn (joint_range e) op l r span) one computed

-- The rows that touch no variable and no object.
use Rattle.std.proofs.Common.{◌≡◌, ◌≢◌, ℕ, zero, suc, ◌+◌, ◌-◌, ◌≤◌, length, get_or, Option, Some, None, false, refl, sym, ap, ◌∙◌, subst, arith, ⊎_elim, get_or-set_other}
use Rattle.std.specs.Prelude.{ℤ, pos, IfSome}
use Rattle.fr_notes.proofs.Terms.{get_or-set_same, common_steps, Point, Side, Before, Form, Instr, Goto, Calls, Return, EnterCritical, ExitCritical, SuspendAll, ResumeAll, Yield, Delay, DeleteSelf}
use Rattle.fr_notes.proofs.Terms.{Program, actor_at, is_interrupt, Way, Then, State, Dead, depth_of, depth_in, suspension_of, in_critical, critical_at, suspend_at, condition_of, first_forbidden}
use Rattle.fr_notes.proofs.Terms.{holds_some, GivesUnheld, UsesDead, used_object, Row, IsFree, Transition, transition, before-free, no-use, Change, Alternative, Known, IsLeft}
use Rattle.fr_notes.proofs.Terms.{is_other_critical, Unheld, IsSpot, IsUnforbidden, LeavesBefore, condition_known, unchanged}
use Rattle.fr_notes.proofs.Shown.{depth_for-same, depth_for-other, held_at-same, held_at-other}
use Rattle.fr_notes.proofs.Seen.{Site, mover, other, second, second_in, IsKnown, Choice, drawn, IsChosen, drawn-known, usual, usual-chosen, apart, mover-there, holds-known, other-depth, critical_for, second-critical}
use Rattle.fr_notes.proofs.Rows.{IsRow, row-left, row-never, site}

-- the mover's condition is known
pub condition-known : (s : Site) (S : State) → IsKnown s S → condition_of s.app S (mover s) ≡ condition_known s.app s.known s.p
condition-known s S known =
    let t = is_interrupt (actor_at s.app (mover s)).kind in
    ap (λ d. record { interrupt = t; critical = d; suspended = suspension_of S (mover s); holds = holds_some S (mover s) }) known.mover.holds.critical
    ∙ ap (λ d. record { interrupt = t; critical = s.known.mover.critical; suspended = d; holds = holds_some S (mover s) }) known.mover.holds.suspended
    ∙ ap (λ h. record { interrupt = t; critical = s.known.mover.critical; suspended = s.known.mover.suspended; holds = h }) (holds-known s S known)

-- before an instruction that no rule stops, which gives no mutex that isn't held and uses no dead object, the mover is free
pub free-before : (s : Site) (i : Instr) → IsUnforbidden s.app s.known s.p i → (S : State) → IsKnown s S → (GivesUnheld s.app S (mover s) i → ⊥) → (UsesDead S i Before → ⊥) → IsFree s.app S (mover s) Before i
free-before s i none S known gives uses =
    before-free s.app S (mover s) i (ap (λ k. first_forbidden s.app k i) (condition-known s S known) ∙ none) gives uses

-- the change of the depths alone
abbrev pub to_depths : ℕ → ℕ → Change
to_depths crit susp = record { crit = crit; susp = susp; claim = None; first = None; second = None }

-- what holds after a plain row
pub record IsPlainAfter (s : Site) (crit susp : ℕ) (S mid : State) : Type 0 where
  pub objects : mid.objects ≡ S.objects
  pub values : mid.values ≡ S.values
  pub critical : depth_of mid (mover s) ≡ crit
  pub suspended : suspension_of mid (mover s) ≡ susp
  pub others_critical : depth_of mid (other s) ≡ depth_of S (other s)
  pub others_suspended : suspension_of mid (other s) ≡ suspension_of S (other s)

pub plain-row : (s : Site) (side : Side) (i : Instr) (way : Way) (crit susp : ℕ) → ((S : State) (c : ℤ) (mid : State) → IsKnown s S → Row s.app (transition S (mover s) c mid) side i way → IsPlainAfter s crit susp S mid) → ((f : Choice) → IsChosen s f → (c : ℤ) × (mid : State) × Row s.app (transition (drawn s f) (mover s) c mid) side i way × IsFree s.app (drawn s f) (mover s) side i) → IsRow s side i way (to_depths crit susp) Unheld (λ f. Unit {0})
plain-row s side i way crit susp after goes = record {
  after = λ S c mid known free row. let k = after S c mid known row in record {
    objects = ap length k.objects;
    values = ap length k.values;
    untouched = λ o miss. ap (λ os. get_or os o Dead) k.objects;
    touched = tt;
    unwritten = λ x miss. ap (λ vs. get_or vs x (pos 0)) k.values;
    first = tt;
    second = tt;
    critical = k.critical;
    suspended = k.suspended;
    others_critical = k.others_critical;
    others_suspended = k.others_suspended;
  };
  goes = λ f chosen can. goes f chosen;
  base = usual s;
  chosen = usual-chosen s;
  can = tt;
  values_free = λ f x v miss can. tt;
  contents_free = λ f o c miss can. tt;
  first = tt;
  second = tt;
  claim = tt;
}

-- a row that leaves the whole state
pub still-row : (s : Site) (i : Instr) (way : Way) → IsUnforbidden s.app s.known s.p i → ((S : State) (c : ℤ) (mid : State) → Row s.app (transition S (mover s) c mid) Before i way → mid ≡ S) → ((S : State) → Row s.app (transition S (mover s) (pos 0) S) Before i way) → ((S : State) → GivesUnheld s.app S (mover s) i → ⊥) → used_object i Before ≡ None → IsRow s Before i way (unchanged s.known) Unheld (λ f. Unit {0})
still-row s i way none after row gives uses = plain-row s Before i way s.known.mover.critical s.known.mover.suspended
    (λ S c mid known r. let e = after S c mid r in record {
      objects = ap (λ U. U.objects) e;
      values = ap (λ U. U.values) e;
      critical = ap (λ U. depth_of U (mover s)) e ∙ known.mover.holds.critical;
      suspended = ap (λ U. suspension_of U (mover s)) e ∙ known.mover.holds.suspended;
      others_critical = ap (λ U. depth_of U (other s)) e;
      others_suspended = ap (λ U. suspension_of U (other s)) e;
    })
    (λ f chosen. (pos 0, drawn s f, row (drawn s f), free-before s i none (drawn s f) (drawn-known s f chosen) (gives (drawn s f)) (no-use s.app (drawn s f) (mover s) i Before uses)))

module _ (P : Program) (k : Known) (p : Point) where
  still-left : (i : Instr) → IsSpot P k p Before i → IsUnforbidden P k p i → ((S : State) (c : ℤ) (mid : State) → Row P (transition S p.actor.0 c mid) Before i Then → mid ≡ S) → ((S : State) → Row P (transition S p.actor.0 (pos 0) S) Before i Then) → ((S : State) → GivesUnheld P S p.actor.0 i → ⊥) → used_object i Before ≡ None → IsLeft P k p Then (unchanged k)
  still-left i spot none after row gives uses = row-left P k p Before i Then spot (unchanged k) Unheld (λ s f. Unit {0}) (λ q there. still-row (site P k p q Before i spot there) i Then none after row gives uses)

  pub goto-left : (target : ℕ) → IsSpot P k p Before (Goto target) → IsUnforbidden P k p (Goto target) → IsLeft P k p Then (unchanged k)
  goto-left target spot none = still-left (Goto target) spot none (λ S c mid r. r.1) (λ S. (refl, refl)) (λ S b. b) refl

  pub return-left : IsSpot P k p Before Return → IsUnforbidden P k p Return → IsLeft P k p Then (unchanged k)
  return-left spot none = still-left Return spot none (λ S c mid r. r.1) (λ S. (refl, refl)) (λ S b. b) refl

  pub yield-left : IsSpot P k p Before (Calls Yield) → IsUnforbidden P k p (Calls Yield) → IsLeft P k p Then (unchanged k)
  yield-left spot none = still-left (Calls Yield) spot none (λ S c mid r. r.1) (λ S. (refl, refl)) (λ S b. b) refl

  pub delay-left : (ticks : ℕ) → IsSpot P k p Before (Calls (Delay ticks)) → IsUnforbidden P k p (Calls (Delay ticks)) → IsLeft P k p Then (unchanged k)
  delay-left ticks spot none = still-left (Calls (Delay ticks)) spot none (λ S c mid r. r.1) (λ S. (refl, refl)) (λ S b. b) refl

  pub end-left : IsSpot P k p Before (Calls DeleteSelf) → IsUnforbidden P k p (Calls DeleteSelf) → IsLeft P k p Then (unchanged k)
  end-left spot none = still-left (Calls DeleteSelf) spot none (λ S c mid r. r.1) (λ S. (refl, refl)) (λ S b. b) refl

-- no step goes by a row that there isn't
pub no-row : (P : Program) (k : Known) (i : Instr) (way : Way) → ((t : Transition) → Row P t Before i way → ⊥) → LeavesBefore P k i way None
no-row P k i way none p spot free = row-never P k p Before i way spot (λ q there S c mid known frees r. none _ r)

-- whoever is in the critical section where the mover alone can be, it isn't another actor
others-depth : (h : Option (ℕ × ℕ)) (a b : ℕ) → b ≢ a → IfSome h (λ c. c.0 ≡ a) → depth_in h b ≡ 0
others-depth None a b ne own = refl
others-depth (Some h) a b ne own = subst (λ k. depth_in (Some (k, h.1)) b ≡ 0) (sym own) (depth_for-other a h.1 b ne)

-- in a state to show nobody but the mover is in the critical section, where the other actor isn't
own-critical : (c d a b : ℕ) → d ≡ 0 → IfSome (critical_for a c b d) (λ h. h.0 ≡ a)
own-critical zero zero a b e = tt
own-critical zero (suc d) a b e = cc
own-critical (suc c) d a b e = refl

-- whether the other actor is known to be in the critical section
not-critical : (n : Alternative) (o : Option Alternative) → is_other_critical (record { mover = n; other = o }) ≡ false → (second_in n o).critical ≡ 0
not-critical n None e = refl
not-critical n (Some m) e = grind (arith, common_steps)

depths-row : (s : Site) (i : Instr) (crit susp : ℕ) (made : State → State) → IsUnforbidden s.app s.known s.p i → used_object i Before ≡ None → ((S : State) → GivesUnheld s.app S (mover s) i → ⊥) → ((S : State) (c : ℤ) (mid : State) → IsKnown s S → Row s.app (transition S (mover s) c mid) Before i Then → (mid ≡ made S) × IsPlainAfter s crit susp S (made S)) → ((f : Choice) → IsChosen s f → Row s.app (transition (drawn s f) (mover s) (pos 0) (made (drawn s f))) Before i Then) → IsRow s Before i Then (to_depths crit susp) Unheld (λ f. Unit {0})
depths-row s i crit susp made none uses gives after row = plain-row s Before i Then crit susp
    (λ S c mid known r. let k = after S c mid known r in subst (λ U. IsPlainAfter s crit susp S U) (sym k.0) k.1)
    (λ f chosen. (pos 0, made (drawn s f), row f chosen, free-before s i none (drawn s f) (drawn-known s f chosen) (gives (drawn s f)) (no-use s.app (drawn s f) (mover s) i Before uses)))

module _ (P : Program) (k : Known) (p : Point) where
  pub enter-left : (form : Form) → IsSpot P k p Before (Calls (EnterCritical form)) → IsUnforbidden P k p (Calls (EnterCritical form)) → is_other_critical k ≡ false → IsLeft P k p Then (to_depths (k.mover.critical + 1) k.mover.suspended)
  enter-left form spot none clear = row-left P k p Before (Calls (EnterCritical form)) Then spot (to_depths (k.mover.critical + 1) k.mover.suspended) Unheld (λ s f. Unit {0}) (λ q there.
      let s = site P k p q Before (Calls (EnterCritical form)) spot there in
      let out = not-critical k.mover k.other clear in
      depths-row s (Calls (EnterCritical form)) (k.mover.critical + 1) k.mover.suspended (λ S. in_critical p.actor.0 (depth_of S p.actor.0 + 1) S) none refl (λ S b. b)
      (λ S c mid known r. (
        r.2,
        record {
          objects = refl;
          values = refl;
          critical = depth_for-same p.actor.0 (depth_of S p.actor.0 + 1) ∙ ap (λ d. d + 1) known.mover.holds.critical;
          suspended = known.mover.holds.suspended;
          others_critical = depth_for-other p.actor.0 (depth_of S p.actor.0 + 1) (other s) (apart s) ∙ sym (others-depth S.critical p.actor.0 (other s) (apart s) r.1);
          others_suspended = refl;
        },
      ))
      (λ f chosen. (refl, own-critical k.mover.critical (second s).critical p.actor.0 (other s) out, refl)))

  pub exit-left : (form : Form) → IsSpot P k p Before (Calls (ExitCritical form)) → IsUnforbidden P k p (Calls (ExitCritical form)) → 1 ≤ k.mover.critical → IsLeft P k p Then (to_depths (k.mover.critical - 1) k.mover.suspended)
  exit-left form spot none deep = row-left P k p Before (Calls (ExitCritical form)) Then spot (to_depths (k.mover.critical - 1) k.mover.suspended) Unheld (λ s f. Unit {0}) (λ q there.
      let s = site P k p q Before (Calls (ExitCritical form)) spot there in
      let out : (second s).critical ≡ 0 = ⊎_elim (λ e. absurd (omega (arith, e, deep))) (λ e. e) (second-critical P k.mover k.other spot.fits) in
      depths-row s (Calls (ExitCritical form)) (k.mover.critical - 1) k.mover.suspended (λ S. critical_at p.actor.0 (depth_of S p.actor.0 - 1) S) none refl (λ S b. b)
      (λ S c mid known r. (
        r.1,
        record {
          objects = refl;
          values = refl;
          critical = held_at-same p.actor.0 (depth_of S p.actor.0 - 1) ∙ ap (λ d. d - 1) known.mover.holds.critical;
          suspended = known.mover.holds.suspended;
          others_critical = held_at-other p.actor.0 (depth_of S p.actor.0 - 1) (other s) (apart s) ∙ sym (other-depth s S known ∙ out);
          others_suspended = refl;
        },
      ))
      (λ f chosen. (refl, refl)))

  suspended-row : (s : Site) (S : State) (depth : ℕ) → IsKnown s S → IsPlainAfter s s.known.mover.critical depth S (suspend_at (mover s) depth S)
  suspended-row s S depth known = record {
    objects = refl;
    values = refl;
    critical = known.mover.holds.critical;
    suspended = get_or-set_same S.suspended (mover s) depth 0 (let long = known.mover.formed.suspensions in let there = mover-there s in omega (arith, long, there));
    others_critical = refl;
    others_suspended = get_or-set_other S.suspended (mover s) (other s) depth 0 (apart s);
  }

  pub suspend-left : IsSpot P k p Before (Calls SuspendAll) → IsUnforbidden P k p (Calls SuspendAll) → IsLeft P k p Then (to_depths k.mover.critical (k.mover.suspended + 1))
  suspend-left spot none = row-left P k p Before (Calls SuspendAll) Then spot (to_depths k.mover.critical (k.mover.suspended + 1)) Unheld (λ s f. Unit {0}) (λ q there.
      let s = site P k p q Before (Calls SuspendAll) spot there in
      depths-row s (Calls SuspendAll) k.mover.critical (k.mover.suspended + 1) (λ S. suspend_at p.actor.0 (suspension_of S p.actor.0 + 1) S) none refl (λ S b. b)
      (λ S c mid known r. (r.1, subst (λ d. IsPlainAfter s k.mover.critical (d + 1) S (suspend_at p.actor.0 (suspension_of S p.actor.0 + 1) S)) known.mover.holds.suspended (suspended-row s S (suspension_of S p.actor.0 + 1) known)))
      (λ f chosen. (refl, refl)))

  pub resume-left : IsSpot P k p Before (Calls ResumeAll) → IsUnforbidden P k p (Calls ResumeAll) → IsLeft P k p Then (to_depths k.mover.critical (k.mover.suspended - 1))
  resume-left spot none = row-left P k p Before (Calls ResumeAll) Then spot (to_depths k.mover.critical (k.mover.suspended - 1)) Unheld (λ s f. Unit {0}) (λ q there.
      let s = site P k p q Before (Calls ResumeAll) spot there in
      depths-row s (Calls ResumeAll) k.mover.critical (k.mover.suspended - 1) (λ S. suspend_at p.actor.0 (suspension_of S p.actor.0 - 1) S) none refl (λ S b. b)
      (λ S c mid known r. (r.1, subst (λ d. IsPlainAfter s k.mover.critical (d - 1) S (suspend_at p.actor.0 (suspension_of S p.actor.0 - 1) S)) known.mover.holds.suspended (suspended-row s S (suspension_of S p.actor.0 - 1) known)))
      (λ f chosen. (refl, refl)))

-- From one row's facts to the exactness of its change, for the mover alone and beside another actor at once.
--
-- A row says what holds after each of its steps, and from which choices there is one. It gives a choice for each end of a
-- variable that it writes. The choices for all other variables and objects are made here, since they don't matter to it.
use Rattle.std.proofs.Common.{◌≡◌, ◌≢◌, ℕ, ◌<◌, length, Option, Some, None, Bool, true, false, refl, sym, ap, ◌∙◌, subst, eq-eqb, arith}
use Rattle.std.specs.Prelude.{ℤ, IfSome, nat_eq, if◌then◌else◌}
use Rattle.fr_notes.proofs.Terms.{eqb-true, same_Some, ints, ObjId, VarId, Point, Side, Instr, Range, Program, instr_of, instr_at, Way, State, At, Content, Dead, CanHave, content_of, value_of}
use Rattle.fr_notes.proofs.Terms.{depth_of, suspension_of, goes_to, kind_of, new_content, Row, IsFree, StepBy, landing, transition, is-built, new-fits, Change, Alternative, Claim, NotHeld, Alive}
use Rattle.fr_notes.proofs.Terms.{Gone, HeldTimes, Meets, Within, claim_of, range_after, new_range, ClaimImplies, ends_of, Known, KnownFits, IsOther, HasKnown, NeverSteps, IsLeft, joint_range}
use Rattle.fr_notes.proofs.Terms.{joint_claim, claim_after, other_after, taught, IsSpot, Holding, Unheld, Living, Lifeless, Own, Others, holding, holding_of, others_claim, mover_claim, other_claim}
use Rattle.fr_notes.specs.Known.{joined}
use Rattle.fr_notes.proofs.Shown.{instead-same}
use Rattle.fr_notes.proofs.Holdings.{IsIn, claim-met, other-met, claim-shown, other-shown, implied-either, mover-joined, other-joined, new-unheld}
use Rattle.fr_notes.proofs.Seen.{Site, mover, other, other_in, second, second_in, IsKnown, Choice, drawn, IsChosen, drawn-known, drawn-value, drawn-content, usual-chosen, valued, valued-chosen, filled, filled-chosen, apart, claims-meet, contents-in, values-within, other-depth, other-suspension}
use Rattle.fr_notes.proofs.Left.{end_of, Step, IsExactFor, IsExact, left-from}

-- a change says nothing of this variable, of this object
abbrev pub MissesVariable : Option (VarId × Range) → ℕ → Type 0
MissesVariable None x = Unit {0}
MissesVariable (Some w) x = x ≢ w.0.0

abbrev pub MissesObject : Option (ObjId × Claim) → ℕ → Type 0
MissesObject None o = Unit {0}
MissesObject (Some w) o = o ≢ w.0.0

abbrev pub IsUnwritten : Change → ℕ → Type 0
IsUnwritten change x = MissesVariable change.first x × MissesVariable change.second x

-- by whether two numbers are the same
test-case : {A : Type 0} (k j : ℕ) (x y : A) (Q : A → Type 0) → (k ≡ j → Q x) → (j ≢ k → Q y) → Q (if nat_eq k j then x else y)
test-case {A} k j x y Q here there = go (nat_eq k j) (λ e. eqb-true k j e) (λ e f. let t = eq-eqb k j (sym f) in cc)
  where
    go : (t : Bool) → (t ≡ true → k ≡ j) → (t ≡ false → j ≢ k) → Q (if t then x else y)
    go true same other = here (same refl)
    go false same other = there (other refl)

-- by whether the change says something of the object
claim-case : (C : Option (ObjId × Claim)) (o : ℕ) (before : Claim) (Q : Claim → Type 0) → (MissesObject C o → Q before) → ((w : ObjId × Claim) → C ≡ Some w → w.0.0 ≡ o → Q w.1) → Q (claim_after C o before)
claim-case None o before Q miss hit = miss tt
claim-case (Some w) o before Q miss hit = test-case w.0.0 o w.1 before Q (λ e. hit w refl e) (λ apart. miss apart)

other-case : (C : Option (ObjId × Claim)) (o : ℕ) (before : Claim) (Q : Claim → Type 0) → (MissesObject C o → Q before) → ((w : ObjId × Claim) → C ≡ Some w → w.0.0 ≡ o → Q (taught w.1 before)) → Q (other_after C o before)
other-case None o before Q miss hit = miss tt
other-case (Some w) o before Q miss hit =
    test-case w.0.0 o (taught w.1 before) before Q (λ e. hit w refl e) (λ apart. miss apart)

-- by whether it says something of the variable; what it says first is what counts
range-case : (F G : Option (VarId × Range)) (x : ℕ) (before : ℤ × ℤ) (Q : ℤ × ℤ → Type 0) → (MissesVariable F x → MissesVariable G x → Q before) → ((w : VarId × Range) → F ≡ Some w → w.0.0 ≡ x → Q (ends_of w.1)) → ((w : VarId × Range) → G ≡ Some w → w.0.0 ≡ x → Q (ends_of w.1)) → Q (range_after F x (range_after G x before))
range-case None None x before Q miss first second = miss tt tt
range-case None (Some w) x before Q miss first second =
    test-case w.0.0 x (ends_of w.1) before Q (λ e. second w refl e) (λ apart. miss tt apart)
range-case (Some w) None x before Q miss first second =
    test-case w.0.0 x (ends_of w.1) before Q (λ e. first w refl e) (λ apart. miss apart tt)
range-case (Some w) (Some u) x before Q miss first second =
    test-case w.0.0 x (ends_of w.1) (range_after (Some u) x before) Q (λ e. first w refl e) (λ apart_w.
    test-case u.0.0 x (ends_of u.1) before Q (λ e. second u refl e) (λ apart_u. miss apart_w apart_u))

at-some : {A : Type 0} (F : A → Type 0) (o : Option A) (w : A) → o ≡ Some w → IfSome o F → F w
at-some F o w e h = subst (λ k. IfSome k F) e h

-- what holds after a row: of the object that the change speaks of, this is known
pub record IsAfter (s : Site) (change : Change) (new : Holding) (S mid : State) : Type 0 where
  pub objects : length mid.objects ≡ length S.objects
  pub values : length mid.values ≡ length S.values
  pub untouched : (o : ℕ) → MissesObject change.claim o → content_of mid o ≡ content_of S o
  pub touched : IfSome change.claim (λ w. IsIn (mover s) (other s) new (content_of mid w.0.0))
  pub unwritten : (x : ℕ) → IsUnwritten change x → value_of mid x ≡ value_of S x
  pub first : IfSome change.first (λ w. Within (ends_of w.1) (value_of mid w.0.0))
  pub second : IfSome change.second (λ w. Within (ends_of w.1) (value_of mid w.0.0))
  pub critical : depth_of mid (mover s) ≡ change.crit
  pub suspended : suspension_of mid (mover s) ≡ change.susp
  pub others_critical : depth_of mid (other s) ≡ depth_of S (other s)
  pub others_suspended : suspension_of mid (other s) ≡ suspension_of S (other s)

module _ (s : Site) (side : Side) (i : Instr) (way : Way) where
  -- a row from a state to show, and a fact of what it leads to
  pub record Attains (Q : State → Type 0) : Type 0 where
    pub from : Choice
    pub chosen : IsChosen s from
    pub choice : ℤ
    pub mid : State
    pub row : Row s.app (transition (drawn s from) (mover s) choice mid) side i way
    pub free : IsFree s.app (drawn s from) (mover s) side i
    pub fact : Q mid

  -- what a row has to give
  pub record IsRow (change : Change) (new : Holding) (CanGo : Choice → Type 0) : Type 0 where
    pub after : (S : State) (c : ℤ) (mid : State) → IsKnown s S → IsFree s.app S (mover s) side i → Row s.app (transition S (mover s) c mid) side i way → IsAfter s change new S mid
    -- from which choices there is a step, of which there is one; what the row doesn't change doesn't matter to that
    pub goes : (f : Choice) → IsChosen s f → CanGo f → (c : ℤ) × (mid : State) × Row s.app (transition (drawn s f) (mover s) c mid) side i way × IsFree s.app (drawn s f) (mover s) side i
    pub base : Choice
    pub chosen : IsChosen s base
    pub can : CanGo base
    pub values_free : (f : Choice) (x : ℕ) (v : ℤ) → IsUnwritten change x → CanGo f → CanGo (valued x v f)
    pub contents_free : (f : Choice) (o : ℕ) (c : Content) → MissesObject change.claim o → CanGo f → CanGo (filled o c f)
    -- each end of a written variable's range
    pub first : IfSome change.first (λ w. (d : Bool) → Attains (λ mid. value_of mid w.0.0 ≡ end_of d (ends_of w.1)))
    pub second : IfSome change.second (λ w. (d : Bool) → Attains (λ mid. value_of mid w.0.0 ≡ end_of d (ends_of w.1)))
    -- what is known of the object after the row is what both actors can claim then
    pub claim : IfSome change.claim (λ w. (w.1 ≡ mover_claim new) × (taught w.1 (other_claim (holding s.known w.0.0)) ≡ other_claim new) × (new ≢ Unheld))

-- a step from a state in which the mover stands at the site's point is by a row of the instruction there
pub record StepHere (s : Site) (side : Side) (i : Instr) (way : Way) (S : State) (c : ℤ) (T : State) : Type 0 where
  pub mid : State
  pub row : Row s.app (transition S (mover s) c mid) side i way
  pub free : IsFree s.app S (mover s) side i
  pub moved : T ≡ goes_to (mover s) (landing s.p.pc side i way) mid

module _ (s : Site) (side : Side) (i : Instr) (way : Way) (stands : s.p.side ≡ side) (is : instr_of s.app s.p ≡ Some i) where
  pub step-here : (S : State) (c : ℤ) (T : State) → IsKnown s S → StepBy s.app way S (mover s) c T → StepHere s side i way S c T
  step-here S c T known t =
      let e : At t.pc t.side ≡ At s.p.pc s.p.side = sym t.at ∙ known.mover.at in
      let pc : t.pc ≡ s.p.pc = cc in
      let at : t.side ≡ s.p.side = cc in
      let same = at ∙ stands in
      let one : t.instr ≡ i = same_Some _ _ (sym t.is ∙ ap (λ k. instr_at s.app (mover s) k) pc ∙ is) in
      record {
        mid = t.mid;
        row = subst (λ d. Row s.app (transition S (mover s) c t.mid) d i way) same (subst (λ j. Row s.app (transition S (mover s) c t.mid) t.side j way) one t.row);
        free = subst (λ d. IsFree s.app S (mover s) d i) same (subst (λ j. IsFree s.app S (mover s) t.side j) one t.free);
        moved = t.moved ∙ ap (λ k. goes_to (mover s) (landing k t.side t.instr way) t.mid) pc ∙ ap (λ d. goes_to (mover s) (landing s.p.pc d t.instr way) t.mid) same ∙ ap (λ j. goes_to (mover s) (landing s.p.pc side j way) t.mid) one;
      }

  abbrev pub lands : State → State
  lands mid = goes_to (mover s) (landing s.p.pc side i way) mid

  pub step-from : (Q : State → Type 0) → Attains s side i way (λ mid. Q (lands mid)) → Step s.app s.known s.p s.q way Q
  step-from Q r =
      let known = drawn-known s r.from r.chosen in
      record {
        from = drawn s r.from;
        choice = r.choice;
        to = lands r.mid;
        known = known;
        step = record { pc = s.p.pc; side = side; instr = i; at = known.mover.at ∙ ap (λ d. At s.p.pc d) stands; is = is; free = r.free; mid = r.mid; row = r.row; moved = refl };
        fact = r.fact;
      }

  module _ (change : Change) (new : Holding) (CanGo : Choice → Type 0) (r : IsRow s side i way change new CanGo) where
    -- from a choice, with what holds after the row
    attained : (f : Choice) → IsChosen s f → CanGo f → (Q : State → Type 0) → ((mid : State) → IsAfter s change new (drawn s f) mid → Q mid) → Attains s side i way Q
    attained f chosen can Q fact =
        let t = r.goes f chosen can in
        record { from = f; chosen = chosen; choice = t.0; mid = t.1; row = t.2; free = t.3; fact = fact t.1 (r.after (drawn s f) t.0 t.1 (drawn-known s f chosen) t.3 t.2) }

    abbrev range : ℕ → ℤ × ℤ
    range x = new_range change x (joint_range s.known x)

    -- after a whole step
    left : (S : State) (c : ℤ) (T : State) → IsKnown s S → StepBy s.app way S (mover s) c T → IsAfter s change new S T
    left S c T known step =
        let h = step-here S c T known step in
        let k = r.after S c h.mid known h.free h.row in
        subst (λ U. IsAfter s change new S U) (sym h.moved) (record { objects = k.objects; values = k.values; untouched = k.untouched; touched = k.touched; unwritten = k.unwritten; first = k.first; second = k.second; critical = k.critical; suspended = k.suspended; others_critical = k.others_critical; others_suspended = k.others_suspended })

    variables-after : (S : State) (c : ℤ) (T : State) → IsKnown s S → StepBy s.app way S (mover s) c T → (x : ℕ) → Within (range x) (value_of T x)
    variables-after S c T known step x =
        let k = left S c T known step in
        range-case change.first change.second x (joint_range s.known x) (λ t. Within t (value_of T x))
        (λ miss_first miss_second. subst (λ v. Within (joint_range s.known x) v) (sym (k.unwritten x (miss_first, miss_second))) (values-within s S known x))
        (λ w e same. subst (λ j. Within (ends_of w.1) (value_of T j)) same (at-some (λ w. Within (ends_of w.1) (value_of T w.0.0)) change.first w e k.first))
        (λ w e same. subst (λ j. Within (ends_of w.1) (value_of T j)) same (at-some (λ w. Within (ends_of w.1) (value_of T w.0.0)) change.second w e k.second))

    lengths-after : (S : State) (c : ℤ) (T : State) → IsKnown s S → StepBy s.app way S (mover s) c T → (length T.objects ≡ length s.app.objects) × (length T.values ≡ length s.app.variables)
    lengths-after S c T known step =
        let k = left S c T known step in (k.objects ∙ known.mover.formed.objects, k.values ∙ known.mover.formed.variables)

    some-step : Step s.app s.known s.p s.q way (λ T. Unit {0})
    some-step = step-from (λ T. Unit {0}) (attained r.base r.chosen r.can (λ T. Unit {0}) (λ mid k. tt))

    ends-within : (d : Bool) (x : ℕ) → Within (joint_range s.known x) (end_of d (joint_range s.known x))
    ends-within false x = (usual-chosen s).within x
    ends-within true x = let w = (usual-chosen s).within x in (w.1, omega (arith, ints))

    end-steps : (d : Bool) (x : ℕ) → x < length s.app.variables → Step s.app s.known s.p s.q way (λ T. value_of T x ≡ end_of d (range x))
    end-steps d x l = range-case change.first change.second x (joint_range s.known x) (λ t. Step s.app s.known s.p s.q way (λ T. value_of T x ≡ end_of d t))
        (λ miss_first miss_second.
        let v = end_of d (joint_range s.known x) in
        let f = valued x v r.base in
        step-from (λ T. value_of T x ≡ v) (attained f (valued-chosen s r.base r.chosen x v (ends-within d x)) (r.values_free r.base x v (miss_first, miss_second) r.can) (λ T. value_of T x ≡ v) (λ mid k.
        k.unwritten x (miss_first, miss_second) ∙ drawn-value s f x l ∙ instead-same x v r.base.value)))
        (λ w e same. step-from (λ T. value_of T x ≡ end_of d (ends_of w.1)) (subst (λ j. Attains s side i way (λ mid. value_of mid j ≡ end_of d (ends_of w.1))) same (at-some (λ w. (d : Bool) → Attains s side i way (λ mid. value_of mid w.0.0 ≡ end_of d (ends_of w.1))) change.first w e r.first d)))
        (λ w e same. step-from (λ T. value_of T x ≡ end_of d (ends_of w.1)) (subst (λ j. Attains s side i way (λ mid. value_of mid j ≡ end_of d (ends_of w.1))) same (at-some (λ w. (d : Bool) → Attains s side i way (λ mid. value_of mid w.0.0 ≡ end_of d (ends_of w.1))) change.second w e r.second d)))

    -- a content of an object that the change doesn't speak of
    content-step : (o : ℕ) → MissesObject change.claim o → o < length s.app.objects → (c : Content) → CanHave s.app (kind_of s.app o) c → IsIn (mover s) (other s) (holding s.known o) c → Step s.app s.known s.p s.q way (λ T. content_of T o ≡ c)
    content-step o miss l c can inside =
        let f = filled o c r.base in
        step-from (λ T. content_of T o ≡ c) (attained f (filled-chosen s r.base r.chosen o c can inside) (r.contents_free r.base o c miss r.can) (λ T. content_of T o ≡ c) (λ mid k.
        k.untouched o miss ∙ drawn-content s f o l ∙ instead-same o c r.base.content))

    -- What is exact for one of the two actors: `says` is what it can claim of what is known, and `claim` what it can
    -- claim after the row.
    module _ (actor : ℕ) (says : Holding → Claim) (unheld : says Unheld ≡ NotHeld) (met : (content : Content) (known : Holding) → IsIn (mover s) (other s) known content → Meets actor (says known) content) (shows : (content : Content) (d : Claim) (known : Holding) → known ≢ Unheld → IsIn (mover s) (other s) known content → Meets actor d content → ClaimImplies (says known) d) (claim : ℕ → Claim) (by-claim : (o : ℕ) (Q : Claim → Type 0) → (MissesObject change.claim o → Q (says (holding s.known o))) → ((w : ObjId × Claim) → change.claim ≡ Some w → w.0.0 ≡ o → Q (says new)) → Q (claim o)) where
      objects-after : (S : State) (c : ℤ) (T : State) → IsKnown s S → StepBy s.app way S (mover s) c T → (o : ℕ) → Meets actor (claim o) (content_of T o)
      objects-after S c T known step o =
          let k = left S c T known step in
          by-claim o (λ d. Meets actor d (content_of T o))
          (λ miss. met (content_of T o) (holding s.known o) (subst (λ x. IsIn (mover s) (other s) (holding s.known o) x) (sym (k.untouched o miss)) (contents-in s S known o)))
          (λ w e same. met (content_of T o) new (subst (λ j. IsIn (mover s) (other s) new (content_of T j)) same (at-some (λ w. IsIn (mover s) (other s) new (content_of T w.0.0)) change.claim w e k.touched)))

      module _ (o : ℕ) (l : o < length s.app.objects) (d : Claim) (always : (S : State) (c : ℤ) (T : State) → HasKnown s.app s.known s.p s.q S → StepBy s.app way S s.p.actor.0 c T → Meets actor d (content_of T o)) where
        settled : (known : Holding) → holding s.known o ≡ known → known ≢ Unheld → MissesObject change.claim o → ClaimImplies (says known) d
        settled known e some miss =
            let k = left some-step.from some-step.choice some-step.to some-step.known some-step.step in
            let here = contents-in s some-step.from some-step.known o in
            shows (content_of some-step.to o) d known some (subst (λ h. IsIn (mover s) (other s) h (content_of some-step.to o)) e (subst (λ x. IsIn (mover s) (other s) (holding s.known o) x) (sym (k.untouched o miss)) here)) (always some-step.from some-step.choice some-step.to some-step.known some-step.step)

        untouched-shown : (known : Holding) → holding s.known o ≡ known → MissesObject change.claim o → ClaimImplies (says known) d
        untouched-shown Unheld e miss =
            let inside = λ (c : Content) (i : IsIn (mover s) (other s) Unheld c). subst (λ h. IsIn (mover s) (other s) h c) (sym e) i in
            let fresh = new_content (kind_of s.app o) in
            let one = content-step o miss l Dead tt (inside Dead (λ k f. cc, λ k f. cc)) in
            let two = content-step o miss l fresh (new-fits s.app (kind_of s.app o) ((is-built s.app s.faultless).sizes o)) (inside fresh (λ k f. new-unheld (mover s) k (kind_of s.app o) f, λ k f. new-unheld (other s) k (kind_of s.app o) f)) in
            subst (λ k. ClaimImplies k d) (sym unheld) (implied-either actor (kind_of s.app o) d (subst (λ k. Meets actor d k) one.fact (always one.from one.choice one.to one.known one.step)) (subst (λ k. Meets actor d k) two.fact (always two.from two.choice two.to two.known two.step)))
        untouched-shown Living e miss = settled Living e (λ f. cc) miss
        untouched-shown Lifeless e miss = settled Lifeless e (λ f. cc) miss
        untouched-shown (Own k) e miss = settled (Own k) e (λ f. cc) miss
        untouched-shown (Others k) e miss = settled (Others k) e (λ f. cc) miss

        claims-after : ClaimImplies (claim o) d
        claims-after = by-claim o (λ k. ClaimImplies k d) (λ miss. untouched-shown (holding s.known o) refl miss)
            (λ w e same.
            let k = left some-step.from some-step.choice some-step.to some-step.known some-step.step in
            let known = at-some (λ w. (w.1 ≡ mover_claim new) × (taught w.1 (other_claim (holding s.known w.0.0)) ≡ other_claim new) × (new ≢ Unheld)) change.claim w e r.claim in
            shows (content_of some-step.to o) d new known.2 (subst (λ j. IsIn (mover s) (other s) new (content_of some-step.to j)) same (at-some (λ w. IsIn (mover s) (other s) new (content_of some-step.to w.0.0)) change.claim w e k.touched)) (always some-step.from some-step.choice some-step.to some-step.known some-step.step))

      exact-for : (crit susp : ℕ) → ((S : State) (c : ℤ) (T : State) → IsKnown s S → StepBy s.app way S (mover s) c T → depth_of T actor ≡ crit) → ((S : State) (c : ℤ) (T : State) → IsKnown s S → StepBy s.app way S (mover s) c T → suspension_of T actor ≡ susp) → IsExactFor s.app s.known s.p s.q way actor crit susp claim range
      exact-for crit susp critical suspended = record {
        critical = critical;
        suspended = suspended;
        objects = objects-after;
        variables = variables-after;
        lengths = lengths-after;
        some = some-step;
        ends = end-steps;
        claims = claims-after;
      }

    -- what the mover can claim after the row
    mover-says : (o : Option Alternative) (j : ℕ) → KnownFits s.app (record { mover = s.known.mover; other = o }) → mover_claim (holding_of (claim_of s.known.mover j) (others_claim (record { mover = s.known.mover; other = o }) j)) ≡ joint_claim (record { mover = s.known.mover; other = o }) j
    mover-says None j fits = alone-says (claim_of s.known.mover j)
      where
        alone-says : (c : Claim) → mover_claim (holding_of c NotHeld) ≡ c
        alone-says NotHeld = refl
        alone-says Alive = refl
        alone-says Gone = refl
        alone-says (HeldTimes n) = refl
    mover-says (Some m) j fits = mover-joined (claim_of s.known.mover j) (claim_of m j) (fits.other.1.claims j)

    mover-claims : (o : ℕ) (Q : Claim → Type 0) → (MissesObject change.claim o → Q (mover_claim (holding s.known o))) → ((w : ObjId × Claim) → change.claim ≡ Some w → w.0.0 ≡ o → Q (mover_claim new)) → Q (claim_after change.claim o (joint_claim s.known o))
    mover-claims o Q miss hit = claim-case change.claim o (joint_claim s.known o) Q (λ m. subst Q (mover-says s.known.other o s.fits) (miss m)) (λ w e same.
        subst Q (sym (at-some (λ w. (w.1 ≡ mover_claim new) × (taught w.1 (other_claim (holding s.known w.0.0)) ≡ other_claim new) × (new ≢ Unheld)) change.claim w e r.claim).0) (hit w e same))

    mover-exact : IsExactFor s.app s.known s.p s.q way (mover s) change.crit change.susp (λ o. claim_after change.claim o (joint_claim s.known o)) range
    mover-exact =
        exact-for (mover s) mover_claim refl (claim-met (mover s) (other s) (apart s)) (λ content d known some i m. claim-shown (mover s) (other s) (apart s) content d known some i m) (λ o. claim_after change.claim o (joint_claim s.known o)) mover-claims change.crit change.susp (λ S c T known step. (left S c T known step).critical) (λ S c T known step. (left S c T known step).suspended)

    -- what the other actor can claim after the row, where one is looked at
    module _ (m : Alternative) (e : s.known.other ≡ Some m) where
      same-actor : other s ≡ s.q.actor.0
      same-actor = ap (λ (o : Option Alternative). other_in s.app o s.q) e

      same-second : second s ≡ m
      same-second = ap (λ (o : Option Alternative). second_in s.known.mover o) e

      other-says : (j : ℕ) → other_claim (holding s.known j) ≡ joined (claim_of m j) (claim_of s.known.mover j)
      other-says j = other-joined (claim_of s.known.mover j) (others_claim s.known j) (claims-meet s j) ∙ ap (λ (o : Option Alternative). joined (others_claim (record { mover = s.known.mover; other = o }) j) (claim_of s.known.mover j)) e

      other-claims : (o : ℕ) (Q : Claim → Type 0) → (MissesObject change.claim o → Q (other_claim (holding s.known o))) → ((w : ObjId × Claim) → change.claim ≡ Some w → w.0.0 ≡ o → Q (other_claim new)) → Q (other_after change.claim o (joined (claim_of m o) (claim_of s.known.mover o)))
      other-claims o Q miss hit = other-case change.claim o (joined (claim_of m o) (claim_of s.known.mover o)) Q (λ k. subst Q (other-says o) (miss k)) (λ w e same.
          let known = at-some (λ w. (w.1 ≡ mover_claim new) × (taught w.1 (other_claim (holding s.known w.0.0)) ≡ other_claim new) × (new ≢ Unheld)) change.claim w e r.claim in
          subst Q (sym known.1 ∙ ap (λ k. taught w.1 (other_claim (holding s.known k))) same ∙ ap (λ d. taught w.1 d) (other-says o)) (hit w e same))

      other-exact : IsExactFor s.app s.known s.p s.q way s.q.actor.0 m.critical m.suspended (λ o. other_after change.claim o (joined (claim_of m o) (claim_of s.known.mover o))) range
      other-exact =
          subst (λ b. IsExactFor s.app s.known s.p s.q way b m.critical m.suspended (λ o. other_after change.claim o (joined (claim_of m o) (claim_of s.known.mover o))) range) same-actor
          (exact-for (other s) other_claim refl (other-met (mover s) (other s) (apart s)) (λ content d known some i k. other-shown (mover s) (other s) (apart s) content d known some i k) (λ o. other_after change.claim o (joined (claim_of m o) (claim_of s.known.mover o))) other-claims m.critical m.suspended (λ S c T known step. (left S c T known step).others_critical ∙ other-depth s S known ∙ ap (λ k. k.critical) same-second) (λ S c T known step. (left S c T known step).others_suspended ∙ other-suspension s S known ∙ ap (λ k. k.suspended) same-second))

    others-exact : (o : Option Alternative) → s.known.other ≡ o → IfSome o (λ m. IsExactFor s.app s.known s.p s.q way s.q.actor.0 m.critical m.suspended (λ o. other_after change.claim o (joined (claim_of m o) (claim_of s.known.mover o))) range)
    others-exact None e = tt
    others-exact (Some m) e = other-exact m e

    pub row-exact : IsExact s.app s.known s.p s.q way change
    row-exact = record { mover = mover-exact; other = others-exact s.known.other refl }

-- the site of a spot, with the other actor at this point
abbrev pub site : (P : Program) (k : Known) (p q : Point) (side : Side) (i : Instr) → IsSpot P k p side i → IsOther P k p q → Site
site P k p q side i spot there =
    record { app = P; known = k; p = p; q = q; faultless = spot.faultless; point = spot.point; fits = spot.fits; there = there }

-- a row at each site is what is left
pub row-left : (P : Program) (k : Known) (p : Point) (side : Side) (i : Instr) (way : Way) (spot : IsSpot P k p side i) (change : Change) (new : Holding) (CanGo : Site → Choice → Type 0) → ((q : Point) (there : IsOther P k p q) → IsRow (site P k p q side i spot there) side i way change new (CanGo (site P k p q side i spot there))) → IsLeft P k p way change
row-left P k p side i way spot change new CanGo row = left-from P k p way change (λ q there.
    let s = site P k p q side i spot there in row-exact s side i way spot.stands spot.instr change new (CanGo s) (row q there))

-- no row at any site: no step
pub row-never : (P : Program) (k : Known) (p : Point) (side : Side) (i : Instr) (way : Way) (spot : IsSpot P k p side i) → ((q : Point) (there : IsOther P k p q) (S : State) (c : ℤ) (mid : State) → IsKnown (site P k p q side i spot there) S → IsFree P S p.actor.0 side i → Row P (transition S p.actor.0 c mid) side i way → ⊥) → NeverSteps P k p way
row-never P k p side i way spot none q there (S, c, T, known, step, _) =
    let h = step-here (site P k p q side i spot there) side i way spot.stands spot.instr S c T known step in
    none q there S c h.mid known h.free h.row

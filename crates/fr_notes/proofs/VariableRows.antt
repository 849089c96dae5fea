-- The rows that read or write variables and touch no object: `set`, `pick` and `if`. A state to show for an end of a
-- range is the usual one with numbers for the operands that lead there.
use Rattle.std.proofs.Common.{◌≡◌, ◌≢◌, ℕ, ◌<◌, length, Some, Bool, true, false, refl, sym, ap, ◌∙◌, subst, arith, get_or-set_other, length-set}
use Rattle.std.specs.Prelude.{ℤ, pos, ◌≤ℤ◌, IfSome}
use Rattle.fr_notes.proofs.Terms.{ints, get_or-set_same, VarId, Point, Before, Set, If, Pick, Operand, Number, Variable, Operator, Range, Program, AreApart, Way, Then, Else, State, Content, value_of}
use Rattle.fr_notes.proofs.Terms.{write, operand_of, result_of, Row, IsFree, transition, Change, Within, ends_of, Turns, narrowed_to, Known, IsLeft, NeverSteps, joint_range, Unheld, IsSpot}
use Rattle.fr_notes.proofs.Terms.{IsUnforbidden, unchanged, CanBeIn, IsNamed, IsSpanIn, IsBranchIn, NoBranchIn, no-use}
use Rattle.fr_program.specs.declared.instr.Comparison.{Comparison}
use Rattle.fr_notes.proofs.Shown.{instead, instead-same, instead-other}
use Rattle.fr_notes.proofs.Seen.{Site, mover, IsKnown, Choice, drawn, IsChosen, drawn-known, drawn-value, usual, usual-chosen, valued, valued-chosen, filled, values-within}
use Rattle.fr_notes.proofs.Left.{end_of}
use Rattle.fr_notes.proofs.Rows.{IsAfter, Attains, IsRow, MissesVariable, row-left, row-never, site}
use Rattle.fr_notes.proofs.PlainRows.{free-before}

-- an end of a span, and the numbers that lead there
span-end : (range : ℕ → ℤ × ℤ) (op : Operator) (l r : Operand) (span : Range) → IsSpanIn range op l r span → (d : Bool) → (u : ℤ) × (v : ℤ) × CanBeIn range l u × CanBeIn range r v × (result_of op u v ≡ end_of d (ends_of span))
span-end range op l r span is false = is.lo
span-end range op l r span is true = is.hi

one-end : (R : ℤ → ℤ → Type 0) (range : ℕ → ℤ × ℤ) (l r : Operand) (one two : Range) → IsBranchIn R range l r one two → (d : Bool) → (v : ℤ) × CanBeIn range l (end_of d (ends_of one)) × CanBeIn range r v × R (end_of d (ends_of one)) v
one-end R range l r one two is false = is.one_lo
one-end R range l r one two is true = is.one_hi

two-end : (R : ℤ → ℤ → Type 0) (range : ℕ → ℤ × ℤ) (l r : Operand) (one two : Range) → IsBranchIn R range l r one two → (d : Bool) → (u : ℤ) × CanBeIn range l u × CanBeIn range r (end_of d (ends_of two)) × R u (end_of d (ends_of two))
two-end R range l r one two is false = is.other_lo
two-end R range l r one two is true = is.other_hi

-- a choice with this number for an operand, and an operand's number in a choice
abbrev pub chosen_for : Operand → ℤ → Choice → Choice
chosen_for (Number z) v f = f
chosen_for (Variable x) v f = valued x.0 v f

abbrev pub number_in : Choice → Operand → ℤ
number_in f (Number z) = z
number_in f (Variable x) = f.value x.0

-- an `if` goes this way from the choice
abbrev GoesAt : Way → Operand → Comparison → Operand → Choice → Type 0
GoesAt way l comparison r f = Turns way comparison (number_in f l) (number_in f r)

module _ (s : Site) where
  -- the numbers that a variable can have
  abbrev range : ℕ → ℤ × ℤ
  range x = joint_range s.known x

  pub can-be-known : (o : Operand) (S : State) → IsKnown s S → CanBeIn range o (operand_of S o)
  can-be-known (Number z) S known = (omega (arith, ints), omega (arith, ints))
  can-be-known (Variable x) S known = values-within s S known x.0

  pub for-chosen : (o : Operand) (v : ℤ) (f : Choice) → CanBeIn range o v → IsChosen s f → IsChosen s (chosen_for o v f)
  for-chosen (Number z) v f can chosen = chosen
  for-chosen (Variable x) v f can chosen = valued-chosen s f chosen x.0 v can

  pub number-drawn : (o : Operand) (f : Choice) → IsNamed s.app o → operand_of (drawn s f) o ≡ number_in f o
  number-drawn (Number z) f named = refl
  number-drawn (Variable x) f named = drawn-value s f x.0 named

  -- the operands have the numbers that were chosen for them, since no variable is both
  pub first-number : (l : Operand) (u : ℤ) (f : Choice) → CanBeIn range l u → number_in (chosen_for l u f) l ≡ u
  first-number (Number z) u f can = omega (arith, ints)
  first-number (Variable x) u f can = instead-same x.0 u f.value

  apart-numbers : (x y : VarId) → x ≢ y → y.0 ≢ x.0
  apart-numbers x y ne e = ne (let of : ℕ → VarId = λ k. record { 0 = k } in ap of (sym e))

  pub second-number : (l r : Operand) (u v : ℤ) (f : Choice) → AreApart l r → CanBeIn range r v → number_in (chosen_for l u (chosen_for r v f)) r ≡ v
  second-number l (Number z) u v f apart can = omega (arith, ints)
  second-number (Number w) (Variable y) u v f apart can = instead-same y.0 v f.value
  second-number (Variable x) (Variable y) u v f apart can =
      instead-other x.0 u (instead y.0 v f.value) y.0 (apart-numbers x y apart) ∙ instead-same y.0 v f.value

  -- a number of a variable that is no operand doesn't matter
  unread : (o : Operand) (w : Range) (f : Choice) (x : ℕ) (v : ℤ) → MissesVariable (narrowed_to o w) x → number_in (valued x v f) o ≡ number_in f o
  unread (Number z) w f x v miss = refl
  unread (Variable y) w f x v miss = instead-other x v f.value y.0 (λ e. miss (sym e))

  -- what holds after a number of this range was written
  written : (x : VarId) (w : Range) (v : ℤ) (S : State) → x.0 < length s.app.variables → IsKnown s S → Within (ends_of w) v → IsAfter s (record (unchanged s.known) { first = Some (x, w) }) Unheld S (write x.0 v S)
  written x w v S there known within = record {
    objects = refl;
    values = length-set S.values x.0 v;
    untouched = λ o miss. refl;
    touched = tt;
    unwritten = λ y miss. get_or-set_other S.values x.0 y v (pos 0) miss.0;
    first = subst (λ n. Within (ends_of w) n) (sym (get_or-set_same S.values x.0 v (pos 0) (let long = known.mover.formed.variables in omega (arith, long, there)))) within;
    second = tt;
    critical = known.mover.holds.critical;
    suspended = known.mover.holds.suspended;
    others_critical = refl;
    others_suspended = refl;
  }

  wrote : (x : VarId) (v : ℤ) (f : Choice) → x.0 < length s.app.variables → IsChosen s f → value_of (write x.0 v (drawn s f)) x.0 ≡ v
  wrote x v f there chosen =
      let long = (drawn-known s f chosen).mover.formed.variables in
      get_or-set_same (drawn s f).values x.0 v (pos 0) (omega (arith, long, there))

  module _ (x : VarId) (l : Operand) (op : Operator) (r : Operand) (span : Range) (none : IsUnforbidden s.app s.known s.p (Set x l op r)) (there : x.0 < length s.app.variables) (left : IsNamed s.app l) (right : IsNamed s.app r) (apart : AreApart l r) (is : IsSpanIn range op l r span) where
    abbrev computed : State → ℤ
    computed S = result_of op (operand_of S l) (operand_of S r)

    set-end : (d : Bool) → Attains s Before (Set x l op r) Then (λ mid. value_of mid x.0 ≡ end_of d (ends_of span))
    set-end d =
        let e = span-end range op l r span is d in
        let f = chosen_for l e.0 (chosen_for r e.1 (usual s)) in
        let chosen = for-chosen l e.0 (chosen_for r e.1 (usual s)) e.2 (for-chosen r e.1 (usual s) e.3 (usual-chosen s)) in
        let one = number-drawn l f left ∙ first-number l e.0 (chosen_for r e.1 (usual s)) e.2 in
        let two = number-drawn r f right ∙ second-number l r e.0 e.1 (usual s) apart e.3 in
        record {
          from = f;
          chosen = chosen;
          choice = pos 0;
          mid = write x.0 (computed (drawn s f)) (drawn s f);
          row = (refl, refl);
          free = free-before s (Set x l op r) none (drawn s f) (drawn-known s f chosen) (λ b. b) (no-use s.app (drawn s f) (mover s) (Set x l op r) Before refl);
          fact = wrote x (computed (drawn s f)) f there chosen ∙ ap (λ z. result_of op z (operand_of (drawn s f) r)) one ∙ ap (λ z. result_of op e.0 z) two ∙ e.4;
        }

    pub set-row : IsRow s Before (Set x l op r) Then (record (unchanged s.known) { first = Some (x, span) }) Unheld (λ f. Unit {0})
    set-row = record {
      after = λ S c mid known free row.
          subst (λ U. IsAfter s (record (unchanged s.known) { first = Some (x, span) }) Unheld S U) (sym row.1) (written x span (computed S) S there known (is.inside (operand_of S l) (operand_of S r) (can-be-known l S known) (can-be-known r S known)));
      goes = λ f chosen can.
          (pos 0, write x.0 (computed (drawn s f)) (drawn s f), (refl, refl), free-before s (Set x l op r) none (drawn s f) (drawn-known s f chosen) (λ b. b) (no-use s.app (drawn s f) (mover s) (Set x l op r) Before refl));
      base = usual s;
      chosen = usual-chosen s;
      can = tt;
      values_free = λ f y v miss can. tt;
      contents_free = λ f o c miss can. tt;
      first = set-end;
      second = tt;
      claim = tt;
    }

  module _ (x : VarId) (lo hi : ℤ) (span : Range) (none : IsUnforbidden s.app s.known s.p (Pick x lo hi)) (there : x.0 < length s.app.variables) (from : span.lo ≡ lo) (to : span.hi ≡ hi) where
    picks : (v : ℤ) (f : Choice) → Within (ends_of span) v → Row s.app (transition (drawn s f) (mover s) v (write x.0 v (drawn s f))) Before (Pick x lo hi) Then
    picks v f within = (subst (λ k. k ≤ℤ v) from within.0, subst (λ k. v ≤ℤ k) to within.1, refl)

    pick-free : (f : Choice) → IsChosen s f → IsFree s.app (drawn s f) (mover s) Before (Pick x lo hi)
    pick-free f chosen = free-before s (Pick x lo hi) none (drawn s f) (drawn-known s f chosen) (λ b. b) (no-use s.app (drawn s f) (mover s) (Pick x lo hi) Before refl)

    end-within : (d : Bool) → Within (ends_of span) (end_of d (ends_of span))
    end-within false = let o = span.ordered in (omega (arith, ints), omega (arith, ints, o))
    end-within true = let o = span.ordered in (omega (arith, ints, o), omega (arith, ints))

    pub pick-row : IsRow s Before (Pick x lo hi) Then (record (unchanged s.known) { first = Some (x, span) }) Unheld (λ f. Unit {0})
    pick-row = record {
      after = λ S c mid known free row.
          subst (λ U. IsAfter s (record (unchanged s.known) { first = Some (x, span) }) Unheld S U) (sym row.2) (written x span c S there known (subst (λ k. k ≤ℤ c) (sym from) row.0, subst (λ k. c ≤ℤ k) (sym to) row.1));
      goes = λ f chosen can. (span.lo, write x.0 span.lo (drawn s f), picks span.lo f (end-within false), pick-free f chosen);
      base = usual s;
      chosen = usual-chosen s;
      can = tt;
      values_free = λ f y v miss can. tt;
      contents_free = λ f o c miss can. tt;
      first = λ d.
          let v = end_of d (ends_of span) in
          record {
            from = usual s;
            chosen = usual-chosen s;
            choice = v;
            mid = write x.0 v (drawn s (usual s));
            row = picks v (usual s) (end-within d);
            free = pick-free (usual s) (usual-chosen s);
            fact = wrote x v (usual s) there (usual-chosen s);
          };
      second = tt;
      claim = tt;
    }

  module _ (way : Way) (l : Operand) (comparison : Comparison) (r : Operand) (target : ℕ) (one two : Range) (none : IsUnforbidden s.app s.known s.p (If l comparison r target)) (left : IsNamed s.app l) (right : IsNamed s.app r) (apart : AreApart l r) (is : IsBranchIn (Turns way comparison) range l r one two) where
    abbrev branch : Change
    branch = record (unchanged s.known) { first = narrowed_to l one; second = narrowed_to r two }

    -- the row of an `if`: its comparison turns this way, and nothing changes
    if-row-from : (w : Way) (S : State) → Turns w comparison (operand_of S l) (operand_of S r) → Row s.app (transition S (mover s) (pos 0) S) Before (If l comparison r target) w
    if-row-from Then S t = (refl, t, refl)
    if-row-from Else S t = (refl, t, refl)

    if-turns : (w : Way) (S : State) (c : ℤ) (mid : State) → Row s.app (transition S (mover s) c mid) Before (If l comparison r target) w → Turns w comparison (operand_of S l) (operand_of S r) × (mid ≡ S)
    if-turns Then S c mid row = (row.1, row.2)
    if-turns Else S c mid row = (row.1, row.2)

    turns-drawn : (f : Choice) → GoesAt way l comparison r f → Turns way comparison (operand_of (drawn s f) l) (operand_of (drawn s f) r)
    turns-drawn f t =
        subst (λ z. Turns way comparison z (operand_of (drawn s f) r)) (sym (number-drawn l f left)) (subst (λ z. Turns way comparison (number_in f l) z) (sym (number-drawn r f right)) t)

    if-free : (f : Choice) → IsChosen s f → IsFree s.app (drawn s f) (mover s) Before (If l comparison r target)
    if-free f chosen = free-before s (If l comparison r target) none (drawn s f) (drawn-known s f chosen) (λ b. b) (no-use s.app (drawn s f) (mover s) (If l comparison r target) Before refl)

    -- a pair of related numbers is a choice that turns this way
    pair : (u v : ℤ) → CanBeIn range l u → CanBeIn range r v → Turns way comparison u v → (Q : State → Type 0) → ((f : Choice) → IsChosen s f → number_in f l ≡ u → number_in f r ≡ v → Q (drawn s f)) → Attains s Before (If l comparison r target) way Q
    pair u v can_l can_r t Q fact =
        let f = chosen_for l u (chosen_for r v (usual s)) in
        let chosen = for-chosen l u (chosen_for r v (usual s)) can_l (for-chosen r v (usual s) can_r (usual-chosen s)) in
        let a = first-number l u (chosen_for r v (usual s)) can_l in
        let b = second-number l r u v (usual s) apart can_r in
        let turns : GoesAt way l comparison r f = subst (λ z. Turns way comparison z (number_in f r)) (sym a) (subst (λ z. Turns way comparison u z) (sym b) t) in
        record {
          from = f;
          chosen = chosen;
          choice = pos 0;
          mid = drawn s f;
          row = if-row-from way (drawn s f) (turns-drawn f turns);
          free = if-free f chosen;
          fact = fact f chosen a b;
        }

    first-end : IfSome (narrowed_to l one) (λ w. (d : Bool) → Attains s Before (If l comparison r target) way (λ mid. value_of mid w.0.0 ≡ end_of d (ends_of w.1)))
    first-end = go l refl
      where
        go : (o : Operand) → l ≡ o → IfSome (narrowed_to o one) (λ w. (d : Bool) → Attains s Before (If l comparison r target) way (λ mid. value_of mid w.0.0 ≡ end_of d (ends_of w.1)))
        go (Number z) e = tt
        go (Variable x) e = λ d.
            let k = one-end (Turns way comparison) range l r one two is d in
            let u = end_of d (ends_of one) in
            pair u k.0 k.1 k.2 k.3 (λ mid. value_of mid x.0 ≡ u) (λ f chosen a b. subst (λ o. operand_of (drawn s f) o ≡ u) e (number-drawn l f left ∙ a))

    second-end : IfSome (narrowed_to r two) (λ w. (d : Bool) → Attains s Before (If l comparison r target) way (λ mid. value_of mid w.0.0 ≡ end_of d (ends_of w.1)))
    second-end = go r refl
      where
        go : (o : Operand) → r ≡ o → IfSome (narrowed_to o two) (λ w. (d : Bool) → Attains s Before (If l comparison r target) way (λ mid. value_of mid w.0.0 ≡ end_of d (ends_of w.1)))
        go (Number z) e = tt
        go (Variable x) e = λ d.
            let k = two-end (Turns way comparison) range l r one two is d in
            let v = end_of d (ends_of two) in
            pair k.0 v k.1 k.2 k.3 (λ mid. value_of mid x.0 ≡ v) (λ f chosen a b. subst (λ o. operand_of (drawn s f) o ≡ v) e (number-drawn r f right ∙ b))

    narrow : (o : Operand) (w : Range) (S : State) → Within (ends_of w) (operand_of S o) → IfSome (narrowed_to o w) (λ k. Within (ends_of k.1) (value_of S k.0.0))
    narrow (Number z) w S within = tt
    narrow (Variable x) w S within = within

    branched-after : (S : State) → IsKnown s S → Turns way comparison (operand_of S l) (operand_of S r) → IsAfter s branch Unheld S S
    branched-after S known t =
        let k = is.inside (operand_of S l) (operand_of S r) (can-be-known l S known) (can-be-known r S known) t in
        record {
          objects = refl;
          values = refl;
          untouched = λ o miss. refl;
          touched = tt;
          unwritten = λ y miss. refl;
          first = narrow l one S k.0;
          second = narrow r two S k.1;
          critical = known.mover.holds.critical;
          suspended = known.mover.holds.suspended;
          others_critical = refl;
          others_suspended = refl;
        }

    pub if-row : IsRow s Before (If l comparison r target) way branch Unheld (GoesAt way l comparison r)
    if-row =
        let k = one-end (Turns way comparison) range l r one two is false in
        let f = chosen_for l one.lo (chosen_for r k.0 (usual s)) in
        let a = first-number l one.lo (chosen_for r k.0 (usual s)) k.1 in
        let b = second-number l r one.lo k.0 (usual s) apart k.2 in
        record {
          after = λ S c mid known free row.
              let t = if-turns way S c mid row in
              subst (λ U. IsAfter s branch Unheld S U) (sym t.1) (branched-after S known t.0);
          goes = λ g chosen can. (pos 0, drawn s g, if-row-from way (drawn s g) (turns-drawn g can), if-free g chosen);
          base = f;
          chosen = for-chosen l one.lo (chosen_for r k.0 (usual s)) k.1 (for-chosen r k.0 (usual s) k.2 (usual-chosen s));
          can = subst (λ z. Turns way comparison z (number_in f r)) (sym a) (subst (λ z. Turns way comparison one.lo z) (sym b) k.3);
          values_free = λ g x v miss can.
              subst (λ z. Turns way comparison z (number_in (valued x v g) r)) (sym (unread l one g x v miss.0)) (subst (λ z. Turns way comparison (number_in g l) z) (sym (unread r two g x v miss.1)) can);
          contents_free = λ g o c miss can. filled-turns g o c can;
          first = first-end;
          second = second-end;
          claim = tt;
        }
      where
        same-number : (o : Operand) (g : Choice) (j : ℕ) (c : Content) → number_in (filled j c g) o ≡ number_in g o
        same-number (Number z) g j c = refl
        same-number (Variable x) g j c = refl

        filled-turns : (g : Choice) (j : ℕ) (c : Content) → GoesAt way l comparison r g → GoesAt way l comparison r (filled j c g)
        filled-turns g j c t =
            subst (λ z. Turns way comparison z (number_in (filled j c g) r)) (sym (same-number l g j c)) (subst (λ z. Turns way comparison (number_in g l) z) (sym (same-number r g j c)) t)

-- at a point: what a `set`, a `pick`, an `if` leaves, and that an `if` without such a pair never goes that way
module _ (P : Program) (k : Known) (p : Point) where
  pub set-left : (x : VarId) (l : Operand) (op : Operator) (r : Operand) (span : Range) → IsSpot P k p Before (Set x l op r) → IsUnforbidden P k p (Set x l op r) → x.0 < length P.variables → IsNamed P l → IsNamed P r → AreApart l r → IsSpanIn (joint_range k) op l r span → IsLeft P k p Then (record (unchanged k) { first = Some (x, span) })
  set-left x l op r span spot none there left right apart is =
      row-left P k p Before (Set x l op r) Then spot (record (unchanged k) { first = Some (x, span) }) Unheld (λ s f. Unit {0}) (λ q at.
      set-row (site P k p q Before (Set x l op r) spot at) x l op r span none there left right apart is)

  pub pick-left : (x : VarId) (lo hi : ℤ) (span : Range) → IsSpot P k p Before (Pick x lo hi) → IsUnforbidden P k p (Pick x lo hi) → x.0 < length P.variables → span.lo ≡ lo → span.hi ≡ hi → IsLeft P k p Then (record (unchanged k) { first = Some (x, span) })
  pick-left x lo hi span spot none there from to =
      row-left P k p Before (Pick x lo hi) Then spot (record (unchanged k) { first = Some (x, span) }) Unheld (λ s f. Unit {0}) (λ q at.
      pick-row (site P k p q Before (Pick x lo hi) spot at) x lo hi span none there from to)

  pub if-left : (way : Way) (l : Operand) (comparison : Comparison) (r : Operand) (target : ℕ) (one two : Range) → IsSpot P k p Before (If l comparison r target) → IsUnforbidden P k p (If l comparison r target) → IsNamed P l → IsNamed P r → AreApart l r → IsBranchIn (Turns way comparison) (joint_range k) l r one two → IsLeft P k p way (record (unchanged k) { first = narrowed_to l one; second = narrowed_to r two })
  if-left way l comparison r target one two spot none left right apart is =
      row-left P k p Before (If l comparison r target) way spot (record (unchanged k) { first = narrowed_to l one; second = narrowed_to r two }) Unheld (λ s f. GoesAt way l comparison r f) (λ q at.
      if-row (site P k p q Before (If l comparison r target) spot at) way l comparison r target one two none left right apart is)

  -- at these numbers an `if` went this way
  went : (w : Way) (l : Operand) (comparison : Comparison) (r : Operand) (target : ℕ) (S : State) (c : ℤ) (mid : State) → Row P (transition S p.actor.0 c mid) Before (If l comparison r target) w → Turns w comparison (operand_of S l) (operand_of S r)
  went Then l comparison r target S c mid row = row.1
  went Else l comparison r target S c mid row = row.1

  pub if-never : (way : Way) (l : Operand) (comparison : Comparison) (r : Operand) (target : ℕ) → IsSpot P k p Before (If l comparison r target) → NoBranchIn (Turns way comparison) (joint_range k) l r → NeverSteps P k p way
  if-never way l comparison r target spot none = row-never P k p Before (If l comparison r target) way spot (λ q at S c mid known free row.
      let s = site P k p q Before (If l comparison r target) spot at in
      none (operand_of S l) (operand_of S r) (can-be-known s l S known) (can-be-known s r S known) (went way l comparison r target S c mid row))

-- The lists of the index: empty at first, then one point more at a time.
use Rattle.std.proofs.Common.{◌≡◌, ℕ, zero, suc, ◌+◌, ◌<◌, List, [], ◌∷◌, ◌++◌, length, get_or, Some, None, true, false, refl, sym, ap, ◌∙◌, subst, arith, ⊎_elim, inl, inr}
use Rattle.std.specs.Prelude.{◌⊎◌, ◌↔◌, ◌≤◌, ◌<ℤ◌, ◌≤ℤ◌, ℤ, pos, not, Bool, Option, Contains, AllPairs, All, IsTrue, map, replicate, slice_get, set}
use Rattle.std.proofs.lemmas.Option.{slice_get_within}
use Rattle.fr_effects.proofs.Terms.{range_with_len, cases_lt, cases_eq, ints, by_lt_z, same_Some, length_push, length-map, length-replicate, length-set, map-set, set_past, get_or_past, get_or_push}
use Rattle.fr_effects.proofs.Terms.{get_or_append_left, get_or-map, get_or-replicate, get_or-set_same, get_or-set_other, get_or_default, length-map-range_with_len, get_or-map-range_with_len}
use Rattle.fr_effects.proofs.Terms.{Contains-get_or, Contains-push, Contains-push_cases, Contains-append_left, Point, VarId, Operand, Number, Variable, Operator, Range, Program, IsPoint, no_variable}
use Rattle.fr_effects.proofs.Terms.{variable_at, points_of, point_number, PointsAreNumbered, IsIn, result_of, Alternative, Within, range_of, Known, alone, joint_range, CanBeIn, IsSpanIn, Effect}
use Rattle.fr_effects.proofs.Terms.{Sets, effect_at, target_of, made_of, declared_of, CanLeave, Lists, IsIndexBelow, IndexOf, list_at, enlisted}
use Rattle.fr_notes.specs.declared.note.NoteParts.{NoteParts}
use Rattle.fr_notes.specs.Parts.{said, range_said}

module _ (P : Program) (IsSuch : Effect → Type 0) where
  -- before the first point
  pub lists-none : Lists P IsSuch 0 []
  lists-none = record {
    rising = λ i j d less l. absurd (omega (arith, l));
    exact = λ k. (λ c. let l = c.1 in absurd (omega (arith, l)), λ c. let l = c.0 in absurd (omega (arith, l)));
  }

  module _ (n : ℕ) (q : Point) (here : slice_get (points_of P) n ≡ Some q) (xs : List ℕ) (so_far : Lists P IsSuch n xs) where
    -- with a point whose effect is such
    pub lists-more : IsSuch (effect_at P q) → Lists P IsSuch (n + 1) (xs ++ n ∷ [])
    lists-more such = record {
      rising = rises;
      exact = λ k. (
        λ c. ⊎_elim
            (λ old. let at = (so_far.exact k).0 old in let l = at.0 in (omega (arith, l), at.1))
            (λ new. (omega (arith, new), (q, subst (λ j. slice_get (points_of P) j ≡ Some q) new here, such)))
            (Contains-push_cases xs n k c),
        λ at. ⊎_elim
            (λ less. Contains-append_left xs (n ∷ []) k ((so_far.exact k).1 (less, at.1)))
            (λ more. let l = at.0 in let last : n ≡ k = omega (arith, l, more) in subst (Contains (xs ++ n ∷ [])) last (Contains-push xs n))
            (cases_lt k n),
      );
    }
      where
        rises : AllPairs (λ j k. j < k) (xs ++ n ∷ [])
        rises i j d less l = ⊎_elim
            (λ inside.
            let first : i < length xs = omega (arith, less, inside) in
            let e = get_or_append_left xs (n ∷ []) d i first in
            let f = get_or_append_left xs (n ∷ []) d j inside in
            let r = so_far.rising i j d less inside in
            omega (arith, e, f, r))
            (λ past.
            let long = length_push xs n in
            let last : length xs ≡ j = omega (arith, l, long, past) in
            let first : i < length xs = omega (arith, less, last) in
            let e = get_or_append_left xs (n ∷ []) d i first in
            let f = get_or_push xs n d j last in
            let below = ((so_far.exact (get_or xs i d)).0 (Contains-get_or xs i d first)).0 in
            omega (arith, e, f, below))
            (cases_lt j (length xs))

    -- with one whose effect isn't
    pub lists-same : (IsSuch (effect_at P q) → ⊥) → Lists P IsSuch (n + 1) xs
    lists-same other = record {
      rising = so_far.rising;
      exact = λ k. (
        λ c. let at = (so_far.exact k).0 c in let l = at.0 in (omega (arith, l), at.1),
        λ at. ⊎_elim
            (λ less. (so_far.exact k).1 (less, at.1))
            (λ more.
            let l = at.0 in
            let last : k ≡ n = omega (arith, l, more) in
            let same = same_Some _ _ (sym here ∙ subst (λ j. slice_get (points_of P) j ≡ Some at.1.0) last at.1.1) in
            absurd (other (subst (λ r. IsSuch (effect_at P r)) (sym same) at.1.2)))
            (cases_lt k n),
      );
    }

-- the lists of all variables, or of all objects, with one point more
module _ (P : Program) (place_of : Effect → Option ℕ) (n : ℕ) (q : Point) (here : slice_get (points_of P) n ≡ Some q) where
  pub enlisted-all : (count : ℕ) (lists : List (List ℕ)) → length lists ≡ count →
      ((k : ℕ) → k < count → Lists P (λ e. place_of e ≡ Some k) n (list_at lists k)) → (place : Option ℕ) → place ≡ place_of (effect_at P q) →
      (k : ℕ) → k < count → Lists P (λ e. place_of e ≡ Some k) (n + 1) (list_at (enlisted lists place n) k)
  enlisted-all count lists many so_far None is k l =
      lists-same P (λ e. place_of e ≡ Some k) n q here (list_at lists k) (so_far k l) (λ such. let no = is ∙ such in cc)
  enlisted-all count lists many so_far (Some j) is k l = ⊎_elim
      (λ one.
      let there : k < length lists = omega (arith, l, many) in
      let same = get_or-set_same lists k (list_at lists k ++ n ∷ []) [] there in
      let such = sym is ∙ ap (λ x. Some x) (sym one) in
      let more = lists-more P (λ e. place_of e ≡ Some k) n q here (list_at lists k) (so_far k l) such in
      subst (λ i. Lists P (λ e. place_of e ≡ Some k) (n + 1) (list_at (set lists i (list_at lists i ++ n ∷ [])) k)) one
      (subst (Lists P (λ e. place_of e ≡ Some k) (n + 1)) (sym same) more))
      (λ other.
      let same = get_or-set_other lists j k (list_at lists j ++ n ∷ []) [] other in
      subst (Lists P (λ e. place_of e ≡ Some k) (n + 1)) (sym same)
      (lists-same P (λ e. place_of e ≡ Some k) n q here (list_at lists k) (so_far k l) (λ such. other (sym (same_Some _ _ (is ∙ such))))))
      (cases_eq k j)

-- before the first point, the index of empty lists
pub index-none : (P : Program) (I : IndexOf) → I.writers ≡ replicate (length P.variables) [] → I.lives ≡ replicate (length P.objects) [] → I.leavers ≡ [] → IsIndexBelow P 0 I
index-none P I variables objects leavers = record {
  variables = ap (λ xs. length xs) variables ∙ length-replicate (length P.variables) [];
  objects = ap (λ xs. length xs) objects ∙ length-replicate (length P.objects) [];
  writers = λ x l.
      let empty = ap (λ xs. list_at xs x) variables ∙ get_or-replicate (length P.variables) x [] [] l in
      subst (Lists P (λ e. target_of e ≡ Some x) 0) (sym empty) (lists-none P (λ e. target_of e ≡ Some x));
  lives = λ o l.
      let empty = ap (λ xs. list_at xs o) objects ∙ get_or-replicate (length P.objects) o [] [] l in
      subst (Lists P (λ e. made_of e ≡ Some o) 0) (sym empty) (lists-none P (λ e. made_of e ≡ Some o));
  leavers = subst (Lists P (CanLeave P) 0) (sym leavers) (lists-none P (CanLeave P));
}

enlisted-length : (lists : List (List ℕ)) (place : Option ℕ) (n : ℕ) → length (enlisted lists place n) ≡ length lists
enlisted-length lists None n = refl
enlisted-length lists (Some k) n = length-set lists k (list_at lists k ++ n ∷ [])

-- the index with one point more
pub index-more : (P : Program) (n : ℕ) (q : Point) → slice_get (points_of P) n ≡ Some q → (I J : IndexOf) → IsIndexBelow P n I →
    J.writers ≡ enlisted I.writers (target_of (effect_at P q)) n → J.lives ≡ enlisted I.lives (made_of (effect_at P q)) n →
    Lists P (CanLeave P) (n + 1) J.leavers → IsIndexBelow P (n + 1) J
index-more P n q here I J so_far writers lives leavers = record {
  variables = ap (λ xs. length xs) writers ∙ enlisted-length I.writers (target_of (effect_at P q)) n ∙ so_far.variables;
  objects = ap (λ xs. length xs) lives ∙ enlisted-length I.lives (made_of (effect_at P q)) n ∙ so_far.objects;
  writers = λ x l. subst (λ xs. Lists P (λ e. target_of e ≡ Some x) (n + 1) (list_at xs x)) (sym writers)
      (enlisted-all P target_of n q here (length P.variables) I.writers so_far.variables so_far.writers (target_of (effect_at P q)) refl x l);
  lives = λ o l. subst (λ xs. Lists P (λ e. made_of e ≡ Some o) (n + 1) (list_at xs o)) (sym lives)
      (enlisted-all P made_of n q here (length P.objects) I.lives so_far.objects so_far.lives (made_of (effect_at P q)) refl o l);
  leavers = leavers;
}

-- the span of what a `set` computes of the declared ranges leaves a range exactly where some result does
module _ (P : Program) (anywhere : Alternative) (declared : (x : ℕ) → range_of anywhere x ≡ declared_of P x) where
  as-declared : (operand : Operand) (v : ℤ) → CanBeIn (range_of anywhere) operand v → CanBeIn (declared_of P) operand v
  as-declared (Number z) v can = can
  as-declared (Variable x) v can = subst (λ r. Within r v) (declared x.0) can

  as-anywhere : (operand : Operand) (v : ℤ) → CanBeIn (declared_of P) operand v → CanBeIn (range_of anywhere) operand v
  as-anywhere (Number z) v can = can
  as-anywhere (Variable x) v can = subst (λ r. Within r v) (sym (declared x.0)) can

  pub span-leaves : (l : Operand) (op : Operator) (r : Operand) (span : Range) → IsSpanIn (range_of anywhere) op l r span → (target : ℤ × ℤ) →
      (((z : ℤ) → IsIn span z → Within target z) → ⊥) →
      (u : ℤ) × (v : ℤ) × CanBeIn (declared_of P) l u × CanBeIn (declared_of P) r v × (Within target (result_of op u v) → ⊥)
  span-leaves l op r span s target not = by_lt_z span.lo target.0 below above
    where
      Leaving : Type 0
      Leaving = (u : ℤ) × (v : ℤ) × CanBeIn (declared_of P) l u × CanBeIn (declared_of P) r v × (Within target (result_of op u v) → ⊥)

      below : span.lo <ℤ target.0 → Leaving
      below low = (
        s.lo.0,
        s.lo.1,
        as-declared l _ s.lo.2,
        as-declared r _ s.lo.3,
        λ inside.
            let at = subst (λ z. target.0 ≤ℤ z) s.lo.4 inside.0 in omega (arith, ints, at, low),
      )

      above : target.0 ≤ℤ span.lo → Leaving
      above from = by_lt_z target.1 span.hi
          (λ high. (
            s.hi.0,
            s.hi.1,
            as-declared l _ s.hi.2,
            as-declared r _ s.hi.3,
            λ inside.
                let at = subst (λ z. z ≤ℤ target.1) s.hi.4 inside.1 in omega (arith, ints, at, high),
          ))
          (λ to. absurd (not (λ z inside. (omega (arith, ints, from, inside.0), omega (arith, ints, inside.1, to)))))

  pub span-stays : (l : Operand) (op : Operator) (r : Operand) (span : Range) → IsSpanIn (range_of anywhere) op l r span → (target : ℤ × ℤ) →
      ((u : ℤ) × (v : ℤ) × CanBeIn (declared_of P) l u × CanBeIn (declared_of P) r v × (Within target (result_of op u v) → ⊥)) →
      ((z : ℤ) → IsIn span z → Within target z) → ⊥
  span-stays l op r span s target (u, v, one, other, out) all = out (all _ (s.inside u v (as-anywhere l u one) (as-anywhere r v other)))

  within-as : (x : VarId) (range : Range) → range.lo ≡ (variable_at P x.0).lo → range.hi ≡ (variable_at P x.0).hi → (z : ℤ) → IsIn range z → Within (declared_of P x.0) z
  within-as x range lo hi z inside = (subst (λ k. k ≤ℤ z) lo inside.0, subst (λ k. z ≤ℤ k) hi inside.1)

  in-as : (x : VarId) (range : Range) → range.lo ≡ (variable_at P x.0).lo → range.hi ≡ (variable_at P x.0).hi → (z : ℤ) → Within (declared_of P x.0) z → IsIn range z
  in-as x range lo hi z inside = (subst (λ k. k ≤ℤ z) (sym lo) inside.0, subst (λ k. z ≤ℤ k) (sym hi) inside.1)

  pub leave-told : (k : Known) → k ≡ alone anywhere → (l : Operand) (op : Operator) (r : Operand) (span : Range) → IsSpanIn (joint_range k) op l r span →
      (x : VarId) (range : Range) → range.lo ≡ (variable_at P x.0).lo → range.hi ≡ (variable_at P x.0).hi →
      (result : Bool) → (IsTrue result ↔ ((z : ℤ) → IsIn span z → IsIn range z)) → (effect : Effect) → effect ≡ Sets x l op r →
      (IsTrue (not result) ↔ CanLeave P effect)
  leave-told k one l op r span computed x range lo hi result both effect is =
      subst (λ e. IsTrue (not result) ↔ CanLeave P e) (sym is) (by_result result both)
    where
      s : IsSpanIn (range_of anywhere) op l r span
      s = subst (λ e. IsSpanIn (joint_range e) op l r span) one computed

      by_result : (b : Bool) → (IsTrue b ↔ ((z : ℤ) → IsIn span z → IsIn range z)) → (IsTrue (not b) ↔ CanLeave P (Sets x l op r))
      by_result true both = (
        λ t. cc,
        λ leaves. absurd (span-stays l op r span s (declared_of P x.0) leaves (λ z i. within-as x range lo hi z (both.0 refl z i))),
      )
      by_result false both = (
        λ t. span-leaves l op r span s (declared_of P x.0) (λ all. let t = both.1 (λ z i. in-as x range lo hi z (all z i)) in cc),
        λ leaves. refl,
      )

-- a list with one number more, as the code has it
pub enlist-told : {V : Type 0} (view : V → List ℕ) (lists : List V) (k : ℕ) (list new : V) (n : ℕ) → list ≡ get_or lists k list → view new ≡ view list ++ n ∷ [] →
    map view (set lists k new) ≡ enlisted (map view lists) (Some k) n
enlist-told view lists k list new n is more = ⊎_elim
    (λ there.
    let old = ap view is ∙ sym (get_or-map view lists k list [] there) in
    map-set view lists k new ∙ ap (λ ys. set (map view lists) k ys) (more ∙ ap (λ ys. ys ++ n ∷ []) old))
    (λ past.
    let long = length-map lists view in
    let beyond : length (map view lists) ≤ k = omega (arith, long, past) in
    ap (map view) (set_past lists k new past) ∙ sym (set_past (map view lists) k (list_at (map view lists) k ++ n ∷ []) beyond))
    (cases_lt k (length lists))

-- the alternative that says nothing has the declared ranges
pub anywhere-declared : (P : Program) (parts : NoteParts) → parts.range.items ≡ [] → (n : Alternative) → n ≡ said P parts → (x : ℕ) → range_of n x ≡ declared_of P x
anywhere-declared P parts none n is x = ap (λ m. range_of m x) is ∙ ⊎_elim
    (λ there.
    get_or-map-range_with_len (range_said P parts.range.items) 0 (length P.variables) x x (pos 0, pos 0) there (omega arith)
    ∙ ap (λ ranges. range_said P ranges x) none)
    (λ past.
    let long = length-map-range_with_len (range_said P parts.range.items) 0 (length P.variables) in
    let beyond = get_or_past P.variables x no_variable past in
    get_or_past (map (range_said P parts.range.items) (range_with_len 0 (length P.variables))) x (pos 0, pos 0) (omega (arith, long, past))
    ∙ sym (ap (λ v. (v.lo, v.hi)) beyond))
    (cases_lt x (length P.variables))

-- ---- a walk along a list

-- it is so of the points at the first ones of these numbers
abbrev pub AreChecked : Program → (Point → Type 0) → List ℕ → ℕ → Type 0
AreChecked P IsSo items bound =
    (j : ℕ) → j < bound → (q : Point) → slice_get (points_of P) (get_or items j 0) ≡ Some q → IsSo q

-- one place more
pub checked-more : (P : Program) (IsSo : Point → Type 0) (items : List ℕ) (k : ℕ) → AreChecked P IsSo items k →
    ((q : Point) → slice_get (points_of P) (get_or items k 0) ≡ Some q → IsSo q) → AreChecked P IsSo items (k + 1)
checked-more P IsSo items k checked next j l q e = ⊎_elim (λ m. checked j m q e) (λ m.
    let last : j ≡ k = omega (arith, l, m) in
    next q (subst (λ x. slice_get (points_of P) (get_or items x 0) ≡ Some q) last e)) (cases_lt j k)

-- a place whose number is less comes before
pub earlier : (items : List ℕ) → AllPairs (λ j k. j < k) items → (j k : ℕ) → j < length items → get_or items j 0 < get_or items k 0 → j < k
earlier items rising j k there less = ⊎_elim (λ l. l) (λ l. absurd (⊎_elim
    (λ m. let r = rising k j 0 m there in omega (arith, r, less))
    (λ m.
    let e : j ≡ k = omega (arith, l, m) in
    let s = ap (λ x. get_or items x 0) e in
    omega (arith, s, less))
    (cases_lt k j))) (cases_lt j k)

-- what is so of the first ones is so of each listed point whose place is among them
pub checked-point : (P : Program) (IsSo : Point → Type 0) (items : List ℕ) → PointsAreNumbered P → (bound : ℕ) → AreChecked P IsSo items bound →
    (q : Point) → IsPoint P q → Contains items (point_number P q) →
    ((j : ℕ) → j < length items → get_or items j 0 ≡ point_number P q → j < bound) → IsSo q
checked-point P IsSo items numbered bound checked q at (i, l, is) place =
    let same = get_or_default items i 0 (point_number P q) l ∙ is in
    checked i (place i l same) q (ap (slice_get (points_of P)) same ∙ numbered.at q at)

-- each number of a list is a point's
pub numbers-below : (P : Program) (IsSuch : Effect → Type 0) (items : List ℕ) → Lists P IsSuch (length (points_of P)) items →
    All (λ k. k < length (points_of P)) items
numbers-below P IsSuch items lists k d l = ((lists.exact (get_or items k d)).0 (Contains-get_or items k d l)).0

-- each point whose effect is such is in the list
pub listed-point : (P : Program) (IsSuch : Effect → Type 0) (items : List ℕ) → PointsAreNumbered P → Lists P IsSuch (length (points_of P)) items →
    (q : Point) → IsPoint P q → IsSuch (effect_at P q) → Contains items (point_number P q)
listed-point P IsSuch items numbered lists q at such =
    let here = numbered.at q at in
    (lists.exact (point_number P q)).1 (slice_get_within (points_of P) (point_number P q) q here, (q, here, such))

-- a number is in a list or isn't
pub in-list : (items : List ℕ) (n : ℕ) → Contains items n ⊎ (Contains items n → ⊥)
in-list [] n = inr (λ c. let l = c.1 in absurd (omega (arith, l)))
in-list (x ∷ items) n = ⊎_elim (λ same. inl (0, omega arith, same)) (λ other. ⊎_elim
    (λ c. inl (suc c.0, (let l = c.1 in omega (arith, l)), c.2))
    (λ not. inr (λ c. past other not c))
    (in-list items n)) (cases_eq x n)
  where
    past : (x ≡ n → ⊥) → (Contains items n → ⊥) → Contains (x ∷ items) n → ⊥
    past other not (zero, l, is) = other is
    past other not (suc k, l, is) = not (k, omega (arith, l), is)

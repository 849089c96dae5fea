-- The start of an application, and what an alternative says of it.
use Rattle.std.proofs.Common.{◌≡◌, ℕ, zero, suc, ◌<◌, ◌≤◌, List, [], ◌∷◌, length, get_or, map, Bool, true, false, refl, sym, ap, ◌∙◌, subst, arith, ⊎_elim}
use Rattle.std.specs.Prelude.{pos, slice_index_or, IsTrue, if◌then◌else◌}
use Rattle.std.proofs.lemmas.List.{get_or_default}
use Rattle.fr_edge.proofs.Terms.{ints, get_or-map, get_or_past, length-map, cases_lt, false≢true, Range, Program, VariableOf, ObjectOf, Kind, variable_at, object_at, no_variable, no_object, Dead}
use Rattle.fr_edge.proofs.Terms.{start, first_content, new_content, content_of, value_of, Alternative, Meets, Within, HoldsOne, claim_of, range_of, AlternativeFits, new-live, new-not_held, new-unheld}
use Rattle.fr_edge.proofs.Terms.{BeginsWithin, BeginsAs, begins_as}
use Rattle.fr_program.specs.declared.parts.Variable.{Variable}
use Rattle.fr_program.specs.declared.parts.Object.{Object}
use Rattle.fr_program.specs.View.{variable_of, object_of}
use Rattle.fr_notes.specs.View.{ends_of}
use Rattle.fr_notes.specs.declared.claim.Claim.{Claim}
use Rattle.fr_notes.specs.declared.claim.Claim.TheVariants.{NotHeld, Alive, Gone, HeldTimes}

module _ (rs : List Range) (vs : List Variable) (x : ℕ) (r : Range) (v : Variable) (l : x < length vs) (same : length rs ≡ length vs) (is : r ≡ get_or rs x r) (be : v ≡ get_or vs x v) where
  range-is : slice_index_or (map ends_of rs) x (pos 0, pos 0) ≡ ends_of r
  range-is = get_or-map ends_of rs x r (pos 0, pos 0) (omega arith) ∙ ap (λ z. ends_of z) (sym is)

  variable-is : slice_index_or (map variable_of vs) x no_variable ≡ variable_of v
  variable-is = get_or-map variable_of vs x v no_variable l ∙ ap (λ z. variable_of z) (sym be)

  pub begins-made : Within (ends_of r) v.init → BeginsWithin rs vs x
  begins-made h = subst (λ q. Within q (slice_index_or (map variable_of vs) x no_variable).init) (sym range-is) (subst (λ w. Within (ends_of r) w.init) (sym variable-is) h)

  pub begins-tells : BeginsWithin rs vs x → Within (ends_of r) v.init
  begins-tells h = subst (λ w. Within (ends_of r) w.init) variable-is (subst (λ q. Within q (slice_index_or (map variable_of vs) x no_variable).init) range-is h)

module _ (cs : List Claim) (os : List Object) (o : ℕ) (d : Claim) (object : Object) (l : o < length os) (same : length cs ≡ length os) (be : object ≡ get_or os o object) where
  object-is : slice_index_or (map object_of os) o no_object ≡ object_of object
  object-is = get_or-map object_of os o object no_object l ∙ ap (λ z. object_of z) (sym be)

  as-is : begins_as (slice_index_or cs o NotHeld) (slice_index_or (map object_of os) o no_object).live ≡ begins_as (get_or cs o d) object.live
  as-is = ap (λ c. begins_as c (slice_index_or (map object_of os) o no_object).live) (get_or_default cs o NotHeld d (omega arith)) ∙ ap (λ z. begins_as (get_or cs o d) z.live) object-is

  pub claim-made : IsTrue (begins_as (get_or cs o d) object.live) → BeginsAs cs os o
  claim-made h = as-is ∙ h

  pub claim-tells : BeginsAs cs os o → IsTrue (begins_as (get_or cs o d) object.live)
  claim-tells h = sym as-is ∙ h

zeros : {A : Type 0} (xs : List A) (a : ℕ) → get_or (map (λ x. zero) xs) a zero ≡ zero
zeros [] a = refl
zeros (x ∷ xs) zero = refl
zeros (x ∷ xs) (suc a) = zeros xs a

-- each initial value lies in the alternative's range
abbrev pub BeginsIn : Program → Alternative → Type 0
BeginsIn P n = (x : ℕ) → x < length P.variables → Within (range_of n x) (variable_at P x).init

-- each claim is true of its object at the start
abbrev pub ClaimsBegin : Program → Alternative → Type 0
ClaimsBegin P n = (o : ℕ) → o < length P.objects → IsTrue (begins_as (claim_of n o) (object_at P o).live)

new-met : (a : ℕ) (claim : Claim) (kind : Kind) (live : Bool) → IsTrue (begins_as claim live) → Meets a claim (if live then new_content kind else Dead)
new-met a NotHeld kind true h = new-not_held a kind
new-met a NotHeld kind false h = refl
new-met a Alive kind true h = (new-live kind, new-not_held a kind)
new-met a Alive kind false h = absurd (false≢true h)
new-met a Gone kind true h = absurd (false≢true h)
new-met a Gone kind false h = refl
new-met a (HeldTimes count) kind live h = absurd (false≢true h)

met-new : (a : ℕ) (claim : Claim) (kind : Kind) (live : Bool) → Meets a claim (if live then new_content kind else Dead) → IsTrue (begins_as claim live)
met-new a NotHeld kind live m = refl
met-new a Alive kind true m = refl
met-new a Alive kind false m = absurd (m.0 refl)
met-new a Gone kind true m = absurd (new-live kind m)
met-new a Gone kind false m = refl
met-new a (HeldTimes count) kind true m = absurd (new-unheld a count kind m)
met-new a (HeldTimes count) kind false m = cc

start-content : (P : Program) (o : ℕ) → o < length P.objects → content_of (start P) o ≡ first_content (object_at P o)
start-content P o l = get_or-map first_content P.objects o no_object Dead l

past-content : (os : List ObjectOf) (o : ℕ) → length os ≤ o → get_or (map first_content os) o Dead ≡ Dead
past-content [] o l = refl
past-content (x ∷ os) zero l = absurd (omega arith)
past-content (x ∷ os) (suc o) l = past-content os o (omega arith)

start-value : (P : Program) (x : ℕ) → x < length P.variables → value_of (start P) x ≡ (variable_at P x).init
start-value P x l = get_or-map (λ v. v.init) P.variables x no_variable (pos 0) l

module _ (P : Program) (n : Alternative) (fits : AlternativeFits P n) where
  past : (x : ℕ) → length P.variables ≤ x → Within (range_of n x) (value_of (start P) x)
  past x l =
      subst (λ r. Within r (value_of (start P) x)) (sym (get_or_past n.ranges x (pos 0, pos 0) (omega (arith, fits.ranges.0)))) (subst (λ v. Within (pos 0, pos 0) v) (sym (value-past P.variables x l)) (omega (arith, ints), omega (arith, ints)))
    where
      value-past : (vs : List VariableOf) (x : ℕ) → length vs ≤ x → get_or (map (λ v. v.init) vs) x (pos 0) ≡ pos 0
      value-past [] x l = refl
      value-past (v ∷ vs) zero l = absurd (omega arith)
      value-past (v ∷ vs) (suc x) l = value-past vs x (omega arith)

  pub start-holds : n.critical ≡ 0 → n.suspended ≡ 0 → ClaimsBegin P n → BeginsIn P n → (a : ℕ) → HoldsOne n a (start P)
  start-holds crit susp claims begins a = record {
    critical = sym crit;
    suspended = zeros P.actors a ∙ sym susp;
    objects = λ o.
        ⊎_elim (λ l. subst (λ c. Meets a (claim_of n o) c) (sym (start-content P o l)) (new-met a (claim_of n o) (object_at P o).kind (object_at P o).live (claims o l))) (λ l.
        subst (λ c. Meets a (claim_of n o) c) (sym (past-content P.objects o l)) (subst (λ d. Meets a d Dead) (sym (get_or_past n.claims o NotHeld (omega (arith, fits.claims.0, l)))) refl)) (cases_lt o (length P.objects));
    variables = λ x. ⊎_elim (λ l. subst (λ v. Within (range_of n x) v) (sym (start-value P x l)) (begins x l)) (λ l. past x l) (cases_lt x (length P.variables));
  }

  pub start-tells : (a : ℕ) → HoldsOne n a (start P) → (n.critical ≡ 0) × (n.suspended ≡ 0) × ClaimsBegin P n × BeginsIn P n
  start-tells a h = (
    sym h.critical,
    sym h.suspended ∙ zeros P.actors a,
    λ o l. met-new a (claim_of n o) (object_at P o).kind (object_at P o).live (subst (λ c. Meets a (claim_of n o) c) (start-content P o l) (h.objects o)),
    λ x l. subst (λ v. Within (range_of n x) v) (start-value P x l) (h.variables x),
  )

-- the alternative's ranges and the application's variables, as the code has them
pub begins-in : (P : Program) (n : Alternative) (rs : List Range) (vs : List Variable) → n.ranges ≡ map ends_of rs → map variable_of vs ≡ P.variables → ((x : ℕ) → x < length vs → BeginsWithin rs vs x) → BeginsIn P n
begins-in P n rs vs is be h x l =
    let k : x < length vs = omega (arith, length-map vs variable_of, ap length be) in
    subst (λ q. Within (slice_index_or q x (pos 0, pos 0)) (variable_at P x).init) (sym is) (subst (λ q. Within (slice_index_or (map ends_of rs) x (pos 0, pos 0)) (slice_index_or q x no_variable).init) be (h x k))

pub in-begins : (P : Program) (n : Alternative) (rs : List Range) (vs : List Variable) → n.ranges ≡ map ends_of rs → map variable_of vs ≡ P.variables → BeginsIn P n → (x : ℕ) → x < length vs → BeginsWithin rs vs x
in-begins P n rs vs is be h x l =
    let k : x < length P.variables = omega (arith, length-map vs variable_of, ap length be) in
    subst (λ q. Within (slice_index_or (map ends_of rs) x (pos 0, pos 0)) (slice_index_or q x no_variable).init) (sym be) (subst (λ q. Within (slice_index_or q x (pos 0, pos 0)) (variable_at P x).init) is (h x k))

-- the alternative's claims and the application's objects, as the code has them
pub claims-begin : (P : Program) (n : Alternative) (cs : List Claim) (os : List Object) → n.claims ≡ cs → map object_of os ≡ P.objects → ((o : ℕ) → o < length os → BeginsAs cs os o) → ClaimsBegin P n
claims-begin P n cs os is be h o l =
    let k : o < length os = omega (arith, length-map os object_of, ap length be, l) in
    subst (λ q. IsTrue (begins_as (slice_index_or q o NotHeld) (object_at P o).live)) (sym is) (subst (λ q. IsTrue (begins_as (slice_index_or cs o NotHeld) (slice_index_or q o no_object).live)) be (h o k))

pub begin-claims : (P : Program) (n : Alternative) (cs : List Claim) (os : List Object) → n.claims ≡ cs → map object_of os ≡ P.objects → ClaimsBegin P n → (o : ℕ) → o < length os → BeginsAs cs os o
begin-claims P n cs os is be h o l =
    let k : o < length P.objects = omega (arith, length-map os object_of, ap length be, l) in
    subst (λ q. IsTrue (begins_as (slice_index_or cs o NotHeld) (slice_index_or q o no_object).live)) (sym be) (subst (λ q. IsTrue (begins_as (slice_index_or q o NotHeld) (object_at P o).live)) is (h o k))

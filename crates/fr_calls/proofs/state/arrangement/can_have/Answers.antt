-- What each kind of object can have is said of the kind and the content that are here.
use Rattle.std.proofs.Common.{◌≡◌, ◌<◌, ◌≤◌, ◌∙◌, Bool, List, ap, arith, eq-eqb, length, rules, subst, sym}
use Rattle.std.specs.Prelude.{◌↔◌, ◌≤ℤ◌, ℤ, pos, All, FitsSigned, IsTrue, int_le, sum}
use Rattle.std.proofs.lemmas.Bool.{eqb-true}
use Rattle.std.proofs.lemmas.Int.{ints, to_z-of_z}
use Rattle.std.proofs.lemmas.List.{length-map}
use mir.Syntax.{w64, w128}
use Rattle.fr_program.specs.declared.parts.Kind.{Kind}
use Rattle.fr_program.specs.Program.{Program}
use Rattle.fr_program.specs.View.{actor_of}
use Rattle.fr_rules.specs.State.{CanHave, Content}
use Rattle.fr_calls.specs.View.{content_kept}
use Rattle.fr_calls.proofs.state.arrangement.can_have.Goals as goal

told : (P : Program) (kind here : Kind) (content had : Content) (test : Bool) → kind ≡ here → had ≡ content → (IsTrue test ↔ CanHave P here had) → IsTrue test ↔ CanHave P kind content
told P kind here content had test is same h =
    subst (λ k. IsTrue test ↔ CanHave P k content) (sym is) (subst (λ c. IsTrue test ↔ CanHave P here c) same h)

at-most : (x y m n : ℤ) → x ≡ m → y ≡ n → IsTrue (int_le x y) ↔ (m ≤ℤ n)
at-most x y m n left right = ((λ h. grind (arith, ints)), (λ h. grind (arith, ints)))

within-ends : (test : Bool) (vs : List ℤ) (x y lo hi : ℤ) → x ≡ lo → y ≡ hi → (IsTrue test ↔ All (λ v. (x ≤ℤ v) × (v ≤ℤ y)) vs) → IsTrue test ↔ All (λ v. (lo ≤ℤ v) × (v ≤ℤ hi)) vs
within-ends test vs x y lo hi left right h =
    subst (λ b. IsTrue test ↔ All (λ v. (lo ≤ℤ v) × (v ≤ℤ b)) vs) right (subst (λ a. IsTrue test ↔ All (λ v. (a ≤ℤ v) × (v ≤ℤ y)) vs) left h)

pub returns-then-fits_in : goal.returns-then-fits_in
returns-then-fits_in c =
    let here = c.in-Queue-Values in
    let f : FitsSigned w64 here.size = search rules in
    let g : FitsSigned w64 here.lo = search rules in
    let h : FitsSigned w64 here.hi = search rules in
    let count : c.len.result ≡ length here.values.items = search rules in
    let fits = subst (λ n. pos n ≤ℤ here.size) count (subst (λ z. pos c.len.result ≤ℤ z) (to_z-of_z w64 here.size f) (c.fits_in.ensures.0 c.if-fits_in.true)) in
    let within = within-ends c.are_within.result here.values.items _ _ here.lo here.hi (to_z-of_z w64 here.lo g) (to_z-of_z w64 here.hi h) c.are_within.ensures in
    told c.args.app.now _ _ _ _ c.are_within.result here.is-0 (sym (ap content_kept here.is-1) ∙ c.stock.ensures)
    ((λ t. (fits, within.0 t)), (λ w. within.1 w.1))

pub returns-in-Counting-Count : goal.returns-in-Counting-Count
returns-in-Counting-Count c =
    let here = c.in-Counting-Count in
    let f : FitsSigned w64 c.from.result = search rules in
    let g : FitsSigned w64 here.size = search rules in
    told c.args.app.now _ _ _ _ _ here.is-0 (sym (ap content_kept here.is-1) ∙ c.stock.ensures)
    (at-most _ _ _ _ (to_z-of_z w64 _ f ∙ c.from.ensures) (to_z-of_z w64 _ g))

pub returns-then-holder-actors : goal.returns-then-holder-actors
returns-then-holder-actors c =
    let here = c.in-Mutex-Held in
    let count : length c.actors.result.now ≡ length c.args.app.now.actors = sym (length-map c.actors.result.now actor_of) ∙ ap length c.actors.ensures in
    let below = subst (λ n. here.holder.0 < n) count c.if-holder-actors.true in
    told c.args.app.now _ _ _ _ _ here.is-0 (sym (ap content_kept here.is-1) ∙ c.stock.ensures)
    ((λ t. (below, eqb-true _ _ t)), (λ h. eq-eqb _ _ h.1))

pub returns-then-from : goal.returns-then-from
returns-then-from c =
    let here = c.in-Message-Lengths in
    let lengths = here.messages.lengths.items in
    let f : FitsSigned w128 c.from-in-Message-Lengths.result = search rules in
    let g : FitsSigned w128 c.from-in-Message-Lengths-2.result = search rules in
    let h : FitsSigned w64 here.size = search rules in
    let fits = (at-most _ _ (pos (sum lengths)) here.size (to_z-of_z w128 _ f ∙ c.from-in-Message-Lengths.ensures ∙ ap pos c.total.ensures) (to_z-of_z w128 _ g ∙ c.from-in-Message-Lengths-2.ensures ∙ to_z-of_z w64 _ h)).0 c.if-from.true in
    let long = subst (λ ls. IsTrue c.are_long.result ↔ All (λ n. 1 ≤ n) ls.items) c.lengths.ensures c.are_long.ensures in
    told c.args.app.now _ _ _ _ c.are_long.result here.is-0 (sym (ap content_kept here.is-1) ∙ c.stock.ensures)
    ((λ t. (fits, long.0 t)), (λ w. long.1 w.1))

-- Ends that are listed twice: a turn of the loop that looks for one; and what is shown of guards in code, of those that
-- they mean.
use Rattle.std.proofs.Common.{◌≡◌, ◌<◌, ◌+◌, ◌-◌, ◌↔◌, ℕ, List, Bool, true, false, IsTrue, All, AllPairs, Any, map, drop, take, length, get_or, refl, sym, ap, ◌∙◌, subst, inl, inr, arith}
use Rattle.std.proofs.lemmas.Bool.{false≢true, cases_lt}
use Rattle.std.proofs.lemmas.List.{get_or-drop, get_or_default, get_or-map, length-drop, length-map, take_rest}
use Rattle.std.proofs.lemmas.List.Elements.{All-map}
use Rattle.fr_program.specs.Program.{Program}
use Rattle.fr_program.specs.declared.instr.End.{End}
use Rattle.fr_ends.specs.declared.ends.EndName.{EndName}
use Rattle.fr_ends.specs.declared.guard.EndGuard.{EndGuard}
use Rattle.fr_ends.specs.declared.guard.Guard.TheVariants as guard
use Rattle.fr_ends.specs.Guard as listed
use Rattle.fr_ends.specs.Fits.{EndFits, AreOfOneEnd}
use Rattle.fr_ends.specs.View.{end_of}

abbrev name_made : ℕ → End → EndName
name_made buffer end = record { buffer = record { 0 = buffer }; end = end }

-- a guard in code, for places past the end of a list
abbrev stand_in : listed.EndGuard → EndGuard
stand_in e = record { end = name_made e.buffer e.end; guard = guard.Critical }

-- a later guard is of the end of this one
abbrev Again : List EndGuard → ℕ → EndGuard → Bool → Type 0
Again xs i x r = IsTrue r ↔ Any (λ e. e.end ≡ x.end) (take (length xs - (i + 1)) (drop (i + 1) xs))

rest : (xs : List EndGuard) (i : ℕ) → take (length xs - (i + 1)) (drop (i + 1) xs) ≡ drop (i + 1) xs
rest xs i = take_rest xs (i + 1)

pub again : (xs : List EndGuard) (i : ℕ) (x : EndGuard) (r : Bool) → i < length xs → x ≡ get_or xs i x → Again xs i x r → r ≡ true
    → (IsTrue false → AllPairs (λ e f. e.end ≡ f.end → ⊥) xs) × (AllPairs (λ e f. e.end ≡ f.end → ⊥) xs → IsTrue false)
again xs i x r within is h found =
    let there = subst (Any (λ e. e.end ≡ x.end)) (rest xs i) (h.0 found) in
    let k = there.0 in
    let y = there.1 in
    let in_xs : i + 1 + k < length xs = omega (arith, there.2, length-drop (i + 1) xs, within) in
    let at : get_or xs (i + 1 + k) y ≡ y = sym (get_or-drop (i + 1) xs k y) ∙ there.3 in
    let first : get_or xs i y ≡ x = get_or_default xs i y x within ∙ sym is in (
      (λ t. absurd (false≢true t)),
      (λ apart. absurd (apart i (i + 1 + k) y (omega arith) in_xs (ap (λ e. e.end) first ∙ (sym there.4 ∙ ap (λ e. e.end) (sym at))))),
    )

pub apart_so_far : (xs : List EndGuard) (i : ℕ) (x : EndGuard) (r : Bool) → i < length xs → x ≡ get_or xs i x → Again xs i x r → r ≡ false
    → ((a b : ℕ) (d : EndGuard) → a < b → b < length xs → a < i → (get_or xs a d).end ≡ (get_or xs b d).end → ⊥)
    → (a b : ℕ) (d : EndGuard) → a < b → b < length xs → a < i + 1 → (get_or xs a d).end ≡ (get_or xs b d).end → ⊥
apart_so_far xs i x r within is h none before a b d less in_xs so_far same =
    elim (cases_lt a i) [
      | inl below ↦ before a b d less in_xs below same
      | inr from ↦ absurd (here (omega (arith, from, so_far)))
    ]
  where
    here : a ≡ i → ⊥
    here at =
        let k = b - (i + 1) in
        let place : i + 1 + k ≡ b = omega (arith, at, less) in
        let in_rest : k < length (drop (i + 1) xs) = omega (arith, length-drop (i + 1) xs, in_xs, at, less) in
        let y = get_or xs b d in
        let there : get_or (drop (i + 1) xs) k y ≡ y = get_or-drop (i + 1) xs k y ∙ (ap (λ n. get_or xs n y) place ∙ get_or_default xs b y d in_xs) in
        let first : get_or xs a d ≡ x = ap (λ n. get_or xs n d) at ∙ (get_or_default xs i d x within ∙ sym is) in
        false≢true (sym none ∙ h.1 (subst (Any (λ e. e.end ≡ x.end)) (sym (rest xs i)) (k, y, in_rest, there, sym same ∙ ap (λ e. e.end) first)))

-- ---- guards in code, and those that they mean

pub fit_to : (P : Program) (es : List EndGuard) → All (λ e. EndFits P (end_of e)) es → All (λ e. EndFits P e) (map end_of es)
fit_to P es h = All-map (EndFits P) end_of es h

pub fit_from : (P : Program) (es : List EndGuard) → All (λ e. EndFits P e) (map end_of es) → All (λ e. EndFits P (end_of e)) es
fit_from P es h k d within = subst (EndFits P) (get_or-map end_of es k d (end_of d) within) (h k (end_of d) (omega (arith, length-map es end_of, within)))

-- the ends are the same, where the numbers of the buffers are
pub name_same : (a b : EndName) → a.buffer.0 ≡ b.buffer.0 → a.end ≡ b.end → a ≡ b
name_same a b buffer end =
    let whole : name_made a.buffer.0 a.end ≡ name_made b.buffer.0 b.end = rw (buffer, end) refl in
    whole

pub apart_to : (es : List EndGuard) → AllPairs (λ e f. e.end ≡ f.end → ⊥) es → AllPairs (λ e f. AreOfOneEnd e f → ⊥) (map end_of es)
apart_to es h i j d less within same =
    let in_es : j < length es = omega (arith, within, length-map es end_of) in
    let one : get_or (map end_of es) i d ≡ end_of (get_or es i (stand_in d)) = get_or-map end_of es i (stand_in d) d (omega (arith, less, in_es)) in
    let other : get_or (map end_of es) j d ≡ end_of (get_or es j (stand_in d)) = get_or-map end_of es j (stand_in d) d in_es in
    h i j (stand_in d) less in_es (name_same (get_or es i (stand_in d)).end (get_or es j (stand_in d)).end
    (sym (ap (λ g. g.buffer) one) ∙ (same.0 ∙ ap (λ g. g.buffer) other)) (sym (ap (λ g. g.end) one) ∙ (same.1 ∙ ap (λ g. g.end) other)))

pub apart_from : (es : List EndGuard) → AllPairs (λ e f. AreOfOneEnd e f → ⊥) (map end_of es) → AllPairs (λ e f. e.end ≡ f.end → ⊥) es
apart_from es h i j d less within same =
    let one = get_or-map end_of es i d (end_of d) (omega (arith, less, within)) in
    let other = get_or-map end_of es j d (end_of d) within in
    h i j (end_of d) less (omega (arith, within, length-map es end_of))
    (ap (λ g. g.buffer) one ∙ (ap (λ n. n.buffer.0) same ∙ sym (ap (λ g. g.buffer) other)), ap (λ g. g.end) one ∙ (ap (λ n. n.end) same ∙ sym (ap (λ g. g.end) other)))

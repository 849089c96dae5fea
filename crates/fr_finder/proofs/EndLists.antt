-- One more guard in a list of guards, of an end that has none.
use Rattle.std.proofs.Common.{◌≡◌, ℕ, zero, suc, ◌<◌, List, [], ◌∷◌, ◌++◌, AllPairs, Any, length, get_or, map, refl, sym, ap, ◌∙◌, subst, inl, inr, arith}
use Rattle.std.proofs.Math.Seq.{get_or-append_seam}
use Rattle.std.proofs.Math.ListN.{get_or-append}
use Rattle.std.proofs.lemmas.Bool.{cases_lt}
use Rattle.std.proofs.lemmas.List.{length-append}
use Rattle.std.proofs.lemmas.List.Elements.{All-append}
use Rattle.fr_program.specs.Program.{Program}
use Rattle.fr_ends.specs.declared.guard.EndGuard.{EndGuard}
use Rattle.fr_ends.specs.Fits.{EndFits, EndsFit}
use Rattle.fr_ends.specs.View.{end_of}
use Rattle.fr_ends.proofs.TwiceLemmas.{fit_to, fit_from, apart_to, apart_from}
use Rattle.fr_finder.proofs.Items.{all-one}

-- whether two guards are of two ends
abbrev Apart : EndGuard → EndGuard → Type 0
Apart e f = e.end ≡ f.end → ⊥

apart-more : (es : List EndGuard) (g : EndGuard) → AllPairs Apart es → (Any (λ e. e.end ≡ g.end) es → ⊥) → AllPairs Apart (es ++ g ∷ [])
apart-more es g apart new i j d less within same =
    let first : get_or (es ++ g ∷ []) i d ≡ get_or es i d = get_or-append es (g ∷ []) d i (omega (arith, less, within, length-append es (g ∷ []))) in
    elim (cases_lt j (length es)) [
      | inl below ↦
          let second : get_or (es ++ g ∷ []) j d ≡ get_or es j d = get_or-append es (g ∷ []) d j below in
          apart i j d less below (ap (λ e. e.end) (sym first) ∙ (same ∙ ap (λ e. e.end) second))
      | inr from ↦
          let at : length es ≡ j = omega (arith, from, within, length-append es (g ∷ [])) in
          let second : get_or (es ++ g ∷ []) j d ≡ g = subst (λ k. get_or (es ++ g ∷ []) k d ≡ g) at (get_or-append_seam es g [] d) in
          let y = get_or es i d in
          let there : get_or es i y ≡ y = same-item es i y d (omega (arith, less, at)) in
          new (i, y, omega (arith, less, at), there, ap (λ e. e.end) (sym first) ∙ (same ∙ ap (λ e. e.end) second))
    ]
  where
    same-item : (xs : List EndGuard) (k : ℕ) (c d : EndGuard) → k < length xs → get_or xs k c ≡ get_or xs k d
    same-item [] k c d l = absurd (omega (arith, l))
    same-item (x ∷ xs) zero c d l = refl
    same-item (x ∷ xs) (suc k) c d l = same-item xs k c d (omega (arith, l))

-- the ends still fit with one more guard, of an end that has none
pub ends-push : (P : Program) (es : List EndGuard) (g : EndGuard) → EndsFit P (map end_of es) → EndFits P (end_of g) → (Any (λ e. e.end ≡ g.end) es → ⊥) → EndsFit P (map end_of (es ++ g ∷ []))
ends-push P es g fits one new = (
  fit_to P (es ++ g ∷ []) (All-append (λ e. EndFits P (end_of e)) es (g ∷ []) (fit_from P es fits.0) (all-one (λ e. EndFits P (end_of e)) g one)),
  apart_to (es ++ g ∷ []) (apart-more es g (apart_from es fits.1) new),
)

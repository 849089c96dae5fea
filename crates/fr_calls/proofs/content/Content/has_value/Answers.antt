-- A queue has a first value where its list isn't empty.
use Rattle.std.proofs.Common.{◌≡◌, ◌↔◌, ℕ, zero, suc, ℤ, List, [], ◌∷◌, IsTrue, Bool, true, false, sym, ap, ◌∙◌, length, arith}
use Rattle.std.specs.Prelude.{not, nat_eq}
use Rattle.std.proofs.lemmas.Bool.{ne_eqb}
use Rattle.fr_rules.specs.State.{Content, Values}
use Rattle.fr_calls.specs.View.{content_kept}
use Rattle.fr_calls.proofs.content.Content.has_value.Goals as goal

has-first : (c : Content) (vs : List ℤ) (n : ℕ) (b : Bool) → Values vs ≡ c → n ≡ length vs → b ≡ not (nat_eq n 0) → (IsTrue b ↔ ((v : ℤ) × (rest : List ℤ) × (c ≡ Values (v ∷ rest))))
has-first c [] zero b e f g = ((λ t. let h : false ≡ true = sym g ∙ t in cc), (λ k. let h : Values [] ≡ Values (k.0 ∷ k.1) = e ∙ k.2 in cc))
has-first c [] (suc n) b e f g = absurd (omega arith)
has-first c (v ∷ vs) zero b e f g = absurd (omega arith)
has-first c (v ∷ vs) (suc n) b e f g =
    ((λ t. (v, vs, sym e)), (λ k. g ∙ ap not (ne_eqb (suc n) 0 (λ h. absurd (omega (arith, h))))))

pub returns-in-Values : goal.returns-in-Values
returns-in-Values c =
    let values = c.in-Values.values in
    has-first c.args.self.now values.items values.len _ (sym (ap content_kept c.in-Values.is) ∙ c.self.view_is) values.ok.0 (ap not c.is_empty.ensures)

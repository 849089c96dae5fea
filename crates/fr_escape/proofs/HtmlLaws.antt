-- No character of what is written in HTML ends its text.
use Rattle.std.proofs.Common.{ℕ, List, ◌==◌, All, codes, chars, refl}
use Rattle.std.proofs.lemmas.Bool.{eqb-false}
use Rattle.fr_escape.specs.Markup.{IsHarmless}
use Rattle.fr_escape.specs.Html.{html, html_character}
use Rattle.fr_escape.proofs.MarkupLaws.{harmless_text}
use Rattle.fr_escape.proofs.WrittenLaws.{Every, Every-if, Every-nil, Every-cons, All-flat_map}

harmless_character : (c : ℕ) → Every IsHarmless (html_character c)
harmless_character c =
    Every-if (c == 38) _ _ (λ _. harmless_text (codes "&amp;") refl) (λ _.
    Every-if (c == 60) _ _ (λ _. harmless_text (codes "&lt;") refl) (λ less.
    Every-if (c == 62) _ _ (λ _. harmless_text (codes "&gt;") refl) (λ greater.
    Every-if (c == 34) _ _ (λ _. harmless_text (codes "&quot;") refl) (λ quote.
    Every-if (c == 39) _ _ (λ _. harmless_text (codes "&#39;") refl) (λ apostrophe.
    Every-cons c (eqb-false c 60 less, eqb-false c 62 greater, eqb-false c 34 quote, eqb-false c 39 apostrophe) Every-nil)))))

pub harmless_html : (text : List ℕ) → All IsHarmless (html text)
unfolding html
harmless_html text = All-flat_map IsHarmless html_character harmless_character (chars text)

-- No character of what is written in XML ends its text, and XML can have each.
use Rattle.std.proofs.Common.{◌≡◌, ℕ, ◌==◌, List, [], ◌∷◌, All, true, not, codes, chars, refl}
use Rattle.std.proofs.lemmas.Bool.{and_parts, not-true, eqb-false}
use Rattle.std.specs.List.{list_all}
use Rattle.fr_escape.specs.Markup.{IsHarmless}
use Rattle.fr_escape.specs.Xml.{xml, xml_character, is_replaced, IsAllowed}
use Rattle.fr_escape.proofs.MarkupLaws.{harmless_text}
use Rattle.fr_escape.proofs.WrittenLaws.{Every, Every-if, Every-nil, Every-cons, All-flat_map}

allowed_text : (text : List ℕ) → list_all (λ c. not (is_replaced c)) text ≡ true → Every IsAllowed text
allowed_text [] e = Every-nil
allowed_text (c ∷ cs) e =
    let parts = and_parts _ _ e in
    Every-cons c (not-true (is_replaced c) parts.0) (allowed_text cs parts.1)

harmless_character : (c : ℕ) → Every IsHarmless (xml_character c)
harmless_character c =
    Every-if (c == 38) _ _ (λ _. harmless_text (codes "&amp;") refl) (λ _.
    Every-if (c == 60) _ _ (λ _. harmless_text (codes "&lt;") refl) (λ less.
    Every-if (c == 62) _ _ (λ _. harmless_text (codes "&gt;") refl) (λ greater.
    Every-if (c == 34) _ _ (λ _. harmless_text (codes "&quot;") refl) (λ quote.
    Every-if (c == 39) _ _ (λ _. harmless_text (codes "&apos;") refl) (λ apostrophe.
    Every-if (c == 10) _ _ (λ _. harmless_text (codes "&#10;") refl) (λ _.
    Every-if (c == 9) _ _ (λ _. harmless_text (codes "&#9;") refl) (λ _.
    Every-if (is_replaced c) _ _ (λ _. harmless_text (0xFFFD ∷ []) refl) (λ _.
    Every-cons c (eqb-false c 60 less, eqb-false c 62 greater, eqb-false c 34 quote, eqb-false c 39 apostrophe) Every-nil))))))))

allowed_character : (c : ℕ) → Every IsAllowed (xml_character c)
allowed_character c =
    Every-if (c == 38) _ _ (λ _. allowed_text (codes "&amp;") refl) (λ _.
    Every-if (c == 60) _ _ (λ _. allowed_text (codes "&lt;") refl) (λ _.
    Every-if (c == 62) _ _ (λ _. allowed_text (codes "&gt;") refl) (λ _.
    Every-if (c == 34) _ _ (λ _. allowed_text (codes "&quot;") refl) (λ _.
    Every-if (c == 39) _ _ (λ _. allowed_text (codes "&apos;") refl) (λ _.
    Every-if (c == 10) _ _ (λ _. allowed_text (codes "&#10;") refl) (λ _.
    Every-if (c == 9) _ _ (λ _. allowed_text (codes "&#9;") refl) (λ _.
    Every-if (is_replaced c) _ _ (λ _. allowed_text (0xFFFD ∷ []) refl) (λ itself. Every-cons c itself Every-nil))))))))

pub harmless_xml : (text : List ℕ) → All IsHarmless (xml text)
unfolding xml
harmless_xml text = All-flat_map IsHarmless xml_character harmless_character (chars text)

pub allowed_xml : (text : List ℕ) → All IsAllowed (xml text)
unfolding xml
allowed_xml text = All-flat_map IsAllowed xml_character allowed_character (chars text)

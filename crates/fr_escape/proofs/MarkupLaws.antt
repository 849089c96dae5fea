-- Texts that are harmless in HTML and in XML.
use Rattle.std.proofs.Common.{◌≡◌, ℕ, List, [], ◌∷◌, ◌==◌, ◌&&◌, Bool, true, not}
use Rattle.std.proofs.lemmas.Bool.{and_parts, not-true, eqb-false}
use Rattle.std.specs.List.{list_all}
use Rattle.fr_escape.specs.Markup.{IsHarmless}
use Rattle.fr_escape.proofs.WrittenLaws.{Every, Every-nil, Every-cons}

-- a character that a test finds to be harmless, so that it computes for a text that is known
abbrev pub is_harmless : ℕ → Bool
is_harmless c = not (c == 60) && (not (c == 62) && (not (c == 34) && not (c == 39)))

pub IsHarmless-from_is_harmless : (c : ℕ) → is_harmless c ≡ true → IsHarmless c
IsHarmless-from_is_harmless c e =
    let less = and_parts _ _ e in
    let greater = and_parts _ _ less.1 in
    let quotes = and_parts _ _ greater.1 in (
      eqb-false c 60 (not-true _ less.0),
      eqb-false c 62 (not-true _ greater.0),
      eqb-false c 34 (not-true _ quotes.0),
      eqb-false c 39 (not-true _ quotes.1),
    )

pub harmless_text : (text : List ℕ) → list_all is_harmless text ≡ true → Every IsHarmless text
harmless_text [] e = Every-nil
harmless_text (c ∷ cs) e =
    let parts = and_parts _ _ e in
    Every-cons c (IsHarmless-from_is_harmless c parts.0) (harmless_text cs parts.1)

-- Each byte of what is written in a URI is one that it can have.
use Rattle.std.proofs.Common.{◌≡◌, ℕ, ◌+◌, ◌++◌, length, take, get_or, append-nil, ◌/◌, ◌%◌, ◌<◌, List, [], ◌∷◌, All, true, false, ap, ◌∙◌, arith, refl, inl, inr}
use Rattle.std.proofs.lemmas.Grind.{flat_map-append}
use Rattle.std.proofs.lemmas.List.{take_more}
use Rattle.std.proofs.lemmas.Bool.{agree_below_at, cond-false}
use Rattle.std.specs.Fmt.{digit_glyph}
use Rattle.fr_escape.specs.Uri.{stays, uri, uri_byte, IsUriByte}
use Rattle.fr_escape.proofs.WrittenLaws.{Every, Every-if, Every-nil, Every-cons, All-flat_map}

digit : (d : ℕ) → d < 16 → IsUriByte (digit_glyph true d)
digit d small = inl (agree_below_at (λ n. stays (digit_glyph true n)) (λ _. true) 16 d refl small)

escaped : (b : ℕ) → Every IsUriByte (37 ∷ digit_glyph true (b / 16 % 16) ∷ digit_glyph true (b % 16) ∷ [])
escaped b =
    Every-cons 37 (inr refl)
    (Every-cons _ (digit (b / 16 % 16) (omega arith)) (Every-cons _ (digit (b % 16) (omega arith)) Every-nil))

harmless_byte : (b : ℕ) → Every IsUriByte (uri_byte b)
harmless_byte b = Every-if (stays b) _ _ (λ kept. Every-cons b (inl kept) Every-nil) (λ _. escaped b)

pub harmless_uri : (path : List ℕ) → All IsUriByte (uri path)
unfolding uri
harmless_uri path = All-flat_map IsUriByte uri_byte harmless_byte path

pub uri_byte_escaped : (b : ℕ) → b < 256 → stays b ≡ false → uri_byte b ≡ 37 ∷ digit_glyph true (b / 16) ∷ digit_glyph true (b % 16) ∷ []
uri_byte_escaped b small escaped =
    let high : b / 16 % 16 ≡ b / 16 = omega arith in
    cond-false (stays b) _ _ escaped ∙ ap (λ d. 37 ∷ digit_glyph true d ∷ digit_glyph true (b % 16) ∷ []) high

-- the path with one byte more
pub uri_more : (path : List ℕ) (i : ℕ) → i < length path → uri (take (i + 1) path) ≡ uri (take i path) ++ uri_byte (get_or path i 0)
unfolding uri
uri_more path i within = rw (take_more path i 0 within, flat_map-append uri_byte (take i path) (get_or path i 0 ∷ [])) (simp append-nil)

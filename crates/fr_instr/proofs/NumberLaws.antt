-- Numbers and their one text.
use Rattle.std.proofs.Common.{◌≡◌, ℕ, ℤ, ◌+◌, ◌*◌, ◌/◌, ◌%◌, ◌<◌, ◌≤◌, ◌^◌, pos, negsuc, List, [], ◌∷◌, ◌++◌, length, take, get_or, ap, sym, ◌∙◌, arith}
use Rattle.std.proofs.lemmas.List.{take_more}
use Rattle.std.proofs.lemmas.Nat.{div-mul-add, mod-mul-add}
use Rattle.std.proofs.lemmas.Int.{ints}
use Rattle.std.proofs.lemmas.Fmt.{decimal_digit, decimal_step, signed_decimal_injective}
use Rattle.std.specs.Prelude.{FitsSigned}
use Rattle.std.specs.Int.{w64}
use Rattle.std.specs.Fmt.{decimal, signed_decimal}
use Rattle.fr_instr.specs.Numbers.{IsNatural}
use lib.Signed.{mag}

pub small : (z : ℤ) → FitsSigned w64 z → mag z < 2 ^ 63
small (pos n) h = omega (arith, ints)
small (negsuc n) h = omega (arith, ints)

pub natural_fits : (k : ℕ) → k < 2 ^ 32 → FitsSigned w64 (pos k)
natural_fits k h = omega (arith, ints)

-- a text is the text of one number at the most
pub only_number : (text : List ℕ) (n z : ℤ) → text ≡ signed_decimal n → FitsSigned w64 n → text ≡ signed_decimal z → FitsSigned w64 z → n ≡ z
only_number text n z e f g h = signed_decimal_injective n z (small n f) (small z h) (sym e ∙ g)

-- the text of a number out of the limits is the text of none within them
pub no_natural : (least most : ℕ) (text : List ℕ) (n : ℤ) → most < 2 ^ 32 → text ≡ signed_decimal n → FitsSigned w64 n → ((k : ℕ) → least ≤ k → k ≤ most → n ≡ pos k → ⊥) → (k : ℕ)
    → IsNatural least most text k → ⊥
no_natural least most text n wide e f out k h = out k h.1 h.2 (only_number text n (pos k) e f h.0 (let small : k < 2 ^ 32 = omega (arith, h.2) in natural_fits k small))

pub no_text : (least most : ℕ) (text : List ℕ) → most < 2 ^ 32 → ((z : ℤ) → FitsSigned w64 z → text ≡ signed_decimal z → ⊥) → (k : ℕ) → IsNatural least most text k → ⊥
no_text least most text wide none k h = none (pos k) (let small : k < 2 ^ 32 = omega (arith, h.2) in natural_fits k small) h.0

-- ---- the text of a number, digit by digit

pub more_digit : (n d : ℕ) → 1 ≤ n → n < 2 ^ 32 → d < 10 → decimal (n * 10 + d) ≡ decimal n ++ (48 + d) ∷ []
more_digit n d some small digit =
    let q : (n * 10 + d) / 10 ≡ n = div-mul-add n 10 d digit in
    let r : (n * 10 + d) % 10 ≡ d = mod-mul-add n 10 d digit in
    decimal_step (n * 10 + d) (omega (arith, some)) (omega (arith, small, digit)) ∙ ap (λ x. decimal x ++ (48 + (n * 10 + d) % 10) ∷ []) q ∙ ap (λ x. decimal n ++ (48 + x) ∷ []) r

-- the first i bytes are the text of n, which is 0 only where no byte follows
pub record Counted (text : List ℕ) (i n : ℕ) : Type 0 where
  pub front : take i text ≡ decimal n
  pub within : i ≤ length text
  pub some : i < length text → 1 ≤ n

pub counted_first : (text : List ℕ) (n : ℕ) → 0 < length text → n < 10 → get_or text 0 0 ≡ 48 + n → (1 < length text → 1 ≤ n) → Counted text 1 n
counted_first text n long digit first some =
    record { front = take_more text 0 0 long ∙ ap (λ x. x ∷ []) first ∙ sym (decimal_digit n digit); within = omega (arith, long); some = some }

pub counted_more : (text : List ℕ) (i n d : ℕ) → i < length text → n < 2 ^ 32 → d < 10 → get_or text i 0 ≡ 48 + d → Counted text i n → Counted text (i + 1) (n * 10 + d)
counted_more text i n d within small digit is h =
    let some : 1 ≤ n = h.some within in
    record {
      front = take_more text i 0 within ∙ ap (λ x. take i text ++ x ∷ []) is ∙ ap (λ x. x ++ (48 + d) ∷ []) h.front ∙ sym (more_digit n d some small digit);
      within = omega (arith, within);
      some = λ _. omega (arith, some);
    }

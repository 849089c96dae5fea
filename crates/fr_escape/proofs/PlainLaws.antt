-- No character of what is written on a terminal steers it.
use Rattle.std.proofs.Common.{◌≡◌, ℕ, ◌/◌, ◌%◌, ◌<◌, ◌≤◌, List, [], ◌∷◌, All, true, false, not, ◌||◌, nat_lt, chars, arith, refl}
use Rattle.std.proofs.lemmas.Bool.{agree_below_at, le-ltb, ltb-true, ltb-false, not-true}
use Rattle.std.proofs.lemmas.Bool.Decides.{nat_tests}
use Rattle.std.specs.Char.{digit_char}
use Rattle.std.specs.Char.Escape.{escape_default, escape_unicode, short_escape, hex_digit_at}
use Rattle.fr_escape.specs.Plain.{plain, plain_character, steers, IsPlain}
use Rattle.fr_escape.proofs.WrittenLaws.{Every, Every-if, Every-nil, Every-cons, All-flat_map}

-- what ASCII prints is plain
printing : (c : ℕ) → 32 ≤ c → c < 127 → IsPlain c
printing c low high =
    not-true (steers c) (rw (le-ltb c 32 low) at (agree_below_at (λ n. nat_lt n 32 || not (steers n)) (λ _. true) 127 c refl high))

digit : (p c : ℕ) → IsPlain (hex_digit_at p c)
digit p c = agree_below_at (λ d. steers (digit_char d)) (λ _. false) 16 (c / p % 16) refl (omega arith)

-- `\u{` in front
coded : {xs : List ℕ} → Every IsPlain xs → Every IsPlain (92 ∷ 117 ∷ 123 ∷ xs)
coded rest = Every-cons 92 refl (Every-cons 117 refl (Every-cons 123 refl rest))

-- a hex digit in front
more : (p c : ℕ) {xs : List ℕ} → Every IsPlain xs → Every IsPlain (hex_digit_at p c ∷ xs)
more p c rest = Every-cons (hex_digit_at p c) (digit p c) rest

-- the forms `\u{..}` with one digit up to six
harmless_unicode : (c : ℕ) → Every IsPlain (escape_unicode c)
harmless_unicode c =
    let last : Every IsPlain (125 ∷ []) = Every-cons 125 refl Every-nil in
    let one = more 1 c last in
    let two = more 0x10 c one in
    let three = more 0x100 c two in
    let four = more 0x1000 c three in
    let five = more 0x1_0000 c four in
    let six = more 0x10_0000 c five in
    Every-if (nat_lt c 0x10) _ _ (λ _. coded one) (λ _.
    Every-if (nat_lt c 0x100) _ _ (λ _. coded two) (λ _.
    Every-if (nat_lt c 0x1000) _ _ (λ _. coded three) (λ _.
    Every-if (nat_lt c 0x1_0000) _ _ (λ _. coded four) (λ _.
    Every-if (nat_lt c 0x10_0000) _ _ (λ _. coded five) (λ _. coded six)))))

-- the letter of a short form
short : (c : ℕ) → nat_lt 0 (short_escape c) ≡ true → IsPlain (short_escape c)
short c some = printing (short_escape c) (grind (arith, nat_tests)) (grind (arith, nat_tests))

harmless_escape : (c : ℕ) → Every IsPlain (escape_default c)
harmless_escape c =
    Every-if (nat_lt 0 (short_escape c)) _ _ (λ some. Every-cons 92 refl (Every-cons (short_escape c) (short c some) Every-nil)) (λ _.
    Every-if (nat_lt c 32) _ _ (λ _. harmless_unicode c) (λ low.
    Every-if (nat_lt c 127) _ _ (λ high. Every-cons c (printing c (ltb-false c 32 low) (ltb-true c 127 high)) Every-nil) (λ _. harmless_unicode c)))

harmless_character : (c : ℕ) → Every IsPlain (plain_character c)
harmless_character c = Every-if (steers c) _ _ (λ _. harmless_escape c) (λ itself. Every-cons c itself Every-nil)

pub harmless_plain : (text : List ℕ) → All IsPlain (plain text)
unfolding plain
harmless_plain text = All-flat_map IsPlain plain_character harmless_character (chars text)

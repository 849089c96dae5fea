-- No character of what is written in JSON steers, but for ASCII's own.
use Rattle.std.proofs.Common.{◌≡◌, ◌+◌, ◌/◌, ◌%◌, ◌<◌, ◌≤◌, ℕ, List, ◌∷◌, All, Bool, true, false, ◌&&◌, inl, inr, nat_lt, chars, arith, refl}
use Rattle.std.specs.Prelude.{if◌then◌else◌}
use Rattle.std.proofs.lemmas.Bool.{ltb-false}
use Rattle.fr_escape.specs.AsJson.{as_json, hex_digit, json_character, unicode_escape, IsSteady}
use Rattle.fr_escape.specs.Plain.{steers}
use Rattle.fr_escape.proofs.WrittenLaws.{Every, Every-if, Every-nil, Every-cons, All-flat_map}

low : (b : Bool) (m : ℕ) → m < 16 → (if b then 48 + m else 87 + m) ≤ 126
low true m h = omega (arith, h)
low false m h = omega (arith, h)

digit : (n : ℕ) {xs : List ℕ} → Every IsSteady xs → Every IsSteady (hex_digit n ∷ xs)
digit n rest = Every-cons (hex_digit n) (inl (low (nat_lt (n % 16) 10) (n % 16) (omega arith))) rest

escape : (c : ℕ) → Every IsSteady (unicode_escape c)
escape c = Every-cons 92 (inl (omega arith)) (Every-cons 117 (inl (omega arith)) (digit (c / 4096) (digit (c / 256) (digit (c / 16) (digit c Every-nil)))))

second : (b s : Bool) → b ≡ true → (b && s) ≡ false → s ≡ false
second true s e h = h
second false s e h = let no : ⊥ = cc in absurd no

kept : (c : ℕ) (b : Bool) → nat_lt 126 c ≡ b → (nat_lt 126 c && steers c) ≡ false → IsSteady c
kept c true e h = inr (second (nat_lt 126 c) (steers c) e h)
kept c false e h = inl (ltb-false 126 c e)

harmless_character : (c : ℕ) → Every IsSteady (json_character c)
harmless_character c = Every-if (nat_lt 126 c && steers c) _ _ (λ _. escape c) (λ h. Every-cons c (kept c (nat_lt 126 c) refl h) Every-nil)

pub harmless_json : (text : List ℕ) → All IsSteady (as_json text)
unfolding as_json
harmless_json text = All-flat_map IsSteady json_character harmless_character (chars text)

-- The table of the bytes that words are made of says what their definition says.
use Rattle.std.proofs.Common.{◌≡◌, ℕ, ◌+◌, ◌<◌, arith, eqb, Bool, false, map, get_or, refl, sym, ap, ◌∙◌}
use Rattle.std.specs.Prelude.{not}
use Rattle.std.specs.List.{range_with_len}
use Rattle.std.proofs.lemmas.List.FromFn.{get_or-map-range_with_len}
use Rattle.fr_instr.specs.Tokens.{is_word_byte}
use Rattle.fr_instr.specs.declared.token.TheConstants.{IN_WORDS}

abbrev pub in_table : ℕ → Bool
in_table b = not (eqb (get_or IN_WORDS b 0) 46)

all_same : map in_table (range_with_len 0 128) ≡ map is_word_byte (range_with_len 0 128)
all_same = refl

pub table_same : (b : ℕ) → b < 128 → in_table b ≡ is_word_byte b
table_same b h =
    let same : 0 + b ≡ b = omega arith in
    let here : (f : ℕ → Bool) → get_or (map f (range_with_len 0 128)) b false ≡ f b = λ f. get_or-map-range_with_len f 0 128 b b false h same in
    sym (here in_table) ∙ ap (λ l. get_or l b false) all_same ∙ here is_word_byte

-- Numbers in a line: each has one text, with no leading zero and no `-0`, and each place has its limits.
use Rattle.std.specs.Prelude.{◌≡◌, ◌≤◌, ℕ, ℤ, pos, List}
use Rattle.std.specs.Fmt.{signed_decimal}
use Rattle.fr_program.specs.Limits.{IsNumber, most_ticks, most_size}

-- the text is the one way to write the number, which has 64 bits with a sign
abbrev pub IsInteger : List ℕ → ℤ → Type 0
IsInteger text z = (text ≡ signed_decimal z) × IsNumber z

-- the text is the one way to write the number, which is within these limits
abbrev pub IsNatural : ℕ → ℕ → List ℕ → ℕ → Type 0
IsNatural least most text n = (text ≡ signed_decimal (pos n)) × (least ≤ n) × (n ≤ most)

-- the greatest number of an instruction
abbrev pub most_target : ℕ
most_target = 2147483647

-- a target, which is an instruction's number
abbrev pub IsTarget : List ℕ → ℕ → Type 0
IsTarget text k = IsNatural 0 most_target text k

-- a block time or a delay
abbrev pub IsTicks : List ℕ → ℕ → Type 0
IsTicks text n = IsNatural 0 most_ticks text n

-- a length of a buffer call, which is at least 1
abbrev pub IsLength : List ℕ → ℕ → Type 0
IsLength text n = IsNatural 1 most_size text n

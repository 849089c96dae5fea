-- The ranges of a note that fits have ends of 64 bits.
use Rattle.std.proofs.Common.{◌<◌, ◌≤ℤ◌, ℤ, pos, List, All, length, map, subst, sym, arith}
use Rattle.fr_cert.proofs.Terms.{ints, get_or_default, get_or-map, length-map, Range, Program, IsNumber, VariableInLimits, no_variable, variable_at, IsInLimits, Alternative, AlternativeFits, ends_of}
use Rattle.fr_cert.proofs.Terms.{HasNumbers}

-- both ends are numbers
abbrev pub AreNumbers : ℤ × ℤ → Type 0
AreNumbers r = IsNumber r.0 × IsNumber r.1

between : (lo a b hi : ℤ) → IsNumber lo → IsNumber hi → lo ≤ℤ a → a ≤ℤ b → b ≤ℤ hi → IsNumber a × IsNumber b
between lo a b hi low high p q r = (omega (arith, ints, low, high, p, q, r), omega (arith, ints, low, high, p, q, r))

pub fit_numbers : (P : Program) (n : Alternative) → IsInLimits P → AlternativeFits P n → All AreNumbers n.ranges
fit_numbers P n limits fits k d within =
    let in_variables : k < length P.variables = omega (arith, within, fits.ranges.0) in
    let v : VariableInLimits (variable_at P k) = limits.variables k no_variable in_variables in
    let inside = fits.ranges.1 k in
    subst AreNumbers (sym (get_or_default n.ranges k d (pos 0, pos 0) within)) (between _ _ _ _ v.lo v.hi inside.0 (fits.order k) inside.1)

pub all_numbers : (ranges : List Range) → All AreNumbers (map ends_of ranges) → All HasNumbers ranges
all_numbers ranges h k d within =
    subst AreNumbers (get_or-map ends_of ranges k d (ends_of d) within) (h k (ends_of d) (omega (arith, length-map ranges ends_of, within)))

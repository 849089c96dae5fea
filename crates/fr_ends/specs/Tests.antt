-- For private clauses: the tests that show whether the values of a turn fit, over the entries of their map.
use Rattle.std.specs.Prelude.{ℕ, ℤ, pos, negsuc, List, Bool, ◌||◌, ◌&&◌, not, nat_eq, nat_lt}
use Rattle.std.specs.List.{list_all}
use Rattle.std.specs.Int.Signed.{le_z}
use Rattle.std.specs.Ordering.{int_eq}
use Rattle.fr_program.specs.declared.ids.ActorId.{ActorId}

-- the value has 64 bits, with a sign
abbrev pub is_number : ℤ → Bool
is_number z = le_z (negsuc 9223372036854775807) z && le_z z (pos 9223372036854775807)

-- the actor's number is below this one, and its value is such a number
abbrev pub is_turn_value : ℕ → ActorId × ℤ → Bool
is_turn_value count v = nat_lt v.0.0 count && is_number v.1

-- so it is with each of them
abbrev pub are_turn_values : ℕ → List (ActorId × ℤ) → Bool
are_turn_values count values = list_all (is_turn_value count) values

-- no actor but this one has the value
abbrev pub is_value_of : List (ActorId × ℤ) → ℕ → ℤ → Bool
is_value_of values actor value = list_all (λ v. not (int_eq v.1 value) || nat_eq v.0.0 actor) values

-- each of these actors has its value alone among those
abbrev pub are_distinct : List (ActorId × ℤ) → List (ActorId × ℤ) → Bool
are_distinct values others = list_all (λ v. is_value_of others v.0.0 v.1) values

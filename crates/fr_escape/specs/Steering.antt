-- Characters that steer what shows a text.
use Rattle.std.specs.Prelude.{ℕ, Bool, ◌==◌, ◌||◌}
use Rattle.std.specs.Int.{is_in_range}

-- the character sets the direction in which a text is read: Unicode's property Bidi_Control
abbrev pub sets_direction : ℕ → Bool
sets_direction c = c == 0x61C || is_in_range 0x200E 0x200F c || is_in_range 0x202A 0x202E c || is_in_range 0x2066 0x2069 c

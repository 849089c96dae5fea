-- none of the paths so far is it
use Rattle.std.specs.Prelude.{◌≡◌, ◌<◌, ℕ, map, get_or, string_bytes}
use Rattle.fr_trial.proofs.memory.is_among.Given as goal

abbrev pub invariant-loop-other : goal.invariant-loop-other
invariant-loop-other l = (k : ℕ) → k < l.other-index → get_or (map string_bytes l.paths) k l.path ≡ l.path → ⊥

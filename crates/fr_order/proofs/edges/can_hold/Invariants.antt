use Rattle.std.proofs.Common.{◌≡◌, ◌<◌, ℕ, get_or}
use Rattle.fr_order.proofs.Terms.{HeldTimes, Alternative, claim_of}
use Rattle.fr_order.proofs.edges.can_hold.Given as goal

-- no alternative so far says that the mutex is held
abbrev pub invariant-loop-alternative : goal.invariant-loop-alternative
invariant-loop-alternative l = (k : ℕ) (d : Alternative) → k < l.alternative-index → (count : ℕ) → claim_of (get_or l.alternative-items k d) l.mutex.0 ≡ HeldTimes count → ⊥

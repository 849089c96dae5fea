use Rattle.std.proofs.Common.{◌≡◌, ℕ, ◌<◌, get_or}
use Rattle.fr_interfere.proofs.Terms.{Alternative, Effect, Covers}
use Rattle.fr_interfere.proofs.hull.Hull.cover_note.Given as goal

-- the hull covers the alternatives so far, and what it covered; its actor and its variable are as they were
abbrev pub invariant-loop-alternative : goal.invariant-loop-alternative
invariant-loop-alternative l = record {
  actor : l.self.actor ≡ l.fn.self.actor;
  variable : l.self.variable ≡ l.fn.self.variable;
  covers : (k : ℕ) (d : Alternative) → k < l.alternative-index → Covers l.self l.effect (get_or l.alternative-items k d);
  keeps : (e : Effect) (m : Alternative) → Covers l.fn.self e m → Covers l.self e m;
}

use Rattle.std.specs.Prelude.{IsTrue}
use Rattle.fr_notes.proofs.Terms.{AllWithin, is_live_said}
use Rattle.fr_notes.proofs.checks.check_lives.Given as goal

-- no dead object so far is said to be live or held
abbrev pub invariant-loop-object : goal.invariant-loop-object
invariant-loop-object l = AllWithin (λ o. IsTrue (is_live_said l.parts o.0) → ⊥) l.parts.dead.items 0 l.object-index

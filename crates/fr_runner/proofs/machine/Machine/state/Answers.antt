-- A state that keeps the notes of a certified application has no breach.
use Rattle.std.proofs.Common.{ℕ, subst}
use Rattle.fr_rules.specs.declared.rules.Rule.{Rule}
use Rattle.fr_rules.specs.Rule.{Breach}
use Rattle.fr_runner.proofs.machine.Machine.state.Goals as goal

pub returns-clause-safe : goal.returns-clause-safe
returns-clause-safe c =
    let inside = c.self.inside in
    subst (λ m. (rule : Rule) (a : ℕ) → Breach m.approved.app m.state rule a → ⊥) c.self.view_is
    (c.notes_exclude_breaches.ensures inside.passed.now.app inside.passed.now.certificate c.recall_certified.ensures.certified inside.state c.self.invariant.notes)

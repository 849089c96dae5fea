-- Yes: each alternative brings one that it is stronger than. No: a state in which the one that brings none holds.
use Rattle.fr_notes.proofs.ImplicationLemmas.{on_true_weaker, on_false_weaker, implies-from_each, implies-not}
use Rattle.fr_notes.proofs.implication.implies.Goals as goal

pub returns-clause-yes : goal.returns-clause-yes
returns-clause-yes c =
    on_true_weaker c.imply_each.result (λ each P f g. implies-from_each P c.args.note.now c.args.other.now (rw (← c.alternatives.ensures, ← c.alternatives-2.ensures) each)) c.imply_each.ensures.yes

pub returns-clause-no : goal.returns-clause-no
returns-clause-no c =
    on_false_weaker c.imply_each.result (λ some P free f g plain a l. implies-not P free c.args.note.now c.args.other.now f g plain a l (rw (← c.alternatives.ensures, ← c.alternatives-2.ensures) some)) c.imply_each.ensures.no

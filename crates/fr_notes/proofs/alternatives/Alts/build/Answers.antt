use Rattle.std.proofs.Common.{◌≡◌, ◌≤◌, ◌++◌, length, ap, subst, ◌∙◌}
use Rattle.fr_notes.proofs.Terms.{joined}
use Rattle.fr_notes.proofs.AlternativesLemmas.{joined_fits}
use Rattle.fr_notes.proofs.alternatives.Alts.build.Goals as goal

pub returns-in-Ok-clause-fits : goal.returns-in-Ok-clause-fits
returns-in-Ok-clause-fits c P h =
    let notes = c.args.notes.items in
    let few : length (joined notes) ≤ 4 = subst (λ xs. length (joined xs) ≤ 4) c.deref-2.ensures.value (c.are_few.ensures.0 c.if-not-are_few.false) in
    let all : c.of.result ≡ joined notes = c.of.ensures ∙ (c.join.ensures ∙ ap (λ xs. xs ++ joined notes) c.in-Ok.ensures.items) in
    joined_fits P notes c.of.result all few h

-- The alternative that the parts say fits, since none of the three faults is in them.
use Rattle.std.proofs.Common.{subst, arith}
use Rattle.fr_notes.proofs.Terms.{common_steps, AlternativeFits}
use Rattle.fr_notes.proofs.PartsLemmas.{said-fits}
use Rattle.fr_notes.proofs.note.Alternative.build.Goals as goal

pub returns-clause-fits : goal.returns-clause-fits
returns-clause-fits c =
    let P = c.args.app.now in
    let fits = said-fits P c.args.parts c.recall_faultless.ensures (omega arith) (omega arith) c.in_ok-check_note.ensures.counts c.in_ok-check_note.ensures.spans in
    subst (AlternativeFits P) (grind (arith, common_steps)) fits

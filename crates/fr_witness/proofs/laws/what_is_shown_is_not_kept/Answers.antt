-- The law is the lemma.
use Rattle.fr_witness.proofs.Refuted.{shown-not-kept}
use Rattle.fr_witness.proofs.laws.what_is_shown_is_not_kept.Goals as goal

pub returns : goal.returns
returns c = shown-not-kept

use Rattle.fr_notes.proofs.KnownUses.{goes-from, goes-to, undisturbed-both}
use Rattle.fr_notes.proofs.known.known_steps_decide.Goals as goal

pub returns : goal.returns
returns c = (goes-from, goes-to, undisturbed-both)

-- Each clause is proved row by row.
use Rattle.fr_worked.proofs.WorkedNotes.{worked-claims, worked-together}
use Rattle.fr_worked.proofs.notes.notes_as_worked.Goals as goal

pub returns : goal.returns
returns c = record { claims = worked-claims; together = worked-together }

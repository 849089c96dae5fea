use Rattle.fr_cert.proofs.ReadLemmas.{none_read}
use Rattle.fr_cert.proofs.notes.NotesRead.none.Goals as goal

pub returns : goal.returns
returns c = λ P version. rw (c.new.ensures.items, c.new-2.ensures.items, c.new-3.ensures.items) (none_read P version)

use Rattle.fr_notes.proofs.PlaceLemmas.{at-place}
use Rattle.fr_notes.proofs.notes.placed_note.Goals as goal

pub bounds-notes-place : goal.bounds-notes-place
bounds-notes-place c = c.requires.places c.args.number 0 c.requires.number

pub returns : goal.returns
returns c =
    at-place c.args.notes.now c.args.places.now c.args.number c.index-notes-place.result c.requires.number (c.requires.places c.args.number 0 c.requires.number) c.index-notes-place.is

use Rattle.std.proofs.Common.{◌≡◌, length, rules}
use Rattle.fr_cert.proofs.ReadLemmas.{last_at, note_more}
use Rattle.fr_cert.proofs.notes.NotesRead.add.Goals as goal

pub returns-clause-place : goal.returns-clause-place
returns-clause-place c =
    let notes = c.args.self.now.notes.items in
    let many : c.len-place.result ≡ length notes = search rules in
    rw c.in_ok-push.ensures.items (last_at c.args.scope.now c.args.version notes c.in_ok-note.note c.args.value c.len-place.result many c.in_ok-note.ensures.ok)

pub returns-clause-read : goal.returns-clause-read
returns-clause-read c = λ entries before.
    let P = c.args.scope.now in
    let r = c.args.self.now in
    let note = c.in_ok-note.note in
    let many : c.len-place.result ≡ length r.notes.items = search rules in
    let there = last_at P c.args.version r.notes.items note c.args.value c.len-place.result many c.in_ok-note.ensures.ok in
    rw (c.in_ok-push.ensures.items, c.in_ok-push-2.ensures.items)
    (note_more P c.args.version entries r.notes.items r.places.items r.recent.items c.make_room.new.recent.items note c.args.value c.len-place.result (λ ns. c.make_room.ensures P c.args.version ns) c.in_ok-note.ensures.fits there before)

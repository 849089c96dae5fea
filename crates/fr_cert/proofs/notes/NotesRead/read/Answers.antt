use Rattle.std.proofs.Common.{◌≡◌, Any, subst}
use Rattle.fr_cert.proofs.Terms.{view}
use Rattle.fr_cert.proofs.ReadLemmas.{remembered_at, entry_more}
use Rattle.fr_cert.proofs.notes.NotesRead.read.Goals as goal

pub returns-in-Some-clause-read : goal.returns-in-Some-clause-read
returns-in-Some-clause-read c = λ entries before.
    let P = c.args.scope.now in
    let r = c.args.self.now in
    let found = subst (λ es. Any (λ e. (view e.0 ≡ view c.args.value) × (e.1 ≡ c.in-Some.place)) es) c.deref.ensures.value c.in-Some.ensures in
    let at = remembered_at P c.args.version r.notes.items r.recent.items c.args.value c.in-Some.place found before.remembered in
    rw c.in_ok-push.ensures.items (entry_more P c.args.version entries r.notes.items r.places.items r.recent.items c.args.value c.in-Some.place at before)

pub returns-clause-read : goal.returns-clause-read
returns-clause-read c = λ entries before.
    let r = c.add.new.self in
    rw c.in_ok-push-2.ensures.items (entry_more c.args.scope.now c.args.version entries r.notes.items r.places.items r.recent.items c.args.value c.in_ok-place.place c.in_ok-place.ensures.place (c.in_ok-place.ensures.read entries before))

use Rattle.std.proofs.Common.{◌<◌, ◌∙◌, [], length, get_or, ap, arith}
use Rattle.fr_notes.proofs.Terms.{get_or_default, length-map}
use Rattle.fr_notes.proofs.PlaceLemmas.{each-own, each-placed, theirs}
use Rattle.fr_notes.proofs.notes.Notes.note.Goals as goal

pub index-requires : goal.index-requires
index-requires c =
    let n = c.self.inside in
    let many = ap length (each-own n.notes.items c.args.self.now n.places c.in-None.is c.self.view_is) in
    omega (arith, many, n.notes.ok.0, c.requires)

pub returns-in-None : goal.returns-in-None
returns-in-None c =
    let n = c.self.inside in
    let all = each-own n.notes.items c.args.self.now n.places c.in-None.is c.self.view_is in
    let within : c.args.number < length n.notes.items = omega (arith, ap length all, c.requires) in
    c.index.ensures ∙ (get_or_default n.notes.items c.args.number c.index.result.now [] within ∙ ap (λ xs. get_or xs c.args.number []) all)

pub placed_note-requires-clause-places : goal.placed_note-requires-clause-places
placed_note-requires-clause-places c =
    let n = c.self.inside in
    rw (c.deref.ensures.value, c.deref-in-Some.ensures.value) (theirs n.notes.items n.places c.in-Some.places c.in-Some.is c.self.invariant)

pub placed_note-requires-clause-number : goal.placed_note-requires-clause-number
placed_note-requires-clause-number c =
    let n = c.self.inside in
    let many = ap length (each-placed n.notes.items c.args.self.now n.places c.in-Some.places c.in-Some.is c.self.view_is) in
    omega (arith, many, ap length c.deref-in-Some.ensures.value, length-map c.in-Some.places.items (λ k. get_or n.notes.items k []), c.requires)

pub returns-in-Some : goal.returns-in-Some
returns-in-Some c =
    let n = c.self.inside in
    let all = each-placed n.notes.items c.args.self.now n.places c.in-Some.places c.in-Some.is c.self.view_is in
    rw (← all, ← c.deref.ensures.value, ← c.deref-in-Some.ensures.value) c.placed_note.ensures

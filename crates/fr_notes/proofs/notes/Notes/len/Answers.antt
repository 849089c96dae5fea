use Rattle.std.proofs.Common.{◌≡◌, [], length, get_or, sym, ap, ◌∙◌, rules}
use Rattle.fr_notes.proofs.Terms.{length-map}
use Rattle.fr_notes.proofs.PlaceLemmas.{each-own, each-placed}
use Rattle.fr_notes.proofs.notes.Notes.len.Goals as goal

pub returns-in-None : goal.returns-in-None
returns-in-None c =
    let n = c.self.inside in
    let size : c.len.result ≡ length n.notes.items = search rules in
    size ∙ ap length (each-own n.notes.items c.args.self.now n.places c.in-None.is c.self.view_is)

pub returns-in-Some : goal.returns-in-Some
returns-in-Some c =
    let n = c.self.inside in
    let places = c.in-Some.places in
    let size : c.len-in-Some.result ≡ length places.items = search rules in
    size ∙ (sym (length-map places.items (λ k. get_or n.notes.items k [])) ∙ ap length (each-placed n.notes.items c.args.self.now n.places places c.in-Some.is c.self.view_is))

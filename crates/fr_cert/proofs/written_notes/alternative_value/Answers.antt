use Rattle.std.proofs.Common.{◌≡◌, ◌∙◌, ap, rules}
use Rattle.fr_cert.proofs.Terms.{number, unsigned, no_members, array, object, members_view, view-Array, view-Object}
use Rattle.fr_cert.proofs.WrittenLemmas.{six_keys}
use Rattle.fr_cert.proofs.written_notes.alternative_value.Goals as goal

pub returns : goal.returns
returns c =
    let none : members_view c.new-note.result.entries ≡ no_members = search rules in
    view-Object c.add_field-6.new.note
    ∙ six_keys c.args.app.now c.args.alternative.now _ _ _ _ _ _ _ _ _ _ _ _ _
    none c.in_ok-add_field.ensures c.in_ok-add_field-2.ensures c.in_ok-add_field-3.ensures c.in_ok-add_field-4.ensures c.in_ok-add_field-5.ensures c.in_ok-add_field-6.ensures
    (c.from.ensures ∙ ap (λ n. number (unsigned n)) c.suspended.ensures) (c.from-2.ensures ∙ ap (λ n. number (unsigned n)) c.critical.ensures)
    (view-Object c.in_ok-range.range ∙ ap object c.in_ok-range.ensures) (view-Object c.in_ok-held.held ∙ ap object c.in_ok-held.ensures)
    (view-Array c.in_ok-live.live ∙ ap array c.in_ok-live.ensures) (view-Array c.in_ok-dead.dead ∙ ap array c.in_ok-dead.ensures)

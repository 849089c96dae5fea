use Rattle.std.proofs.Common.{◌≡◌, ◌∙◌, ap, refl, rules}
use Rattle.fr_cert.proofs.Terms.{array, number, unsigned, no_members, view, members_view, Array, view-Array, view-Object, each_tree, note_tree, end_tree, version_of}
use Rattle.fr_cert.specs.declared.key.Key.TheVariants as key
use Rattle.fr_cert.specs.Written.{cert_tree}
use Rattle.fr_cert.proofs.WrittenLemmas.{three_keys}
use Rattle.fr_cert.proofs.writing.cert_value.Goals as goal

pub returns : goal.returns
unfolding cert_tree
returns c =
    let P = c.args.app.now in
    let C = c.args.certificate.now in
    let none : members_view c.new-object.result.entries ≡ no_members = search rules in
    let ends : view (Array c.in_ok-ends.ends) ≡ array (each_tree (end_tree P) C.ends) = view-Array c.in_ok-ends.ends ∙ ap array (c.in_ok-ends.ensures ∙ ap (λ D. each_tree (end_tree P) D.ends) c.certificate.view_is) in
    let notes : view (Array c.in_ok-notes.notes) ≡ array (each_tree (note_tree P) C.notes) = view-Array c.in_ok-notes.notes ∙ ap array (c.in_ok-notes.ensures ∙ ap (λ D. each_tree (note_tree P) D.notes) c.certificate.view_is) in
    let version : view c.from.result ≡ number (unsigned (version_of C.notes)) = c.from.ensures ∙ ap (λ n. number (unsigned n)) (c.version_of-version.ensures ∙ ap (λ D. version_of D.notes) c.certificate.view_is) in
    view-Object c.put-3.new.map
    ∙ three_keys key.Ends key.Notes key.Version c.text.result.now c.text-2.result.now c.text-3.result.now (view (Array c.in_ok-ends.ends)) (view (Array c.in_ok-notes.notes)) (view c.from.result) _ _ _
    (members_view c.new-object.result.entries) (members_view c.put.new.map.entries) (members_view c.put-2.new.map.entries) (members_view c.put-3.new.map.entries) refl refl refl
    c.in_ok-put.ensures.ok c.in_ok-put-2.ensures.ok c.in_ok-put-3.ensures.ok none c.text.ensures c.text-2.ensures c.text-3.ensures ends notes version

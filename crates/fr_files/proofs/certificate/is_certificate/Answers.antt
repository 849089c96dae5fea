use Rattle.std.proofs.Common.{◌≡◌, true, false, sym, ap, ◌∙◌}
use Rattle.std.specs.Option.{option_map_or}
use Rattle.serde_json.specs.View.{view}
use Rattle.fr_files.specs.Replaced.{has_form, is_certificate}
use Rattle.fr_files.proofs.TreeLemmas.{tree_read, tree_unread}
use Rattle.fr_files.proofs.certificate.is_certificate.Goals as goal

pub returns-in-Ok : goal.returns-in-Ok
unfolding is_certificate
returns-in-Ok c =
    let is = tree_read c.args.bytes.now (view c.in-Ok.tree) c.in-Ok.ensures.ok.0 c.in-Ok.ensures.ok.1 in
    c.has_form.ensures ∙ ap (λ o. option_map_or has_form o false) (sym is)

pub returns-in-Err-2 : goal.returns-in-Err-2
unfolding is_certificate
returns-in-Err-2 c =
    let none = tree_unread c.args.bytes.now (c.in-Err.ensures.err (λ memory. let bad : true ≡ false = sym (c.is_memory.ensures.1 memory) ∙ c.if-is_memory.false in cc)) in
    ap (λ o. option_map_or has_form o false) (sym none)

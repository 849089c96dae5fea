use Rattle.std.proofs.Common.{◌==◌, false, ap, sym, ◌∙◌}
use Rattle.std.specs.Option.{option_map_or}
use Rattle.serde_json.specs.Events.{members_len}
use Rattle.serde_json.proofs.Views.{members_len-members_view}
use Rattle.fr_files.proofs.certificate.has_members.Goals as goal

pub returns-in-Some : goal.returns-in-Some
returns-in-Some c =
    ap (λ n. n == 3) (c.len.ensures.len ∙ sym (members_len-members_view c.in-Some.members.now.entries))
    ∙ ap (λ o. option_map_or (λ ms. members_len ms == 3) o false) c.in-Some.ensures

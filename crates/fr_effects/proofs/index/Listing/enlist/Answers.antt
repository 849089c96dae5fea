use Rattle.std.proofs.Common.{sym, ap, ◌∙◌, Some}
use Rattle.fr_effects.proofs.Terms.{enlisted}
use Rattle.fr_effects.proofs.IndexLaws.{enlist-told}
use Rattle.fr_effects.proofs.index.Listing.enlist.Goals as goal

pub returns-in_ok-push : goal.returns-in_ok-push
returns-in_ok-push c =
    enlist-told (λ list. list.items) c.self.inside.lists.items c.in-Some.place c.in-Some-get_mut.list.now c.push.new.self c.args.number
    c.in-Some-get_mut.ensures.value c.in_ok-push.ensures.items
    ∙ ap (λ lists. enlisted lists (Some c.in-Some.place) c.args.number) c.self.view_is
    ∙ ap (λ place. enlisted c.args.self.now place c.args.number) (sym c.in-Some.is)

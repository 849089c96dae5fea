use Rattle.std.proofs.Common.{◌≤◌, length}
use Rattle.std.proofs.lemmas.List.Elements.{All-map}
use Rattle.fr_program.specs.Limits.{most_instructions}
use Rattle.fr_program.specs.View.{actor_of}
use Rattle.fr_program.proofs.ListLemmas.{All-unmapped}
use Rattle.fr_program.proofs.check.limits.is_small.Goals as goal

pub returns-then-are_lists_small : goal.returns-then-are_lists_small
returns-then-are_lists_small c =
    let actors = c.args.parts.now.actors.items in
    let lists = c.are_lists_small.ensures.0 c.if-are_lists_small.true in (
      λ short. record {
        actors = lists.0;
        variables = lists.1;
        objects = lists.2;
        code = All-map (λ a. length a.code ≤ most_instructions) actor_of actors (rw (← c.deref.ensures.value) (c.are_codes_small.ensures.0 short));
      },
      λ small. c.are_codes_small.ensures.1 (rw c.deref.ensures.value (All-unmapped (λ a. length a.code ≤ most_instructions) actor_of actors small.code)),
    )

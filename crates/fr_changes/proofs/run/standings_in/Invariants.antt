use Rattle.std.proofs.Common.{◌≡◌, map, take}
use Rattle.std.specs.Prelude.{All}
use Rattle.fr_changes.specs.Explained.{IsIn}
use Rattle.fr_changes.proofs.run.standings_in.Given as goal

-- where the actors so far are
abbrev pub invariant-loop-actor : goal.invariant-loop-actor
invariant-loop-actor l = record {
  actors : map (λ s. s.actor) l.lasts.items ≡ take l.actor-index l.actors;
  places : All (IsIn l.app l.state) l.lasts.items;
}

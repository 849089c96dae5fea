-- Where a step leaves its actor, as the code says it: for the public contract of `lands_at`.
use Rattle.fr_program.specs.declared.ids.ActorId.{ActorId}
use Rattle.fr_rules.specs.declared.way.Landing.{Landing}
use Rattle.fr_rules.specs.declared.way.Landing.TheVariants.{At as LandsAt, Done as LandsNowhere}
use Rattle.fr_rules.specs.State.{Place, At, Done}

-- the landing of this actor at a place: the point there, or nowhere where it is done
abbrev pub landing_of : ActorId → Place → Landing
landing_of actor (At pc side) = LandsAt (record { actor = actor; pc = pc; side = side })
landing_of actor Done = LandsNowhere

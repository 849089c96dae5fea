-- The places that the code keeps stand for those of the state, also with one of them changed.
use Rattle.std.proofs.Common.{ap, ◌∙◌}
use Rattle.std.proofs.lemmas.List.{map-set}
use Rattle.fr_calls.specs.View.{placed, state_of}
use Rattle.fr_rules.specs.State.{goes_to}
use Rattle.fr_calls.proofs.state.State.go_to.Goals as goal

pub returns : goal.returns
returns c =
    let s = c.self.inside in
    ap (λ ps. record (state_of s) { places = ps }) (map-set placed s.places.items c.args.actor.0 c.args.place)
    ∙ ap (goes_to c.args.actor.0 (placed c.args.place)) c.self.view_is

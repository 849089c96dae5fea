use Rattle.std.proofs.Common.{◌≡◌, ◌++◌, take, flat_map}
use Rattle.fr_formats.specs.Json.{step_tokens}
use Rattle.fr_formats.proofs.as_json.put_steps.Given as goal

abbrev pub invariant-loop-step : goal.invariant-loop-step
invariant-loop-step l = l.out.tokens ≡ l.initial.out.tokens ++ flat_map step_tokens (take l.step-index l.steps)

use Rattle.std.proofs.Common.{◌≡◌, ◌∷◌, ◌++◌, map, take}
use Rattle.fr_cert.proofs.Terms.{HasWritten, IsPlainFormatter, PathStep, step_of, step_text, more_text}
use Rattle.fr_cert.proofs.path.PathDisplay.fmt.Given as goal

abbrev pub invariant-loop-step : goal.invariant-loop-step
invariant-loop-step g l =
    IsPlainFormatter l.fn.f
    → (first : PathStep) × (l.fn.self ≡ first ∷ map step_of l.rest)
    × HasWritten g.W.Write.write_str_gives l.fn.f (step_text first ++ more_text (map step_of (take l.step-index l.rest))) l.f

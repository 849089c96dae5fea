use Rattle.std.proofs.Common.{◌≡◌, take}
use Rattle.fr_calls.proofs.state.arrangement.copy_contents.Given as goal

-- the contents so far are the others so far
abbrev pub invariant-loop-content : goal.invariant-loop-content
invariant-loop-content l = l.contents.items ≡ take l.content-index l.others

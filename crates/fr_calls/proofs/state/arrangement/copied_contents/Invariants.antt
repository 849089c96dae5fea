use Rattle.std.proofs.Common.{◌≡◌, take}
use Rattle.fr_calls.proofs.state.arrangement.copied_contents.Given as goal

-- the copies so far are the contents so far
abbrev pub invariant-loop-content : goal.invariant-loop-content
invariant-loop-content l = l.copies.items ≡ take l.content-index l.contents

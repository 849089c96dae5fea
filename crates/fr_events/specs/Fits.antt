-- Which calls of the code fit a call that a trace shows.
--
-- | word   | meaning                                                                          |
-- |--------|----------------------------------------------------------------------------------|
-- | IsSo   | what the trace says of a thing is so, or isn't recorded                          |
-- | IsTime | so it is of a block time                                                         |
-- | Agrees | the object and the numbers of a call are those that the trace shows               |
-- | Fits   | the call has the same name, object and numbers, where they are recorded          |
use Rattle.std.specs.Prelude.{◌≡◌, ⊤, pos}
use Rattle.fr_program.specs.declared.instr.BlockTime.{BlockTime}
use Rattle.fr_program.specs.declared.instr.BlockTime.TheVariants as block_time
use Rattle.fr_program.specs.declared.instr.Call.{Call}
use Rattle.fr_instr.specs.Calls.{verb_of, given_of}
use Rattle.fr_instr.specs.declared.given.Given.{Given}
use Rattle.fr_events.specs.declared.recorded.Recorded.{Recorded}
use Rattle.fr_events.specs.declared.recorded.Recorded.TheVariants.{Unknown, Known}
use Rattle.fr_events.specs.declared.seen_call.SeenCall.{SeenCall}
use Rattle.fr_events.specs.declared.seen_call.SeenTime.{SeenTime}
use Rattle.fr_events.specs.declared.seen_call.SeenTime.TheVariants.{Ticks, MaxDelay}

-- what the trace says of a thing is so, or isn't recorded
abbrev pub IsSo : {A : Type 0} → Recorded A → A → Type 0
IsSo Unknown a = ⊤
IsSo (Known b) a = b ≡ a

-- the block time that the trace says is this one, or isn't recorded
abbrev pub IsTime : Recorded SeenTime → BlockTime → Type 0
IsTime Unknown time = ⊤
IsTime (Known MaxDelay) block_time.MaxDelay = ⊤
IsTime (Known (Ticks z)) (block_time.Ticks n) = z ≡ pos n
IsTime (Known seen) time = ⊥

-- what the line of a call gives is what the trace shows: the same object and numbers, where they are recorded
pub record Agrees (given : Given) (seen : SeenCall) : Type 0 where
  pub object : IsSo seen.object given.object
  pub length : IsSo seen.length (pos given.bytes)
  pub time : IsTime seen.time given.time
  pub ticks : IsSo seen.ticks (pos given.ticks)

-- the call has the same name as the one that the trace shows, and its line gives what the trace shows
pub record Fits (call : Call) (seen : SeenCall) : Type 0 where
  pub same : verb_of call ≡ seen.verb
  pub given : Agrees (given_of call) seen

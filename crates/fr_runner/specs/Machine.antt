-- What a machine is: an application that has passed, the words, the entries so far with the state after them, the polls
-- that it began with, and how many of them are left. Both words are for public contracts: those of `Machine` speak of a
-- `MachineOf`, and every machine is one that `IsRunning`.
--
-- | word           | meaning                                                                                  |
-- |----------------|------------------------------------------------------------------------------------------|
-- | MachineOf      | a machine as the contracts see it                                                        |
-- | IsRunning      | its entries replay from the start to its state, which keeps the notes, and with the      |
-- |                | polls left they are as many as the polls that it began with                              |
use Rattle.std.specs.Prelude.{◌≡◌, ◌+◌, ℕ, List, length}
use Rattle.fr_rules.specs.State.{State, start}
use Rattle.fr_judge.specs.Approved.{Approved}
use Rattle.fr_judge.specs.Sound.{KeepsNotes}
use Rattle.fr_runner.specs.Trace.{Entry, Replays}

-- a machine
pub record MachineOf : Type 0 where
  -- the application that has passed, with its certificate
  pub approved : Approved
  pub words : List ℕ
  pub entries : List Entry
  -- the state after the entries
  pub state : State
  -- the polls that it began with
  pub polls : ℕ
  -- the polls that it still has
  pub left : ℕ

-- the entries replay from the start to the state, the note of each actor that isn't done holds of it there, and each poll
-- that it began with has given an entry or is left
pub record IsRunning (m : MachineOf) : Type 0 where
  pub replays : Replays m.approved.app m.words 0 (start m.approved.app) m.entries m.state
  pub notes : KeepsNotes m.approved.app m.approved.certificate m.state
  pub count : length m.entries + m.left ≡ m.polls

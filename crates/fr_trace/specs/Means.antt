-- What the bytes of a trace mean for an application with these names. The form is this project's own.
--
-- | word       | meaning                                                                                    |
-- |------------|--------------------------------------------------------------------------------------------|
-- | TraceOf    | what a trace says                                                                          |
-- | said_in    | what a value of the program says                                                           |
-- | beginning  | where a trace may begin anywhere, events are lost before the first one                     |
-- | trace_of   | what is said at the end of the text                                                        |
-- | IsText     | bytes that can be a trace: not too many, and UTF-8                                         |
-- | TraceMeans | the bytes mean this trace                                                                  |
-- | IsPresent  | the fault is in these bytes                                                                |
use Rattle.std.specs.Prelude.{◌≡◌, ◌<◌, ◌≤◌, ◌⊎◌, ◌++◌, ⊤, ℕ, Bool, true, false, List, [], ◌∷◌, length, IsUtf8}
use Rattle.std.specs.Str.Lines.{lines}
use Rattle.fr_instr.specs.Names.{NamesOf}
use Rattle.fr_instr.specs.declared.call.Verb.{Verb}
use Rattle.fr_trace.specs.Reads.{IsTextWhy, ReadsLines, Sofar, start}
use Rattle.fr_trace.specs.declared.no_trace.NoTrace.{NoTrace}
use Rattle.fr_trace.specs.declared.no_trace.NoTrace.TheVariants.{Memory, TooLong, NotText, Faulty, NotListed}
use Rattle.fr_trace.specs.declared.no_trace.TraceFault.TheVariants.{Version}
use Rattle.fr_events.specs.declared.trace.Event.{Event}
use Rattle.fr_events.specs.declared.trace.Trace.{Trace}

-- what a trace says
pub record TraceOf : Type 0 where
  pub events : List Event
  pub unseen : List Verb
  pub lost : List ℕ
  pub ignored : ℕ

-- what a value of the program says
abbrev pub said_in : Trace → TraceOf
said_in t = record { events = t.events.items; unseen = t.unseen.items; lost = t.lost.items; ignored = t.ignored }

-- where a trace may begin anywhere, events are lost before the first one
abbrev pub beginning : Bool → List ℕ
beginning true = 0 ∷ []
beginning false = []

-- what is said at the end of the text
abbrev pub trace_of : Sofar → TraceOf
trace_of s = record { events = s.events; unseen = s.unseen; lost = beginning s.anywhere ++ s.lost; ignored = s.ignored }

-- bytes that can be a trace: not too many, and UTF-8
abbrev pub IsText : List ℕ → Type 0
IsText bytes = (length bytes ≤ 67_108_864) × IsUtf8 bytes

-- the bytes mean this trace, which may begin anywhere or doesn't: their lines are read one after another, from where no actor is inside a
-- call
pub record TraceMeans (N : NamesOf) (anywhere : Bool) (bytes : List ℕ) (trace : TraceOf) : Type 0 where
  pub text : IsText bytes
  pub some : 0 < length bytes
  pub last : Sofar
  pub reads : ReadsLines N 0 (lines bytes) (start anywhere (length N.actors)) last
  pub is : trace ≡ trace_of last

-- the fault is in these bytes; a refused allocation isn't theirs
abbrev pub IsPresent : NamesOf → Bool → List ℕ → NoTrace → Type 0
IsPresent N anywhere bytes Memory = ⊤
IsPresent N anywhere bytes TooLong = 67_108_864 < length bytes
IsPresent N anywhere bytes NotText = (length bytes ≤ 67_108_864) × (¬ (IsUtf8 bytes))
IsPresent N anywhere bytes (Faulty number column fault) =
    IsText bytes × (((length bytes ≡ 0) × (number ≡ 1) × (column ≡ 1) × (fault ≡ Version)) ⊎ IsTextWhy N anywhere (lines bytes) (Faulty number column fault))
IsPresent N anywhere bytes (NotListed unlisted) = IsText bytes × IsTextWhy N anywhere (lines bytes) (NotListed unlisted)

-- What is answered of a trace.
--
-- | word            | meaning                                                                            |
-- |-----------------|------------------------------------------------------------------------------------|
-- | untimed, IsUntimed | a call, an event, a trace without block times and ticks                         |
-- | IsAsked         | the trace as it is followed: where that is asked, without block times              |
-- | followed_kind   | the kind of the answer: followed where a run explains the trace, to its end or to what was lost |
-- | event_number, event_words | the number of an event, from 1; which one of all it is                    |
-- | followed_head, followed_event, followed_end | how the answer's line begins, which event it names, how it ends |
-- | IsWholeRefused, IsLineRefused, IsRefusedAs | what is said of bytes that are no trace                    |
use Rattle.std.specs.Prelude.{◌≡◌, ◌+◌, ◌++◌, ℕ, Bool, true, false, List, [], Option, None, Some, codes, decimal, length, map, min, string_bytes}
use Rattle.fr_program.specs.Program.{Program}
use Rattle.fr_program.specs.Lookup.{actor_at}
use Rattle.fr_rules.specs.Rule.{number_of}
use Rattle.fr_wording.specs.Names.{rule_text}
use Rattle.fr_events.specs.declared.recorded.Recorded.TheVariants.{Unknown}
use Rattle.fr_events.specs.declared.seen_call.SeenCall.{SeenCall}
use Rattle.fr_events.specs.declared.trace.Event.{Event}
use Rattle.fr_events.specs.declared.trace.Happening.{Happening}
use Rattle.fr_events.specs.declared.trace.Happening.TheVariants.{Enter}
use Rattle.fr_events.specs.declared.trace.Trace.{Trace}
use Rattle.fr_formats.specs.declared.answer.AnswerKind.{AnswerKind}
use Rattle.fr_formats.specs.declared.answer.AnswerKind.TheVariants.{Followed as FollowedKind, FollowedApart, NotFollowed, Breach, GaveUp as GaveUpKind}
use Rattle.fr_trace.specs.declared.no_trace.NoTrace.{NoTrace}
use Rattle.fr_trace.specs.declared.no_trace.NoTrace.TheVariants.{Faulty, NotText, TooLong}
use Rattle.fr_trail.specs.declared.answer.NoAnswer.{NoAnswer}
use Rattle.fr_trail.specs.declared.answer.NoAnswer.TheVariants.{Refused}
use Rattle.fr_explained.specs.declared.followed.Followed.{Followed}
use Rattle.fr_explained.specs.declared.followed.Followed.TheVariants.{Whole, UpToLost, Strays, Stops, Breaks, GaveUp}

-- the same without block times
abbrev pub untimed_call : SeenCall → SeenCall
untimed_call seen = record { verb = seen.verb; object = seen.object; value = seen.value; length = seen.length; time = Unknown; ticks = Unknown }

abbrev pub untimed_what : Happening → Happening
untimed_what (Enter seen) = Enter (untimed_call seen)
untimed_what what = what

abbrev pub untimed : Event → Event
untimed event = record { actor = event.actor; line = event.line; what = untimed_what event.what }

-- the trace is the other one with all block times unknown
pub record IsUntimed (e u : Trace) : Type 0 where
  pub events : u.events.items ≡ map untimed e.events.items
  pub unseen : u.unseen.items ≡ e.unseen.items
  pub lost : u.lost.items ≡ e.lost.items
  pub ignored : u.ignored ≡ e.ignored

-- the trace as it is followed
abbrev pub IsAsked : Bool → Trace → Trace → Type 0
IsAsked true e u = IsUntimed e u
IsAsked false e u = u ≡ e

-- followed where a run explains the whole trace; or, where that is the kind, up to the first events that were lost
abbrev pub followed_kind : Followed → AnswerKind
followed_kind (Whole run) = FollowedKind
followed_kind (UpToLost event run) = FollowedApart
followed_kind (Strays event run) = NotFollowed
followed_kind (Stops event run proved) = NotFollowed
followed_kind (Breaks event rule actor run) = Breach
followed_kind (GaveUp event) = GaveUpKind

-- the number of an event, from 1, by that from 0; it has 64 bits
abbrev pub event_number : ℕ → ℕ
event_number event = min (event + 1) 18446744073709551615

-- which one of all events it is
abbrev pub event_words : Trace → ℕ → List ℕ
event_words e event = decimal (event_number event) ++ (codes " of " ++ decimal (length e.events.items))

-- how the answer's line begins
abbrev pub followed_head : Program → Trace → Followed → List ℕ
followed_head P e (Whole run) = codes "followed: " ++ (decimal (length e.events.items) ++ codes " events")
followed_head P e (UpToLost event run) = codes "followed: " ++ (decimal (length e.events.items) ++ codes " events, each actor by itself")
followed_head P e (Strays event run) = codes "not followed: event "
followed_head P e (Stops event run proved) = codes "not followed: event "
followed_head P e (Breaks event rule actor run) =
    codes "breach: rule " ++ (decimal (number_of rule) ++ (codes ": " ++ (rule_text rule ++ (codes ": " ++ (actor_at P actor.0).name))))
followed_head P e (GaveUp event) = codes "gave up: more than "

-- which event it names after that
abbrev pub followed_event : Trace → Followed → List ℕ
followed_event e (Strays event run) = event_words e event
followed_event e (Stops event run proved) = event_words e event
followed_event e (Breaks event rule actor run) = codes ", at event " ++ event_words e event
followed_event e f = []

-- how it ends: without these words no run explains the event that is named; and after which event the search gave up
abbrev pub followed_end : Followed → List ℕ
followed_end (Stops event run false) = codes " (as far as the search saw)"
followed_end (GaveUp event) = codes " states after event " ++ decimal event
followed_end f = []

-- the whole text is refused in these words
abbrev pub IsWholeRefused : List ℕ → NoAnswer → Type 0
IsWholeRefused words (Refused text line place) = (string_bytes text ≡ words) × (line ≡ None)
IsWholeRefused words answer = ⊥

-- this line of the text is at fault, from this column on
abbrev pub IsLineRefused : ℕ → ℕ → NoAnswer → Type 0
IsLineRefused number column (Refused text line place) =
    (rest : List ℕ) × (string_bytes text ≡ codes "refused: trace line " ++ (decimal number ++ (codes ", column " ++ (decimal column ++ (codes ": " ++ rest))))) × (line ≡ Some number)
IsLineRefused number column answer = ⊥

-- it is refused for this
abbrev pub IsRefusedAs : NoTrace → NoAnswer → Type 0
IsRefusedAs TooLong answer = IsWholeRefused (codes "refused: trace 1 TooLong") answer
IsRefusedAs NotText answer = IsWholeRefused (codes "refused: trace 2 NotText") answer
IsRefusedAs (Faulty line column fault) answer = IsLineRefused line column answer
IsRefusedAs why answer = ⊥

-- What the lines of a trace mean for an application, one after another.
--
-- | word               | meaning                                                                                          |
-- |--------------------|--------------------------------------------------------------------------------------------------|
-- | Sofar              | what is read so far                                                                              |
-- | start              | nothing is read: no actor is inside a call                                                       |
-- | is_open            | the actor is inside a call                                                                       |
-- | marked, opened     | whether an actor is inside a call, from now on; the same by what it does                         |
-- | after              | what is read with what a line adds                                                               |
-- | IsEnterOf, IsEnter | the event at which the actor begins a call                                                       |
-- | Returned           | what a return adds: an event, or nothing where its enter is missing                               |
-- | HasReturned        | the same, with the tokens of the line                                                            |
-- | HasSet             | the event at which the actor has set a variable                                                  |
-- | OwnDoes            | what a line of an actor that is listed adds                                                      |
-- | is_touched         | the line names an object or sets a variable that the application lists                           |
-- | Does               | what a line adds                                                                                 |
-- | call_named         | the call that a token names                                                                      |
-- | Hides              | what is read with the calls of a header                                                          |
-- | LineReads          | what is read with a line                                                                         |
-- | ReadsLines         | what is read with lines, the first of which has this number, from 0                              |
-- | is_strange_call    | a call that no line of the application can be: by its name, its object or whom it deletes        |
-- | is_strange         | a line with something that the application doesn't list                                          |
use Rattle.std.specs.Prelude.{◌≡◌, ◌+◌, ◌<◌, ◌==◌, ◌⊎◌, ⊤, ℕ, ℤ, List, [], ◌∷◌, ◌++◌, length, map, Any, Bool, true, false, IsTrue, not, cond, Option, Some, None, option_map, codes, is_none, is_some, replicate, slice_index_or, slice_set}
use Rattle.std.specs.List.{list_any}
use Rattle.std.specs.Str.{bytes_eq}
use Rattle.fr_program.specs.declared.ids.ActorId.{ActorId}
use Rattle.fr_program.specs.declared.ids.VarId.{VarId}
use Rattle.fr_instr.specs.Calls.{Row, row_named}
use Rattle.fr_instr.specs.Lines.{IsVariable}
use Rattle.fr_instr.specs.Names.{NamesOf, place_of}
use Rattle.fr_instr.specs.Numbers.{IsInteger}
use Rattle.fr_instr.specs.Tokens.{Tok, word, number, sign, Spells}
use Rattle.fr_instr.specs.declared.call.Slot.{Slot}
use Rattle.fr_instr.specs.declared.call.Slot.TheVariants.{Object, Null}
use Rattle.fr_instr.specs.declared.call.Verb.{Verb}
use Rattle.fr_trace.specs.Args.{IsNumber, PutsAll, unseen_parts}
use Rattle.fr_trace.specs.Said.{Said, nothing, unseen, lost, enter, returns, sets, begins, ends, begins_comment, said_by}
use Rattle.fr_trace.specs.declared.no_trace.NoTrace.{NoTrace}
use Rattle.fr_trace.specs.declared.no_trace.NoTrace.TheVariants as no_trace
use Rattle.fr_trace.specs.declared.effect.Addition.{Addition}
use Rattle.fr_trace.specs.declared.effect.Addition.TheVariants.{Nothing, Add, Lose, Ignore}
use Rattle.fr_events.specs.declared.recorded.Recorded.{Recorded}
use Rattle.fr_events.specs.declared.seen_call.SeenCall.{SeenCall}
use Rattle.fr_trace.specs.declared.stop.Stop.{Stop}
use Rattle.fr_trace.specs.declared.stop.Stop.TheVariants.{Memory, NotListed, Wrong}
use Rattle.fr_events.specs.declared.trace.Event.{Event}
use Rattle.fr_events.specs.declared.trace.Happening.{Happening}
use Rattle.fr_events.specs.declared.trace.Happening.TheVariants.{Enter, Return, Set, Begin, End}

-- what is read so far: whether the trace may begin anywhere, the events, the calls that aren't recorded, how many events are before each
-- `lost`, how many were ignored, and for each actor whether it is inside a call
pub record Sofar : Type 0 where
  pub anywhere : Bool
  pub events : List Event
  pub unseen : List Verb
  pub lost : List ℕ
  pub ignored : ℕ
  pub inside : List Bool

-- the actor is inside a call
abbrev pub is_open : Sofar → ActorId → Bool
is_open s a = slice_index_or s.inside a.0 false

-- nothing is read, and none of so many actors is inside a call
abbrev pub start : Bool → ℕ → Sofar
start anywhere actors = record { anywhere = anywhere; events = []; unseen = []; lost = []; ignored = 0; inside = replicate actors false }

-- whether this actor is inside a call is so from now on
abbrev pub marked : ActorId → Bool → Sofar → Sofar
marked a now s = record s { inside = slice_set s.inside a.0 now }

-- who is inside a call after the actor does this
abbrev pub opened : Happening → ActorId → Sofar → Sofar
opened (Enter call) a s = marked a true s
opened (Return result value) a s = marked a false s
opened what a s = s

-- what is read with what a line adds
abbrev pub after : Addition → Sofar → Sofar
after Nothing s = s
after (Add event) s = opened event.what event.actor (record s { events = s.events ++ event ∷ [] })
after Lose s = record s { lost = s.lost ++ length s.events ∷ []; inside = replicate (length s.inside) false }
after Ignore s = record s { ignored = s.ignored + 1 }

-- ---- what a line adds

-- the event at which the actor begins this call, with these tokens after its bracket: the call isn't one that the header
-- names, and the actor is inside none
pub record IsEnterOf (N : NamesOf) (n : ℕ) (s : Sofar) (a : ActorId) (verb : Verb) (places : List Slot) (ts : List Tok) (event : Event) : Type 0 where
  pub seen : SeenCall
  pub args : PutsAll N places ts (unseen_parts verb) seen
  pub shown : ¬ (Any (λ v. v ≡ verb) s.unseen)
  pub outside : is_open s a ≡ false
  pub is : event ≡ record { actor = a; line = n; what = Enter seen }

-- so it is of the call of this name
abbrev pub IsEnter : NamesOf → ℕ → Sofar → ActorId → List ℕ → List Tok → Event → Type 0
IsEnter N n s a k ts event = (row : Row) × (row_named k ≡ Some row) × IsEnterOf N n s a row.verb row.places ts event

-- events may be missing before this: some were lost, or the trace may begin anywhere
abbrev pub MayMiss : Sofar → Type 0
MayMiss s = IsTrue s.anywhere ⊎ (0 < length s.lost)

-- an actor that is inside a call ends it; for one that isn't, the enter must be missing, and the return adds nothing
abbrev pub Returned : ℕ → Sofar → ActorId → Recorded ℤ → Recorded ℤ → Bool → Addition → Type 0
Returned n s a result value true e = e ≡ Add (record { actor = a; line = n; what = Return result value })
Returned n s a result value false e = MayMiss s × (e ≡ Nothing)

-- what a return of an actor adds, with these tokens as its result and its value
abbrev pub HasReturned : ℕ → Sofar → ActorId → Tok → Tok → Addition → Type 0
HasReturned n s a t u e = (r : Recorded ℤ) × (v : Recorded ℤ) × IsNumber t r × IsNumber u v × Returned n s a r v (is_open s a) e

-- the event at which the actor has set this variable to this number
abbrev pub HasSet : NamesOf → ℕ → ActorId → List ℕ → List ℕ → Addition → Type 0
HasSet N n a x d e = (v : VarId) × (z : ℤ) × IsVariable N x v × IsInteger d z × (e ≡ Add (record { actor = a; line = n; what = Set v z }))

-- what a line of an actor that is listed adds
abbrev pub OwnDoes : NamesOf → ℕ → Sofar → ActorId → Said → Addition → Type 0
OwnDoes N n s a (enter w k ts) e = (event : Event) × IsEnter N n s a k ts event × (e ≡ Add event)
OwnDoes N n s a (returns w t u) e = HasReturned n s a t u e
OwnDoes N n s a (sets w x d) e = HasSet N n a x d e
OwnDoes N n s a (begins w) e = e ≡ Add (record { actor = a; line = n; what = Begin })
OwnDoes N n s a (ends w) e = e ≡ Add (record { actor = a; line = n; what = End })
OwnDoes N n s a said e = ⊥

-- the token is the name of an object
abbrev pub is_object_name : NamesOf → Tok → Bool
is_object_name N (word w) = is_some (place_of N.objects w)
is_object_name N (number d) = false
is_object_name N (sign s) = false

-- the line names an object or sets a variable that the application lists
abbrev pub is_touched : NamesOf → Said → Bool
is_touched N (enter w k ts) = list_any (is_object_name N) ts
is_touched N (sets w x d) = is_some (place_of N.variables x)
is_touched N said = false

-- what a line of the actor with this number adds, if the application lists it
abbrev pub ActorDoes : NamesOf → ℕ → Sofar → Option ℕ → Said → Addition → Type 0
ActorDoes N n s (Some a) said e = OwnDoes N n s (record { 0 = a }) said e
ActorDoes N n s None said e = (is_touched N said ≡ false) × (e ≡ Ignore)

-- what a line other than a header adds
abbrev pub Does : NamesOf → ℕ → Sofar → Said → Addition → Type 0
Does N n s nothing e = e ≡ Nothing
Does N n s (unseen ts) e = ⊥
Does N n s lost e = e ≡ Lose
Does N n s (enter w k ts) e = ActorDoes N n s (place_of N.actors w) (enter w k ts) e
Does N n s (returns w t u) e = ActorDoes N n s (place_of N.actors w) (returns w t u) e
Does N n s (sets w x d) e = ActorDoes N n s (place_of N.actors w) (sets w x d) e
Does N n s (begins w) e = ActorDoes N n s (place_of N.actors w) (begins w) e
Does N n s (ends w) e = ActorDoes N n s (place_of N.actors w) (ends w) e

-- ---- the header

-- the call that the token names
abbrev pub call_named : Tok → Option Verb
call_named (word k) = option_map (λ r. r.verb) (row_named k)
call_named (number d) = None
call_named (sign s) = None

-- the tokens name these calls, in order
abbrev pub AreCalls : List Tok → List Verb → Type 0
AreCalls ts vs = map call_named ts ≡ map Some vs

-- before any event, the calls that the tokens name are added to those that aren't recorded
abbrev pub Hides : Sofar → List Tok → Sofar → Type 0
Hides s ts t = (s.events ≡ []) × (s.lost ≡ []) × (vs : List Verb) × AreCalls ts vs × (t ≡ record s { unseen = s.unseen ++ vs })

-- ---- lines

-- what is read with a line that says this; n is its number, from 1
abbrev pub SaidReads : NamesOf → ℕ → Said → Sofar → Sofar → Type 0
SaidReads N n (unseen ts) s t = Hides s ts t
SaidReads N n said s t = (e : Addition) × Does N n s said e × (t ≡ after e s)

-- what is read with a line of these tokens
abbrev pub TokensRead : NamesOf → ℕ → List Tok → Sofar → Sofar → Type 0
TokensRead N n ts s t = (said : Said) × (said_by ts ≡ Some said) × SaidReads N n said s t

-- what is read with a line; a comment adds nothing
abbrev pub LineReads : NamesOf → ℕ → List ℕ → Sofar → Sofar → Type 0
LineReads N n line s t = cond (begins_comment line) (t ≡ s) ((ts : List Tok) × Spells line ts × TokensRead N n ts s t)

-- ---- what the application doesn't list

-- a call that no line of the application can be, by its first place: its object isn't listed, or it deletes another task
abbrev pub is_strange_place : NamesOf → List Slot → List Tok → Bool
is_strange_place N (Object ∷ ps) (word w ∷ ts) = is_none (place_of N.objects w)
is_strange_place N (Null ∷ ps) (word w ∷ ts) = not (bytes_eq w (codes "NULL"))
is_strange_place N ps ts = false

-- the same by its row, if it has one: no line has another call
abbrev pub is_strange_call : NamesOf → Option Row → List Tok → Bool
is_strange_call N None ts = true
is_strange_call N (Some row) ts = is_strange_place N row.places ts

-- so it is of a line of the actor with this number, if the application lists it
abbrev pub is_strange_by : NamesOf → Option ℕ → Said → Bool
is_strange_by N None said = is_touched N said
is_strange_by N (Some a) (enter w k ts) = is_strange_call N (row_named k) ts
is_strange_by N (Some a) said = false

-- a line with something that the application doesn't list
abbrev pub is_strange : NamesOf → Said → Bool
is_strange N (enter w k ts) = is_strange_by N (place_of N.actors w) (enter w k ts)
is_strange N (returns w t u) = is_strange_by N (place_of N.actors w) (returns w t u)
is_strange N (sets w x d) = is_strange_by N (place_of N.actors w) (sets w x d)
is_strange N (begins w) = is_strange_by N (place_of N.actors w) (begins w)
is_strange N (ends w) = is_strange_by N (place_of N.actors w) (ends w)
is_strange N said = false

-- For private clauses: why a line isn't read. It has something that the application doesn't list; or it doesn't, and adds
-- nothing of this kind. A refused allocation isn't the line's
abbrev pub IsWhy : Stop → Bool → Type 0 → Type 0
IsWhy Memory strange Adds = ⊤
IsWhy (NotListed unlisted) strange Adds = strange ≡ true
IsWhy (Wrong fault skip) strange Adds = (strange ≡ false) × (¬ Adds)

-- so it is of a line with these tokens
abbrev pub IsStrangeTokens : NamesOf → List Tok → Type 0
IsStrangeTokens N ts = (said : Said) × (said_by ts ≡ Some said) × (is_strange N said ≡ true)

-- so it is of a line, which is no comment
pub record IsStrangeLine (N : NamesOf) (line : List ℕ) : Type 0 where
  pub tokens : List Tok
  pub no_comment : begins_comment line ≡ false
  pub spells : Spells line tokens
  pub strange : IsStrangeTokens N tokens

-- ---- lines

-- what is read with the line at this place, from 0: the first is `fr_trace 1`
abbrev pub ReadsAt : NamesOf → ℕ → List ℕ → Sofar → Sofar → Type 0
ReadsAt N i line s t = cond (i == 0) ((line ≡ codes "fr_trace 1") × (t ≡ s)) (LineReads N (i + 1) line s t)

-- what is read with these lines, the first of which is at this place
abbrev pub ReadsLines : NamesOf → ℕ → List (List ℕ) → Sofar → Sofar → Type 0
ReadsLines N i [] s t = t ≡ s
ReadsLines N i (line ∷ lines) s t = (u : Sofar) × ReadsAt N i line s u × ReadsLines N (i + 1) lines u t

-- the lines before the one with this number, from 1, are read, from where no actor is inside a call
pub record ComesTo (N : NamesOf) (anywhere : Bool) (text : List (List ℕ)) (k : ℕ) (line : List ℕ) : Type 0 where
  pub before : List (List ℕ)
  pub after_it : List (List ℕ)
  pub so_far : Sofar
  pub parts : text ≡ before ++ line ∷ after_it
  pub numbered : k ≡ length before + 1
  pub reads : ReadsLines N 0 before (start anywhere (length N.actors)) so_far

-- the line with this number is the first that can't be read
abbrev pub StopsAt : NamesOf → Bool → List (List ℕ) → ℕ → List ℕ → Type 0
StopsAt N anywhere text k line = (c : ComesTo N anywhere text k line) × (¬ ((t : Sofar) × ReadsAt N (length c.before) line c.so_far t))

-- ---- for private clauses

-- why tokens aren't read: they have something that the application doesn't list; or they don't, and can't be read
abbrev pub IsStop : Stop → Type 0 → Type 0 → Type 0
IsStop Memory Strange Reads = ⊤
IsStop (NotListed unlisted) Strange Reads = Strange
IsStop (Wrong fault skip) Strange Reads = (¬ Strange) × (¬ Reads)

-- the refusal of the line with this number and this text
abbrev pub IsNoTrace : Stop → ℕ → List ℕ → NoTrace → Type 0
IsNoTrace Memory n line no_trace.Memory = ⊤
IsNoTrace (NotListed unlisted) n line (no_trace.NotListed l) = (l.line ≡ n) × (l.text.now ≡ line)
IsNoTrace (Wrong fault skip) n line (no_trace.Faulty k column f) = k ≡ n
IsNoTrace stop n line why = ⊥

-- the refusal of a line that no tokens spell
abbrev pub IsSpellWhy : ℕ → List ℕ → NoTrace → Type 0
IsSpellWhy n line no_trace.Memory = ⊤
IsSpellWhy n line (no_trace.Faulty k column fault) = (k ≡ n) × ((ts : List Tok) → ¬ (Spells line ts))
IsSpellWhy n line why = ⊥

-- why the line with this number isn't read
abbrev pub IsLineWhy : NamesOf → ℕ → List ℕ → Type 0 → NoTrace → Type 0
IsLineWhy N n line Reads no_trace.Memory = ⊤
IsLineWhy N n line Reads (no_trace.Faulty k column fault) = (k ≡ n) × (¬ (IsStrangeLine N line)) × (¬ Reads)
IsLineWhy N n line Reads (no_trace.NotListed unlisted) = (unlisted.line ≡ n) × (unlisted.text.now ≡ line) × IsStrangeLine N line
IsLineWhy N n line Reads other = ⊥

-- why a line isn't read that is the first one, or isn't
abbrev pub IsPlaceWhy : NamesOf → Bool → ℕ → List ℕ → Type 0 → NoTrace → Type 0
IsPlaceWhy N true n line Reads (no_trace.Faulty k column fault) = (k ≡ n) × (¬ Reads)
IsPlaceWhy N true n line Reads why = ⊥
IsPlaceWhy N false n line Reads why = IsLineWhy N n line Reads why

-- why a text isn't read
abbrev pub IsTextWhy : NamesOf → Bool → List (List ℕ) → NoTrace → Type 0
IsTextWhy N anywhere text no_trace.Memory = ⊤
IsTextWhy N anywhere text no_trace.TooLong = ⊥
IsTextWhy N anywhere text no_trace.NotText = ⊥
IsTextWhy N anywhere text (no_trace.Faulty k column fault) = (line : List ℕ) × StopsAt N anywhere text k line × (1 < k → ¬ (IsStrangeLine N line))
IsTextWhy N anywhere text (no_trace.NotListed unlisted) =
    ComesTo N anywhere text unlisted.line unlisted.text.now × (1 < unlisted.line) × IsStrangeLine N unlisted.text.now

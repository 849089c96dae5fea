-- What each command is asked for, by what was matched of its words.
--
-- | word                          | meaning                                                     |
-- |-------------------------------|-------------------------------------------------------------|
-- | IsJudged, IsCheck, ..         | the request, field by field                                 |
-- | has_text, has_texts, has_number | a word has a text, texts, a number after it               |
-- | can_judge, can_check, ..      | the words that have to be there are there                   |
-- | IsAsked, can_ask              | the same of the command with this name                      |
-- | Asks, can_ask_any             | the same of the whole line                                  |
use Rattle.std.specs.Prelude.{◌≡◌, ℕ, Bool, false, not, ◌&&◌, ◌||◌, Option, Some, None, option_map, is_some, codes, map, if◌then◌else◌}
use Rattle.std.specs.Str.{bytes_eq}
use Rattle.std.specs.Option.{option_map_or}
use Rattle.clap.specs.Walk.{Text}
use Rattle.clap.specs.declared.parser.matches.ArgMatches.{ArgMatches}
use Rattle.fr_request.specs.declared.request.CheckedFiles.{CheckedFiles}
use Rattle.fr_request.specs.declared.request.CheckedFiles.TheVariants.{One, Listed}
use Rattle.fr_request.specs.declared.request.CheckRequest.{CheckRequest}
use Rattle.fr_request.specs.declared.request.FindRequest.{FindRequest}
use Rattle.fr_request.specs.declared.request.FollowRequest.{FollowRequest}
use Rattle.fr_request.specs.declared.request.ProveRequest.{ProveRequest}
use Rattle.fr_request.specs.declared.request.RefuteRequest.{RefuteRequest}
use Rattle.fr_request.specs.declared.request.RunRequest.{RunRequest}
use Rattle.fr_request.specs.declared.request.TranslateRequest.{TranslateRequest}
use Rattle.fr_request.specs.declared.request.Request.{Request}
use Rattle.fr_request.specs.declared.request.Request.TheVariants.{Check, Find, Prove, Points, Refute, Run, Translate, Follow}
use Rattle.fr_words.specs.Found.{Rows, subcommand, text_at, texts_at, is_given, number_at, detail_at, format_at, proof_detail_at, warns_at}

-- the word has a text after it
abbrev pub has_text : Rows → Text → Bool
has_text rs id = is_some (text_at rs id)

-- the word has texts after it
abbrev pub has_texts : Rows → Text → Bool
has_texts rs id = is_some (texts_at rs id)

-- the word has a number of so many bits after it
abbrev pub has_number : ℕ → Rows → Text → Bool
has_number bits rs id = is_some (number_at bits rs id)

-- the files that are judged: those of a list where one is named, else an application and its certificate
abbrev pub IsJudged : Rows → CheckedFiles → Type 0
IsJudged rs (Listed list) = text_at rs (codes "list") ≡ Some list.now
IsJudged rs (One app certificate) =
    (text_at rs (codes "list") ≡ None) × (text_at rs (codes "APP") ≡ Some app.now)
    × (text_at rs (codes "CERT") ≡ Some certificate.now)

abbrev pub can_judge : Rows → Bool
can_judge rs = has_text rs (codes "list") || has_text rs (codes "APP") && has_text rs (codes "CERT")

-- `check`
pub record IsCheck (rs : Rows) (asked : CheckRequest) : Type 0 where
  pub files : IsJudged rs asked.files
  pub workers : number_at 16 rs (codes "workers") ≡ Some asked.workers
  pub warns : asked.warns ≡ is_given rs (codes "warn")
  pub deadlock : asked.deadlock ≡ is_given rs (codes "deadlock")
  pub detail : asked.detail ≡ detail_at rs
  pub format : asked.format ≡ format_at rs
  pub html : option_map (λ s. s.now) asked.html ≡ text_at rs (codes "html")

abbrev pub can_check : Rows → Bool
can_check rs = can_judge rs && has_number 16 rs (codes "workers")

-- `find`
pub record IsFind (rs : Rows) (asked : FindRequest) : Type 0 where
  pub app : text_at rs (codes "APP") ≡ Some asked.app.now
  pub out : text_at rs (codes "OUT") ≡ Some asked.out.now
  pub rounds : number_at 16 rs (codes "rounds") ≡ Some asked.rounds
  pub explains : asked.explains ≡ is_given rs (codes "explain")

abbrev pub can_find : Rows → Bool
can_find rs = has_text rs (codes "APP") && has_text rs (codes "OUT") && has_number 16 rs (codes "rounds")

-- `prove`
pub record IsProve (rs : Rows) (asked : ProveRequest) : Type 0 where
  pub app : text_at rs (codes "APP") ≡ Some asked.app.now
  pub out : option_map (λ s. s.now) asked.out ≡ text_at rs (codes "certificate")
  pub workers : number_at 16 rs (codes "workers") ≡ Some asked.workers
  pub warns : asked.warns ≡ warns_at rs
  pub deadlock : asked.deadlock ≡ is_given rs (codes "deadlock")
  pub detail : asked.detail ≡ proof_detail_at rs
  pub searches : asked.searches ≡ not (is_given rs (codes "no-search"))
  pub states : number_at 32 rs (codes "states") ≡ Some asked.states
  pub memory : number_at 32 rs (codes "memory") ≡ Some asked.memory
  pub progress : asked.progress ≡ is_given rs (codes "progress")
  pub format : asked.format ≡ format_at rs
  pub html : option_map (λ s. s.now) asked.html ≡ text_at rs (codes "html")

abbrev pub can_prove : Rows → Bool
can_prove rs =
    has_text rs (codes "APP") && has_number 16 rs (codes "workers") && has_number 32 rs (codes "states") && has_number 32 rs (codes "memory")

-- `points`, whose request has no type of its own
pub record IsPoints (rs : Rows) (named : Text) (explained : Bool) : Type 0 where
  pub app : text_at rs (codes "APP") ≡ Some named
  pub explains : explained ≡ is_given rs (codes "explain")

-- `refute`
pub record IsRefute (rs : Rows) (asked : RefuteRequest) : Type 0 where
  pub app : text_at rs (codes "APP") ≡ Some asked.app.now
  pub states : number_at 32 rs (codes "states") ≡ Some asked.states
  pub memory : number_at 32 rs (codes "memory") ≡ Some asked.memory
  pub progress : asked.progress ≡ is_given rs (codes "progress")
  pub workers : number_at 16 rs (codes "workers") ≡ Some asked.workers
  pub deadlock : asked.deadlock ≡ is_given rs (codes "deadlock")
  pub explains : asked.explains ≡ is_given rs (codes "explain")
  pub format : asked.format ≡ format_at rs
  pub html : option_map (λ s. s.now) asked.html ≡ text_at rs (codes "html")

abbrev pub can_refute : Rows → Bool
can_refute rs =
    has_text rs (codes "APP") && has_number 32 rs (codes "states") && has_number 32 rs (codes "memory") && has_number 16 rs (codes "workers")

-- `run`
pub record IsRun (rs : Rows) (asked : RunRequest) : Type 0 where
  pub app : text_at rs (codes "APP") ≡ Some asked.app.now
  pub certificate : text_at rs (codes "CERT") ≡ Some asked.certificate.now
  pub polls : number_at 32 rs (codes "polls") ≡ Some asked.polls
  pub words : option_map (λ s. s.now) asked.words ≡ text_at rs (codes "words")
  pub detail : asked.detail ≡ detail_at rs

abbrev pub can_run : Rows → Bool
can_run rs = has_text rs (codes "APP") && has_text rs (codes "CERT") && has_number 32 rs (codes "polls")

-- the file that a text names: none by `-`, which is standard output
abbrev pub named_by : Text → Option Text
named_by text = if bytes_eq text (codes "-") then None else Some text

abbrev pub file_named : Option Text → Option Text
file_named None = None
file_named (Some text) = named_by text

-- `translate`
pub record IsTranslate (rs : Rows) (asked : TranslateRequest) : Type 0 where
  pub source : text_at rs (codes "SOURCE") ≡ Some asked.source.now
  pub out : option_map (λ s. s.now) asked.out ≡ file_named (text_at rs (codes "OUT"))

abbrev pub can_translate : Rows → Bool
can_translate rs = has_text rs (codes "SOURCE") && has_text rs (codes "OUT")

-- `follow`
pub record IsFollow (rs : Rows) (asked : FollowRequest) : Type 0 where
  pub app : text_at rs (codes "APP") ≡ Some asked.app.now
  pub traces : texts_at rs (codes "TRACE") ≡ Some (map (λ s. s.now) asked.traces.now)
  pub states : number_at 32 rs (codes "states") ≡ Some asked.states
  pub explains : asked.explains ≡ is_given rs (codes "explain")
  pub covers : asked.covers ≡ is_given rs (codes "coverage")
  pub any_times : asked.any_times ≡ is_given rs (codes "any-times")
  pub from_anywhere : asked.from_anywhere ≡ is_given rs (codes "from-anywhere")
  pub run : option_map (λ s. s.now) asked.run ≡ text_at rs (codes "run")
  pub format : asked.format ≡ format_at rs
  pub html : option_map (λ s. s.now) asked.html ≡ text_at rs (codes "html")

abbrev pub can_follow : Rows → Bool
can_follow rs = has_text rs (codes "APP") && has_texts rs (codes "TRACE") && has_number 32 rs (codes "states")

-- the command with this name
abbrev pub IsAsked : Text → Rows → Request → Type 0
IsAsked name rs (Check asked) = (name ≡ codes "check") × IsCheck rs asked
IsAsked name rs (Find asked) = (name ≡ codes "find") × IsFind rs asked
IsAsked name rs (Prove asked) = (name ≡ codes "prove") × IsProve rs asked
IsAsked name rs (Points app explains) = (name ≡ codes "points") × IsPoints rs app.now explains
IsAsked name rs (Refute asked) = (name ≡ codes "refute") × IsRefute rs asked
IsAsked name rs (Run asked) = (name ≡ codes "run") × IsRun rs asked
IsAsked name rs (Translate asked) = (name ≡ codes "translate") × IsTranslate rs asked
IsAsked name rs (Follow asked) = (name ≡ codes "follow") × IsFollow rs asked

abbrev pub can_ask : Text → Rows → Bool
can_ask name rs =
    if bytes_eq name (codes "check") then can_check rs
    else if bytes_eq name (codes "find") then can_find rs
    else if bytes_eq name (codes "prove") then can_prove rs
    else if bytes_eq name (codes "points") then has_text rs (codes "APP")
    else if bytes_eq name (codes "refute") then can_refute rs
    else if bytes_eq name (codes "run") then can_run rs
    else if bytes_eq name (codes "translate") then can_translate rs
    else if bytes_eq name (codes "follow") then can_follow rs else false

-- what was matched of the whole line asks for the request: there is a command, which is asked for this
abbrev pub Asks : ArgMatches → Request → Type 0
Asks m asked = (name : Text) × (rs : Rows) × (subcommand m ≡ Some (name, rs)) × IsAsked name rs asked

abbrev pub can_ask_any : ArgMatches → Bool
can_ask_any m = option_map_or (λ met. can_ask met.0 met.1) (subcommand m) false

-- Answers as SARIF 2.1.0.
--
-- | word                              | meaning                                                                 |
-- |-----------------------------------|-------------------------------------------------------------------------|
-- | uri_of, point_words               | a path as a URI, and a point in words                                   |
-- | file_location                     | a whole file, or the line of it that is known                           |
-- | file_of, region_of                | the file and the lines of a point: its source's, where that is known    |
-- | point_location                    | a point with what is said of it                                         |
-- | Stop                              | a place of a way through the code, with what is said of it              |
-- | run_stops, note_stops             | the run into a breach, and a state that the notes allow with a step     |
-- | flow                              | a way under a text; nothing where it has no place                       |
-- | plain_result, whole_result        | a result about a file or a line of it; so, with all that an answer says |
-- | failing                           | the result of what fails at a point                                     |
-- | result_of, warning_results        | what is found by an answer: nothing by a yes; and by its warnings       |
-- | artifacts                         | the files that the answers are about, each once                         |
-- | notifications, invocations        | what kept the machine from answers, and how the program ended           |
-- | Rule, rules                       | what can fail: its name, and words about it                             |
-- | log, IsSarif                      | the whole report                                                        |
use Rattle.std.specs.Prelude.{◌≡◌, ℕ, zero, ℤ, pos, ◌+◌, ◌-◌, ◌^◌, min, nat_lt, nat_eq, Bool, true, false, ◌&&◌, if◌then◌else◌, List, [], ◌∷◌, ◌++◌, Option, Some, None, bytes_eq, codes, decimal, flat_map, is_some, map, string_bytes, String}
use Rattle.std.specs.Fmt.{signed_decimal}
use Rattle.std.specs.List.{list_any, starts_with}
use Rattle.json.specs.Token.{Token, begin_object, end_object, end_array, key}
use Rattle.std.specs.declared.alloc.Global.{Global}
use Rattle.fr_escape.specs.Uri.{uri}
use Rattle.fr_request.specs.declared.format.TheConstants.{VERSION}
use Rattle.fr_formats.specs.declared.answer.AnswerKind.{AnswerKind}
use Rattle.fr_formats.specs.declared.answer.AnswerKind.TheVariants.{Yes, No, MayDeadlock, Breach, Deadlock, NoBreach, StatesLeft, Followed, FollowedApart, NotFollowed, NotListed, GaveUp, Refused, Machine}
use Rattle.fr_formats.specs.declared.answer.AnswerShown.{AnswerShown}
use Rattle.fr_formats.specs.declared.answer.Failure.{Failure}
use Rattle.fr_formats.specs.declared.answer.PlaceShown.{PlaceShown}
use Rattle.fr_formats.specs.declared.answer.SourceShown.{SourceShown}
use Rattle.fr_formats.specs.declared.answer.StepShown.{StepShown}
use Rattle.fr_formats.specs.declared.answer.WarningShown.{WarningShown}
use Rattle.fr_formats.specs.declared.ident.Ident.{Ident}
use Rattle.fr_formats.specs.declared.sarif.flow.Stop.{Stop as StopShown}
use Rattle.fr_program.specs.Uses.{side_text}
use Rattle.fr_formats.specs.Answers.{kind_name, warning_rule, greatest_status, subject, subject_line}
use Rattle.fr_formats.specs.Names.{rule_index, rule_names}
use Rattle.fr_formats.specs.Tokens.{array, field, flag, maybe, message, number, object, written}

-- ---- places

unfoldable pub uri_of : List ℕ → List ℕ
uri_of path = (if starts_with nat_eq path (codes "/") then codes "file://" else []) ++ uri path

unfoldable pub point_words : PlaceShown → List ℕ
point_words p = string_bytes p.actor ++ (codes " " ++ (decimal p.index ++ (codes " " ++ side_text p.side)))

unfoldable pub range : ℕ → ℕ → ℕ → List Token
range line start end =
    object (codes "region") ++ number (codes "startLine") line ++ number (codes "startColumn") start
    ++ number (codes "endColumn") end ++ end_object ∷ []

abbrev pub region : Option ℕ → Option ℕ → Option ℕ → List Token
region (Some line) (Some column) (Some length) = range line column (min (column + length) (2 ^ 64 - 1))
region line column length = []

-- a line alone: of a source or a trace no columns are known
unfoldable pub whole_line : ℕ → List Token
whole_line line = object (codes "region") ++ number (codes "startLine") line ++ end_object ∷ []

-- the file that a point is in: the source's, where that is known, and else the application's
abbrev pub file_of : List ℕ → Option SourceShown → List ℕ
file_of path None = path
file_of path (Some s) = string_bytes s.file

-- where the point is in that file
abbrev pub region_of : Option SourceShown → PlaceShown → List Token
region_of None p = region p.line p.column p.length
region_of (Some s) p = whole_line s.line

unfoldable pub file_begins : List ℕ → List Token
file_begins address =
    begin_object ∷ object (codes "physicalLocation") ++ object (codes "artifactLocation")
    ++ field (codes "uri") address ++ end_object ∷ []

unfoldable pub file_location : List ℕ → Option ℕ → List Token
file_location path line = file_begins (uri_of path) ++ maybe whole_line line ++ end_object ∷ end_object ∷ []

unfoldable pub named : List ℕ → List ℕ → List Token
named actor words =
    end_object ∷ array (codes "logicalLocations") ++ begin_object ∷ field (codes "name") actor
    ++ field (codes "fullyQualifiedName") words ++ field (codes "kind") (codes "function") ++ end_object ∷ end_array ∷ []

-- what is said of a place; nothing where that is no text
abbrev pub said : List ℕ → List Token
said [] = []
said (c ∷ cs) = message (codes "message") (c ∷ cs)

unfoldable pub point_location : List ℕ → PlaceShown → List ℕ → List Token
point_location path p text =
    file_begins (uri_of (file_of path p.source)) ++ region_of p.source p ++ named (string_bytes p.actor) (point_words p)
    ++ said text ++ end_object ∷ []

unfoldable pub location : List ℕ → Option PlaceShown → List Token
location path None = file_location path None
location path (Some p) = point_location path p []

-- ---- ways through the code

pub record Stop : Type 0 where
  pub place : PlaceShown
  pub text : List ℕ

abbrev pub stop_of : StopShown → Stop
stop_of s = record { place = s.place.now; text = string_bytes s.text }

abbrev pub choice_words : ℤ → List ℕ
choice_words (pos zero) = []
choice_words choice = codes ", choice " ++ signed_decimal choice

abbrev pub change_words : List ℕ → List ℕ
change_words [] = []
change_words (c ∷ cs) = codes "; then " ++ c ∷ cs

unfoldable pub step_words : PlaceShown → StepShown → List ℕ
step_words p s =
    point_words p ++ codes ": " ++ string_bytes p.code ++ choice_words s.choice ++ change_words (string_bytes s.change)

abbrev pub step_stops_at : Option PlaceShown → StepShown → List Stop
step_stops_at None s = []
step_stops_at (Some p) s = record { place = p; text = step_words p s } ∷ []

abbrev pub step_stops : StepShown → List Stop
step_stops s = step_stops_at s.place s

abbrev pub place_stops : Option PlaceShown → List ℕ → List Stop
place_stops None text = []
place_stops (Some p) [] = []
place_stops (Some p) (c ∷ cs) = record { place = p; text = c ∷ cs } ∷ []

abbrev pub run_stops : Failure → List StepShown → List Stop
run_stops f steps = flat_map step_stops steps ++ place_stops f.place (string_bytes f.text)

-- where the actor is whose step shows why a part fails: the other one where it spoils a note
abbrev pub mover : Failure → Option PlaceShown
mover f = if bytes_eq f.rule.now (codes "spoiled-by") && is_some f.other then f.other else f.place

abbrev pub note_stops : Failure → List Stop
note_stops f = place_stops f.place (string_bytes f.state) ++ place_stops (mover f) (string_bytes f.step)

unfoldable pub stop_tokens : List ℕ → ℕ → Stop → List Token
stop_tokens path n stop =
    begin_object ∷ key (codes "location") ∷ point_location path stop.place stop.text
    ++ number (codes "executionOrder") n ++ end_object ∷ []

abbrev pub numbered : List ℕ → ℕ → List Stop → List Token
numbered path n [] = []
numbered path n (stop ∷ stops) = stop_tokens path n stop ++ numbered path (n + 1) stops

unfoldable pub flow_begins : List ℕ → List Token
flow_begins text =
    array (codes "codeFlows") ++ begin_object ∷ message (codes "message") text ++ array (codes "threadFlows")
    ++ begin_object ∷ array (codes "locations")

abbrev pub flow : List ℕ → List ℕ → List Stop → List Token
flow path text [] = []
flow path text (stop ∷ stops) =
    flow_begins text ++ numbered path 1 (stop ∷ stops) ++ end_array ∷ end_object ∷ end_array ∷ end_object ∷ end_array ∷ []

abbrev pub is_run : AnswerKind → Bool
is_run Breach = true
is_run Deadlock = true
is_run kind = false

-- what a run is said to lead to
abbrev pub run_words : AnswerKind → List ℕ
run_words Deadlock = codes "A run from the start into the deadlock"
run_words kind = codes "A run from the start into the breach"

unfoldable pub flow_of : AnswerShown → Failure → List Token
flow_of a f =
    if is_run a.answer then flow (string_bytes a.application) (run_words a.answer) (run_stops f a.steps.items)
    else flow (string_bytes a.application) (codes "A state that the notes allow, and what is wrong with it") (note_stops f)

-- ---- results

-- a rule: its name, what it says when it fails, and what to do
pub record Rule : Type 0 where
  pub name : List ℕ
  pub short : List ℕ
  pub help : List ℕ

abbrev pub rule_of : Ident → Rule
rule_of i = record { name = i.name.now; short = i.short.now; help = i.help.now }

unfoldable pub rule_tokens : Rule → List Token
rule_tokens r =
    begin_object ∷ field (codes "id") r.name ++ message (codes "shortDescription") r.short
    ++ message (codes "fullDescription") r.short ++ message (codes "help") r.help ++ end_object ∷ []

-- with the end of what the program is
unfoldable pub rules : List Rule → List Token
rules all = array (codes "rules") ++ flat_map rule_tokens all ++ end_array ∷ end_object ∷ end_object ∷ []

unfoldable pub whole_text : AnswerShown → List ℕ
whole_text a = string_bytes a.report ++ flat_map (λ line. codes "\n" ++ string_bytes line) a.lines.items

unfoldable pub result_begins : List ℕ → List ℕ → List ℕ → List Token
result_begins rule level text =
    begin_object ∷ field (codes "ruleId") rule ++ maybe (number (codes "ruleIndex")) (rule_index rule)
    ++ field (codes "level") level ++ message (codes "message") text ++ array (codes "locations")

unfoldable pub plain_result : List ℕ → Option ℕ → List ℕ → List ℕ → List ℕ → List Token
plain_result path line rule level text =
    result_begins rule level text ++ file_location path line ++ end_array ∷ end_object ∷ []

unfoldable pub whole_result : List ℕ → AnswerShown → List Token
whole_result level a = plain_result (subject a) (subject_line a) (kind_name a.answer) level (whole_text a)

abbrev pub related_at : List ℕ → Option PlaceShown → List ℕ → List Token
related_at path None text = []
related_at path (Some p) text = array (codes "relatedLocations") ++ point_location path p text ++ end_array ∷ []

unfoldable pub related : List ℕ → Failure → List Token
related path f = related_at path f.other (string_bytes f.text)

unfoldable pub failing : AnswerShown → Failure → List Token
failing a f =
    result_begins f.rule.now (codes "error") (string_bytes a.report) ++ location (string_bytes a.application) f.place
    ++ end_array ∷ related (string_bytes a.application) f ++ flow_of a f ++ end_object ∷ []

abbrev pub failing_by : Option Failure → AnswerShown → List Token
failing_by None a = whole_result (codes "error") a
failing_by (Some f) a = failing a f

abbrev pub result_by : AnswerKind → AnswerShown → List Token
result_by Yes a = []
result_by NoBreach a = []
result_by Machine a = []
result_by No a = failing_by a.failure a
result_by MayDeadlock a = failing_by a.failure a
result_by Breach a = failing_by a.failure a
result_by Deadlock a = failing_by a.failure a
result_by Refused a = whole_result (codes "error") a
result_by StatesLeft a = whole_result (codes "warning") a
result_by Followed a = []
result_by FollowedApart a = []
result_by NotFollowed a = whole_result (codes "error") a
result_by NotListed a = whole_result (codes "error") a
result_by GaveUp a = whole_result (codes "warning") a

unfoldable pub result_of : AnswerShown → List Token
result_of a = result_by a.answer a

abbrev pub warned_file : List ℕ → Option (String Global) → List ℕ
warned_file path None = path
warned_file path (Some file) = string_bytes file

abbrev pub warning_result : List ℕ → WarningShown → List Token
warning_result path w = plain_result (warned_file path w.file) w.line (warning_rule w.kind) (codes "warning") (string_bytes w.text)

unfoldable pub warning_results : AnswerShown → List Token
warning_results a = flat_map (warning_result (string_bytes a.application)) a.warnings.items

-- the end of the files, how columns are counted, and the begin of what is found
unfoldable pub results_begin : List Token
results_begin = end_array ∷ field (codes "columnKind") (codes "unicodeCodePoints") ++ array (codes "results")

unfoldable pub results : List AnswerShown → List Token
results answers = results_begin ++ flat_map (λ a. result_of a ++ warning_results a) answers ++ end_array ∷ []

-- ---- the run

abbrev pub is_named : List AnswerShown → List ℕ → Bool
is_named answers path = list_any (λ a. bytes_eq (subject a) path) answers

unfoldable pub artifact : List ℕ → List Token
artifact address = begin_object ∷ object (codes "location") ++ field (codes "uri") address ++ end_object ∷ end_object ∷ []

-- the file that an answer is about, unless one of the answers before is about it
unfoldable pub added : List AnswerShown → AnswerShown → List Token
added before a = if is_named before (subject a) then [] else artifact (uri_of (subject a))

abbrev pub artifacts : List AnswerShown → List AnswerShown → List Token
artifacts before [] = []
artifacts before (a ∷ answers) = added before a ++ artifacts (before ++ a ∷ []) answers

unfoldable pub error_begins : List ℕ → List Token
error_begins text =
    begin_object ∷ field (codes "level") (codes "error") ++ message (codes "message") text ++ array (codes "locations")

unfoldable pub notification : AnswerShown → List Token
notification a =
    error_begins (whole_text a) ++ file_location (subject a) None ++ end_array ∷ end_object ∷ []

abbrev pub notification_by : AnswerKind → AnswerShown → List Token
notification_by Machine a = notification a
notification_by kind a = []

unfoldable pub notification_of : AnswerShown → List Token
notification_of a = notification_by a.answer a

unfoldable pub all_notifications : List AnswerShown → List Token
all_notifications answers = array (codes "toolExecutionNotifications") ++ flat_map notification_of answers ++ end_array ∷ []

unfoldable pub notifications : List AnswerShown → List Token
notifications answers = if nat_lt (greatest_status answers) 3 then [] else all_notifications answers

unfoldable pub invocations : List AnswerShown → List Token
invocations answers =
    array (codes "invocations") ++ begin_object ∷ flag (codes "executionSuccessful") (nat_lt (greatest_status answers) 3)
    ++ number (codes "exitCode") (greatest_status answers) ++ notifications answers ++ end_object ∷ end_array ∷ []

unfoldable pub files : List AnswerShown → List Token
files answers = array (codes "artifacts") ++ artifacts [] answers

unfoldable pub log_begins : List Token
log_begins =
    begin_object ∷ field (codes "$schema") (codes "https://json.schemastore.org/sarif-2.1.0.json")
    ++ field (codes "version") (codes "2.1.0") ++ array (codes "runs") ++ begin_object ∷ object (codes "tool")
    ++ object (codes "driver") ++ field (codes "name") (codes "fr_check") ++ field (codes "version") VERSION.now

unfoldable pub log : List Rule → List AnswerShown → List Token
log all answers =
    log_begins ++ rules all ++ invocations answers ++ files answers ++ results answers ++ end_object ∷ end_array ∷ end_object ∷ []

-- the text is the report, with some words about each rule
abbrev pub IsSarif : List AnswerShown → List ℕ → Type 0
IsSarif answers text = (all : List Rule) × (map (λ r. r.name) all ≡ rule_names) × (text ≡ written (log all answers))

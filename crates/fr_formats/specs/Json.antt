-- Answers as JSON, in this project's own form.
--
-- | word                              | meaning                                                                 |
-- |-----------------------------------|-------------------------------------------------------------------------|
-- | place_begins                      | a point with its line of code, and where that is in the application     |
-- | source_tokens                     | the line in the source from which that was translated                   |
-- | place_tokens, failure_tokens, step_tokens, lines_tokens, warnings_tokens | parts of an answer               |
-- | asked_tokens, answered_tokens     | what was asked, and what was answered                                   |
-- | trace_tokens                      | the trace that was followed, and the line of it that can't be           |
-- | answer_begins, answer_tokens      | an answer: its kind in a word, its status, and what it says             |
-- | report_begins                     | the report up to its answers                                            |
-- | json_of                           | the whole report                                                        |
use Rattle.std.specs.Prelude.{ℕ, List, [], ◌∷◌, ◌++◌, codes, flat_map, option_map, string_bytes}
use Rattle.std.specs.declared.string.String.{String}
use Rattle.json.specs.Token.{Token, begin_object, end_object, end_array, key, string}
use Rattle.fr_request.specs.declared.format.TheConstants.{VERSION}
use Rattle.fr_formats.specs.declared.answer.AnswerShown.{AnswerShown}
use Rattle.fr_formats.specs.declared.answer.Failure.{Failure}
use Rattle.fr_formats.specs.declared.answer.PlaceShown.{PlaceShown}
use Rattle.fr_formats.specs.declared.answer.SourceShown.{SourceShown}
use Rattle.fr_formats.specs.declared.answer.StepShown.{StepShown}
use Rattle.fr_formats.specs.declared.answer.TraceShown.{TraceShown}
use Rattle.fr_formats.specs.declared.answer.WarningShown.{WarningShown}
use Rattle.fr_program.specs.Uses.{side_text}
use Rattle.fr_formats.specs.Answers.{command_name, kind_name, status_of, greatest_status}
use Rattle.fr_formats.specs.Tokens.{array, field, integer, number, maybe, listed, object, written}

unfoldable pub place_begins : PlaceShown → List Token
place_begins p =
    begin_object ∷ number (codes "point") p.point ++ field (codes "actor") (string_bytes p.actor)
    ++ number (codes "index") p.index ++ field (codes "side") (side_text p.side) ++ field (codes "code") (string_bytes p.code)
    ++ maybe (number (codes "line")) p.line ++ maybe (number (codes "column")) p.column ++ maybe (number (codes "length")) p.length

unfoldable pub source_tokens : SourceShown → List Token
source_tokens s =
    object (codes "source") ++ field (codes "file") (string_bytes s.file) ++ number (codes "line") s.line ++ end_object ∷ []

unfoldable pub place_tokens : PlaceShown → List Token
place_tokens p = place_begins p ++ maybe source_tokens p.source ++ end_object ∷ []

abbrev pub member_place : List ℕ → PlaceShown → List Token
member_place name p = key name ∷ place_tokens p

unfoldable pub failure_tokens : Failure → List Token
failure_tokens f =
    object (codes "failure") ++ field (codes "rule") f.rule.now ++ field (codes "text") (string_bytes f.text)
    ++ maybe (member_place (codes "place")) f.place ++ maybe (member_place (codes "other")) f.other ++ end_object ∷ []

unfoldable pub step_tokens : StepShown → List Token
step_tokens s =
    begin_object ∷ maybe (member_place (codes "place")) s.place ++ integer (codes "choice") s.choice
    ++ field (codes "change") (string_bytes s.change) ++ end_object ∷ []

unfoldable pub lines_tokens : {Z : Type 0} → List (String Z) → List Token
lines_tokens lines = listed (codes "lines") (λ line. string (string_bytes line) ∷ []) lines

unfoldable pub warnings_tokens : List WarningShown → List Token
warnings_tokens warnings = listed (codes "warnings") (λ warning. string (string_bytes warning.text) ∷ []) warnings

unfoldable pub asked_tokens : AnswerShown → List Token
asked_tokens a =
    begin_object ∷ field (codes "command") (command_name a.command) ++ field (codes "application") (string_bytes a.application)
    ++ maybe (field (codes "certificate")) (option_map string_bytes a.certificate)

unfoldable pub trace_tokens : TraceShown → List Token
trace_tokens t =
    object (codes "trace") ++ field (codes "file") (string_bytes t.file) ++ maybe (number (codes "line")) t.line ++ end_object ∷ []

unfoldable pub answered_tokens : AnswerShown → List Token
answered_tokens a =
    field (codes "answer") (kind_name a.answer) ++ number (codes "status") (status_of a.answer)
    ++ field (codes "report") (string_bytes a.report)

unfoldable pub answer_begins : AnswerShown → List Token
answer_begins a = asked_tokens a ++ maybe trace_tokens a.trace ++ answered_tokens a

unfoldable pub answer_tokens : AnswerShown → List Token
answer_tokens a =
    answer_begins a ++ lines_tokens a.lines.items ++ warnings_tokens a.warnings.items ++ maybe failure_tokens a.failure
    ++ listed (codes "steps") step_tokens a.steps.items ++ end_object ∷ []

unfoldable pub report_begins : ℕ → List Token
report_begins status =
    begin_object ∷ field (codes "tool") (codes "fr_check") ++ field (codes "version") VERSION.now
    ++ number (codes "form") 1 ++ number (codes "status") status ++ array (codes "answers")

abbrev pub json_of : List AnswerShown → List ℕ
json_of answers = written (report_begins (greatest_status answers) ++ flat_map answer_tokens answers ++ end_array ∷ end_object ∷ [])

-- Answers as JUnit's XML.
--
-- | word                              | meaning                                                                 |
-- |-----------------------------------|-------------------------------------------------------------------------|
-- | escaped                           | the bytes of a text, as XML has it (fr_escape)                          |
-- | is_failed, is_broken              | the case of such an answer fails, or is an error                        |
-- | failed                            | what failed, between tags of this name                                  |
-- | outcome_of                        | `<failure`, `<error`, or nothing where the case passes                  |
-- | case_of, head_of, junit_of        | the case of an answer, the report's head with its counts, and all of it                             |
use Rattle.std.specs.Prelude.{ℕ, Bool, true, false, List, [], ◌∷◌, ◌++◌, codes, count_by, decimal, encode_utf8_all, flat_map, length, string_bytes}
use Rattle.std.specs.declared.string.String.{String}
use Rattle.fr_escape.specs.Xml.{xml}
use Rattle.fr_formats.specs.declared.answer.AnswerKind.{AnswerKind}
use Rattle.fr_formats.specs.declared.answer.AnswerKind.TheVariants.{Yes, No, MayDeadlock, Breach, Deadlock, NoBreach, StatesLeft, Followed, FollowedApart, NotFollowed, NotListed, GaveUp, Refused, Machine}
use Rattle.fr_formats.specs.declared.answer.AnswerShown.{AnswerShown}
use Rattle.fr_formats.specs.declared.answer.WarningShown.{WarningShown}
use Rattle.fr_formats.specs.declared.junit.Fragment.{Fragment}
use Rattle.fr_formats.specs.declared.junit.Fragment.TheVariants.{Markup, Text, Number, Lines, Warnings}
use Rattle.fr_formats.specs.Answers.{command_name, failed_rule, subject}

unfoldable pub escaped : List ℕ → List ℕ
escaped text = encode_utf8_all (xml text)

abbrev pub is_failed : AnswerKind → Bool
is_failed Yes = false
is_failed NoBreach = false
is_failed No = true
is_failed MayDeadlock = true
is_failed Breach = true
is_failed Deadlock = true
is_failed StatesLeft = true
is_failed Followed = false
is_failed FollowedApart = false
is_failed NotFollowed = true
is_failed NotListed = true
is_failed GaveUp = true
is_failed Refused = false
is_failed Machine = false

abbrev pub is_broken : AnswerKind → Bool
is_broken Yes = false
is_broken NoBreach = false
is_broken No = false
is_broken MayDeadlock = false
is_broken Breach = false
is_broken Deadlock = false
is_broken StatesLeft = false
is_broken Followed = false
is_broken FollowedApart = false
is_broken NotFollowed = false
is_broken NotListed = false
is_broken GaveUp = false
is_broken Refused = true
is_broken Machine = true

-- a line with its end, and several
unfoldable pub line_of : List ℕ → List ℕ
line_of line = escaped line ++ codes "\n"

unfoldable pub lines_of : {Z : Type 0} → List (String Z) → List ℕ
lines_of lines = flat_map (λ line. line_of (string_bytes line)) lines

unfoldable pub warning_lines : List WarningShown → List ℕ
warning_lines warnings = flat_map (λ w. line_of (string_bytes w.text)) warnings

-- For private clauses: the bytes of a part.
abbrev pub bytes_of : Fragment → List ℕ
bytes_of (Markup markup) = markup.now
bytes_of (Text given) = escaped given.now
bytes_of (Number number) = decimal number
bytes_of (Lines lines) = lines_of lines.now
bytes_of (Warnings warnings) = warning_lines warnings.now

unfoldable pub failed : List ℕ → AnswerShown → List ℕ
failed tag a =
    codes "      <" ++ (tag ++ (codes " type=\"" ++ (escaped (failed_rule a) ++ (codes "\" message=\""
    ++ (escaped (string_bytes a.report) ++ (codes "\">" ++ (escaped (string_bytes a.report) ++ (codes "\n"
    ++ (lines_of a.lines.items ++ (codes "</" ++ (tag ++ codes ">\n")))))))))))

-- the word of each kind of answer
abbrev pub outcome_by : AnswerKind → AnswerShown → List ℕ
outcome_by Yes a = []
outcome_by NoBreach a = []
outcome_by No a = failed (codes "failure") a
outcome_by MayDeadlock a = failed (codes "failure") a
outcome_by Breach a = failed (codes "failure") a
outcome_by Deadlock a = failed (codes "failure") a
outcome_by StatesLeft a = failed (codes "failure") a
outcome_by Followed a = []
outcome_by FollowedApart a = []
outcome_by NotFollowed a = failed (codes "failure") a
outcome_by NotListed a = failed (codes "failure") a
outcome_by GaveUp a = failed (codes "failure") a
outcome_by Refused a = failed (codes "error") a
outcome_by Machine a = failed (codes "error") a

unfoldable pub outcome_of : AnswerShown → List ℕ
outcome_of a = outcome_by a.answer a

unfoldable pub output_of : List WarningShown → List ℕ
output_of warnings = codes "      <system-out>" ++ (warning_lines warnings ++ codes "</system-out>\n")

abbrev pub warnings_of : List WarningShown → List ℕ
warnings_of [] = []
warnings_of (w ∷ ws) = output_of (w ∷ ws)

unfoldable pub case_begins : AnswerShown → List ℕ
case_begins a =
    codes "    <testcase classname=\"fr_check." ++ (command_name a.command ++ (codes "\" name=\""
    ++ (escaped (subject a) ++ codes "\">\n")))

unfoldable pub case_of : AnswerShown → List ℕ
case_of a = case_begins a ++ outcome_of a ++ warnings_of a.warnings.items ++ codes "    </testcase>\n"

unfoldable pub head_with : ℕ → ℕ → ℕ → List ℕ
head_with tests failures errors =
    codes "<?xml version=\"1.0\" encoding=\"UTF-8\"?>\n<testsuites>\n  <testsuite name=\"fr_check\" tests=\"" ++ (decimal tests
    ++ (codes "\" failures=\"" ++ (decimal failures ++ (codes "\" errors=\"" ++ (decimal errors ++ codes "\">\n")))))

abbrev pub head_of : List AnswerShown → List ℕ
head_of answers =
    head_with (length answers) (count_by (λ a. is_failed a.answer) answers) (count_by (λ a. is_broken a.answer) answers)

abbrev pub junit_of : List AnswerShown → List ℕ
junit_of answers = head_of answers ++ (flat_map case_of answers ++ codes "  </testsuite>\n</testsuites>\n")

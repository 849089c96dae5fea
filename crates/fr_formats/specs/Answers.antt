-- What answers are, in words and numbers.
--
-- | word                              | meaning                                                                 |
-- |-----------------------------------|-------------------------------------------------------------------------|
-- | command_name, kind_name | the names of commands, and of kinds of answers                                  |
-- | warning_rule                      | the name of the rule that warns so                                      |
-- | status_of                         | the exit status of a command that answers so                            |
-- | greatest_status                   | the greatest status of all answers; 0 where there are none              |
-- | subject, subject_line             | the file that an answer is about: the trace's, where there is one, and  |
-- |                                   | else the application's; and the line of it that it is about             |
-- | failed_rule                       | the rule or the part that fails; the kind's name where none does        |
-- | IsNew                             | an answer to what is asked, of this kind, with this line, and no more   |
use Rattle.std.specs.Prelude.{◌≡◌, ℕ, max, fold, List, [], Option, Some, None, codes, option_map, string_bytes}
use Rattle.fr_formats.specs.declared.answer.Command.{Command}
use Rattle.fr_formats.specs.declared.answer.Command.TheVariants.{Check, Prove, Refute, Follow}
use Rattle.fr_formats.specs.declared.answer.AnswerKind.{AnswerKind}
use Rattle.fr_formats.specs.declared.answer.AnswerKind.TheVariants.{Yes, No, MayDeadlock, Breach, Deadlock, NoBreach, StatesLeft, Followed, FollowedApart, NotFollowed, NotListed, GaveUp, Refused, Machine}
use Rattle.fr_formats.specs.declared.answer.WarningKind.{WarningKind}
use Rattle.fr_formats.specs.declared.answer.WarningKind.TheVariants.{NeverReached, NeverUsed, NoActors, HeldWhileWaiting, NeverGiven, LostUpdate, UsedOneWay, BufferInCriticalSection}
use Rattle.fr_formats.specs.declared.answer.Source.{Source}
use Rattle.fr_formats.specs.declared.answer.AnswerShown.{AnswerShown}
use Rattle.fr_formats.specs.declared.answer.Failure.{Failure}
use Rattle.fr_formats.specs.declared.answer.TraceShown.{TraceShown}

abbrev pub command_name : Command → List ℕ
command_name Check = codes "check"
command_name Prove = codes "prove"
command_name Refute = codes "refute"
command_name Follow = codes "follow"

abbrev pub kind_name : AnswerKind → List ℕ
kind_name Yes = codes "yes"
kind_name No = codes "no"
kind_name MayDeadlock = codes "may-deadlock"
kind_name Breach = codes "breach"
kind_name Deadlock = codes "deadlock"
kind_name NoBreach = codes "no-breach"
kind_name StatesLeft = codes "states-left"
kind_name Followed = codes "followed"
kind_name FollowedApart = codes "followed-apart"
kind_name NotFollowed = codes "not-followed"
kind_name NotListed = codes "not-listed"
kind_name GaveUp = codes "gave-up"
kind_name Refused = codes "refused"
kind_name Machine = codes "machine"

abbrev pub warning_rule : WarningKind → List ℕ
warning_rule NeverReached = codes "never-reached"
warning_rule NeverUsed = codes "never-used"
warning_rule NoActors = codes "no-actors"
warning_rule HeldWhileWaiting = codes "held-while-waiting"
warning_rule NeverGiven = codes "never-given"
warning_rule LostUpdate = codes "lost-update"
warning_rule UsedOneWay = codes "used-one-way"
warning_rule BufferInCriticalSection = codes "buffer-in-critical-section"

abbrev pub status_of : AnswerKind → ℕ
status_of Yes = 0
status_of NoBreach = 0
status_of Followed = 0
status_of FollowedApart = 0
status_of No = 1
status_of MayDeadlock = 1
status_of Breach = 1
status_of Deadlock = 1
status_of StatesLeft = 1
status_of NotFollowed = 1
status_of NotListed = 1
status_of GaveUp = 1
status_of Refused = 2
status_of Machine = 3

abbrev pub greatest_status : List AnswerShown → ℕ
greatest_status answers = fold (λ status a. max status (status_of a.answer)) 0 answers

abbrev pub subject_by : Option TraceShown → AnswerShown → List ℕ
subject_by None a = string_bytes a.application
subject_by (Some trace) a = string_bytes trace.file

abbrev pub subject : AnswerShown → List ℕ
subject a = subject_by a.trace a

abbrev pub line_by : Option TraceShown → AnswerShown → Option ℕ
line_by None a = a.line
line_by (Some trace) a = trace.line

abbrev pub subject_line : AnswerShown → Option ℕ
subject_line a = line_by a.trace a

abbrev pub rule_of : Option Failure → AnswerKind → List ℕ
rule_of None kind = kind_name kind
rule_of (Some failure) kind = failure.rule.now

abbrev pub failed_rule : AnswerShown → List ℕ
failed_rule a = rule_of a.failure a.answer

pub record IsNew (source : Source) (kind : AnswerKind) (report : List ℕ) (a : AnswerShown) : Type 0 where
  pub command : a.command ≡ source.command
  pub application : string_bytes a.application ≡ source.application.now
  pub certificate : option_map string_bytes a.certificate ≡ option_map (λ path. path.now) source.certificate
  pub trace : a.trace ≡ None
  pub line : a.line ≡ None
  pub answer : a.answer ≡ kind
  pub report_line : string_bytes a.report ≡ report
  pub lines : a.lines.items ≡ []
  pub warnings : a.warnings.items ≡ []
  pub failure : a.failure ≡ None
  pub steps : a.steps.items ≡ []

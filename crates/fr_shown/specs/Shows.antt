-- What a report shows of an answer.
--
-- | word               | meaning                                                                                             |
-- |--------------------|-----------------------------------------------------------------------------------------------------|
-- | IsPlaceOf          | the place that is shown is this point: its number, its actor's name, its line of code               |
-- | IsPlaceIf          | so it is; or no place is shown, and there is no point                                               |
-- | other_point        | the point that a part names besides its own                                                         |
-- | IsFailureAt        | what is shown to fail is this part, at this point                                                   |
-- | edge_point, IsPossibleDeadlock | what is shown is the deadlock that a cycle of takes doesn't exclude, at its first two takes |
-- | IsFailureBy        | what is shown to fail by a verdict: nothing by a yes, but such a deadlock                           |
-- | first_point, IsEndOfRun | what is shown to be so after a run, and where                                                  |
-- | IsStepShown        | a step of a run is shown at the point at which its actor was                                        |
-- | IsRunShown         | the steps of a run are shown, with what is so after them                                            |
-- | AreDetailsIn, AreDetailsOf | what is shown to fail, and the steps of a run, by what was found, and by an answer          |
-- | IsSameWarning      | a warning is shown as it is                                                                         |
-- | Shows              | a report shows an answer                                                                            |
use Rattle.std.specs.Prelude.{◌≡◌, ℕ, List, [], ◌∷◌, Option, None, Some, IsSomeAnd, codes, map, option_map, slice_get, string_bytes}
use Rattle.fr_program.specs.declared.ids.ActorId.{ActorId}
use Rattle.fr_program.specs.declared.ids.Point.{Point}
use Rattle.fr_program.specs.Lookup.{IsPoint, actor_at}
use Rattle.fr_program.specs.Points.{point_number}
use Rattle.fr_program.specs.Program.{Program}
use Rattle.fr_formats.specs.declared.answer.AnswerShown.{AnswerShown}
use Rattle.fr_formats.specs.declared.answer.Failure.{Failure}
use Rattle.fr_formats.specs.declared.answer.PlaceShown.{PlaceShown}
use Rattle.fr_formats.specs.declared.answer.StepShown.{StepShown}
use Rattle.fr_formats.specs.declared.answer.WarningShown.{WarningShown}
use Rattle.fr_formats.specs.Names.{rule_name}
use Rattle.fr_judge.specs.declared.part.Part.{Part}
use Rattle.fr_judge.specs.declared.part.Part.TheVariants.{Entry, Rule as RulePart, Goes, Guard, Near, Spoiled}
use Rattle.fr_judge.specs.declared.part.Verdict.{Verdict}
use Rattle.fr_judge.specs.declared.part.Verdict.TheVariants.{Yes, No}
use Rattle.fr_order.specs.declared.edge.Edge.{Edge}
use Rattle.fr_order.specs.declared.order.Order.{Order}
use Rattle.fr_order.specs.declared.order.Order.TheVariants.{Upwards, Cycle}
use Rattle.fr_outcome.specs.declared.answer.What.{What}
use Rattle.fr_outcome.specs.declared.answer.What.TheVariants.{Judged, Searched, Refused}
use Rattle.fr_outcome.specs.Answers.{AreShownLinesOf, kind_of, refused_line, shown_line}
use Rattle.fr_outcome.specs.Each.{Each}
use Rattle.fr_found.specs.declared.finding.Finding.{Finding}
use Rattle.fr_found.specs.declared.finding.Finding.TheVariants.{Breach, Deadlock, Safe, Free, Unknown}
use Rattle.fr_changes.specs.declared.changes.ExplainedStep.{ExplainedStep}
use Rattle.fr_changes.specs.Explained.{IsExplainedRun, steps_in}
use Rattle.fr_report.specs.Refuted.{breach_text}
use Rattle.fr_report.specs.Report.{part_text}
use Rattle.fr_report.specs.Waits.{deadlock_text, order_text}
use Rattle.fr_shown.specs.Names.{part_name}
use Rattle.fr_states.specs.declared.step.StepTaken.{StepTaken}
use Rattle.fr_wording.specs.declared.standing.Standing.{Standing}
use Rattle.fr_wording.specs.Lines.{lines_text}
use Rattle.fr_wording.specs.Listing.{code_text}

-- ---- points

pub record IsPlaceOf (P : Program) (p : Point) (shown : PlaceShown) : Type 0 where
  pub number : IsPoint P p → shown.point ≡ point_number P p
  pub actor : string_bytes shown.actor ≡ (actor_at P p.actor.0).name
  pub index : shown.index ≡ p.pc
  pub side : shown.side ≡ p.side
  pub code : string_bytes shown.code ≡ code_text P p

-- no place is shown exactly where there is no point
abbrev pub IsPlaceIf : Program → Option Point → Option PlaceShown → Type 0
IsPlaceIf P None shown = shown ≡ None
IsPlaceIf P (Some p) shown = IsSomeAnd shown (IsPlaceOf P p)

-- ---- a verdict

-- the point that a part names besides its own
abbrev pub other_point : Part → Option Point
other_point (Goes p) = Some p
other_point (Near p) = Some p
other_point (Spoiled p) = Some p
other_point part = None

pub record IsFailureAt (P : Program) (p : Point) (part : Part) (shown : Failure) : Type 0 where
  pub rule : shown.rule.now ≡ part_name part
  pub text : string_bytes shown.text ≡ part_text P part
  pub place : IsPlaceIf P (Some p) shown.place
  pub other : IsPlaceIf P (other_point part) shown.other

-- the point of the edge with this number, if there is one
abbrev pub edge_point : List Edge → ℕ → Option Point
edge_point edges k = option_map (λ edge. edge.point) (slice_get edges k)

pub record IsPossibleDeadlock (P : Program) (order : Order) (edges : List Edge) (shown : Failure) : Type 0 where
  pub rule : shown.rule.now ≡ codes "may-deadlock"
  pub text : string_bytes shown.text ≡ order_text P order
  pub place : IsPlaceIf P (edge_point edges 0) shown.place
  pub other : IsPlaceIf P (edge_point edges 1) shown.other

-- by a no the part at the point; by a yes nothing, or the deadlock that isn't excluded
abbrev pub IsFailureBy : Program → Verdict → Option Order → Option Failure → Type 0
IsFailureBy P (No p part) waits shown = IsSomeAnd shown (IsFailureAt P p part)
IsFailureBy P Yes (Some (Cycle edges)) shown = IsSomeAnd shown (IsPossibleDeadlock P (Cycle edges) edges.items)
IsFailureBy P Yes waits shown = shown ≡ None

-- ---- a run

-- the point of the first actor of these, if there is one, and if it is at one
abbrev pub first_point : List Standing → Option Point
first_point [] = None
first_point (s ∷ rest) = s.point

pub record IsEndOfRun (P : Program) (rule text : List ℕ) (lasts : List Standing) (shown : Failure) : Type 0 where
  pub rule_named : shown.rule.now ≡ rule
  pub told : string_bytes shown.text ≡ text
  pub place : IsPlaceIf P (first_point lasts) shown.place
  pub other : shown.other ≡ None

-- the step is shown at the point at which its actor was before it, and with its choice
abbrev pub IsStepShown : Program → ExplainedStep → StepShown → Type 0
IsStepShown P step shown = IsPlaceIf P step.before.point shown.place × (shown.choice ≡ step.taken.choice)

-- the steps that were taken are shown in their order, each at the point at which its actor was in the state before it; and what is so
-- after them, at the point at which the first of these actors then is
abbrev pub IsRunShown : Program → List StepTaken → List ActorId → List ℕ → List ℕ → Option Failure → List StepShown → Type 0
IsRunShown P taken actors rule text failure shown =
    (steps : List ExplainedStep) × (lasts : List Standing) × (steps_in steps ≡ taken) × (map (λ s. s.actor) lasts ≡ actors)
    × IsExplainedRun P steps lasts × Each (IsStepShown P) steps shown × IsSomeAnd failure (IsEndOfRun P rule text lasts)

-- ---- an answer

-- by a breach or a deadlock the run into it; nothing where none was found
abbrev pub AreDetailsIn : Program → Finding → Option Failure → List StepShown → Type 0
AreDetailsIn P (Breach r) failure steps = IsRunShown P r.steps.items (r.actor ∷ []) (rule_name r.rule) (breach_text P r) failure steps
AreDetailsIn P (Deadlock d) failure steps = IsRunShown P d.steps.items (map (λ w. w.actor) d.cycle.items) (codes "deadlock") (deadlock_text P d) failure steps
AreDetailsIn P found failure steps = (failure ≡ None) × (steps ≡ [])

abbrev pub AreDetailsOf : What → Option Failure → List StepShown → Type 0
AreDetailsOf (Judged j) failure steps = IsFailureBy j.app j.verdict j.waits failure × (steps ≡ [])
AreDetailsOf (Searched s) failure steps = AreDetailsIn s.app s.found failure steps
AreDetailsOf (Refused r) failure steps = (failure ≡ None) × (steps ≡ [])

-- a warning is shown as it is
pub record IsSameWarning (warning shown : WarningShown) : Type 0 where
  pub kind : shown.kind ≡ warning.kind
  pub text : string_bytes shown.text ≡ string_bytes warning.text
  pub file : option_map string_bytes shown.file ≡ option_map string_bytes warning.file
  pub line : shown.line ≡ warning.line

-- what a report shows of an answer for the application in this file: the file, and no trace; the kind of the answer, its first line, or in
-- place of a yes that a deadlock isn't excluded, and the lines that follow; the line at which a source is refused; what fails and where,
-- and the steps of a run
pub record Shows (path : List ℕ) (what : What) (shown : AnswerShown) : Type 0 where
  pub application : string_bytes shown.application ≡ path
  pub trace : shown.trace ≡ None
  pub kind : shown.answer ≡ kind_of what
  pub first : string_bytes shown.report ≡ shown_line what
  pub lines : AreShownLinesOf what (lines_text shown.lines.items)
  pub line : shown.line ≡ refused_line what
  pub details : AreDetailsOf what shown.failure shown.steps.items

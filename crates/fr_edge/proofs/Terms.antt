-- The words that the proofs of this crate use of other crates and of its own specs, each named in one place.
pub use Rattle.std.proofs.lemmas.Option.{same_Some}
pub use Rattle.std.proofs.lemmas.List.{get_or_past, get_or-map, length-map}
pub use Rattle.std.proofs.lemmas.Bool.{cases_lt, leb-true, leb-false, false≢true}
pub use Rattle.std.proofs.lemmas.Int.{ints, by_lt_z}
pub use Rattle.fr_program.specs.declared.instr.Instr.{Instr}
pub use Rattle.fr_program.specs.declared.ids.Point.{Point}
pub use Rattle.fr_program.specs.Program.{Program, VariableOf, ObjectOf}
pub use Rattle.fr_program.specs.Lookup.{actor_at, instr_at, no_actor, IsPoint, instr_of, is_interrupt, variable_at, no_variable, object_at, no_object}
pub use Rattle.fr_program.specs.Points.{points_of, point_number}
pub use Rattle.fr_program.specs.Fault.{IsFaultless, NamesThings, OperandsFit, AreApart, IsConstant}
pub use Rattle.fr_rules.specs.State.{Place, At, Done, State, Content, place_of, Dead, CanHave, content_of, suspension_of, kind_of, start, first_content, new_content, value_of}
pub use Rattle.fr_rules.specs.declared.rules.Rule.{Rule}
pub use Rattle.fr_notes.specs.Note.{Alternative, Note, Within, range_of, Meets, HoldsOne, claim_of, Holds}
pub use Rattle.fr_notes.specs.Noted.{note_at, NotedBy, IsAt}
pub use Rattle.fr_notes.specs.Fits.{AlternativeFits}
pub use Rattle.fr_notes.proofs.Seen.{Site, other, IsKnown, Choice, drawn, IsChosen, drawn-known, drawn-content, usual, usual-chosen, filled, filled-chosen, contents-in}
pub use Rattle.fr_notes.proofs.Seen.{holds-known, known-fits, apart}
pub use Rattle.fr_program.specs.declared.ids.VarId.{VarId}
pub use Rattle.fr_program.specs.declared.ids.Side.{Side}
pub use Rattle.fr_program.specs.declared.ids.Side.TheVariants.{Before, Inside}
pub use Rattle.fr_program.specs.declared.instr.Instr.TheVariants.{Set, Call as Calls}
pub use Rattle.fr_program.specs.declared.instr.Call.TheVariants.{Create, Delete, On}
pub use Rattle.fr_program.specs.declared.instr.Act.{Act}
pub use Rattle.fr_program.specs.declared.instr.Act.TheVariants.{Try}
pub use Rattle.fr_program.specs.declared.instr.Attempt.TheVariants.{QueueSend}
pub use Rattle.fr_program.specs.declared.instr.Timing.{Timing}
pub use Rattle.fr_rules.specs.declared.way.Way.{Way}
pub use Rattle.fr_rules.specs.declared.way.Way.TheVariants.{Then, Else}
pub use Rattle.fr_rules.specs.Step.{StepBy, landing, CanStep, AlwaysLeaves}
pub use Rattle.fr_rules.specs.Rule.{number_of, decided_rules, condition_of, first_forbidden, forbids, holds_some, used_object, GivesUnheld, LifeOutOfOrder, PutsOut, SendsOut, IsOutOfQueue}
pub use Rattle.fr_rules.specs.Rule.{IsForbidden, Breaches, IsOutside, result_of, operand_of, Breach}
pub use Rattle.fr_program.specs.declared.instr.Operand.{Operand}
pub use Rattle.fr_program.specs.declared.instr.Operator.{Operator}
pub use Rattle.fr_program.specs.declared.parts.Kind.{Kind}
pub use Rattle.fr_notes.specs.Known.{Known, alone, joint_range, Keeps, IsLeft, NeverSteps}
pub use Rattle.fr_notes.specs.Reckoning.{operand_in, CanBeIn, IsNamed, HasNumbersIn, IsSpanIn}
pub use Rattle.fr_notes.specs.Spot.{condition_known}
pub use Rattle.fr_notes.specs.Alternatives.{IsAmong}
pub use Rattle.fr_notes.proofs.Shown.{listed-case, instead-same, new-live, new-not_held}
pub use Rattle.fr_notes.proofs.Holdings.{IsIn, HoldingFits, live-count, content_in, content-in, content-can, new-unheld}
pub use Rattle.fr_program.specs.declared.range.Range.{Range}
pub use Rattle.fr_edge.specs.Own.{KeepsRule, Goes, is_own}
pub use Rattle.fr_edge.specs.Alternatives.{KeepsRuleBy, BreaksRuleBy, NoteOutcome, GoesOutcome, RuleOutcome, AnyRule, lesser_of, Decides, is_decided, IsDecided, IsUndecided, may_be_live}
pub use Rattle.fr_edge.specs.Alternatives.{gives_unheld, dead_by, uses_dead, creates_live, SendsIn, SendsOutBy, StaysIn, IsOutBy, GoesBy, GoesWell, WayOutcome}
pub use Rattle.fr_edge.specs.Starts.{BeginsWithin, BeginsAs, begins_as}

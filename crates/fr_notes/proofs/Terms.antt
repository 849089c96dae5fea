-- The words that the proofs of this crate use of other crates and of its own specs, each named in one place.
pub use Rattle.std.proofs.lemmas.Bool.{false≢true, cases_lt, eqb-true}
pub use Rattle.std.proofs.lemmas.List.{take_more, take-append-drop, get_or-map, get_or_past, get_or-set_same, set-get_or, get_or_default, length-map, map_push}
pub use Rattle.std.proofs.lemmas.List.Elements.{All-head, All-tail, All-nil, All-append, All-cons, AllWithin-more, at_read, AllWithin-upto, All-from_all_within}
pub use Rattle.std.proofs.lemmas.Int.{ints, clamps, to_z-of_z}
pub use Rattle.std.proofs.lemmas.Option.{same_Some, cond_some, slice_get-get_or, IfSome_then, slice_get_past}
pub use Rattle.std.specs.Int.{int_min, int_max}
pub use Rattle.std.proofs.lemmas.Grind.{common_steps}
pub use Rattle.std.proofs.lemmas.Bool.Decides.{Decides-int_eq}
pub use Rattle.std.proofs.lemmas.List.FromFn.{length-map-range_with_len, get_or-map-range_with_len, map-range_with_len_more}
pub use Rattle.std.specs.List.{list_any, range_with_len, AllWithin}
pub use Rattle.fr_program.specs.Program.{Program, VariableOf}
pub use Rattle.fr_program.specs.declared.ids.ObjId.{ObjId}
pub use Rattle.fr_program.specs.declared.ids.VarId.{VarId}
pub use Rattle.fr_program.specs.declared.instr.Act.TheVariants.{Try, Move}
pub use Rattle.fr_program.specs.declared.instr.Attempt.{Attempt}
pub use Rattle.fr_program.specs.declared.instr.Attempt.TheVariants.{QueueSend, QueueReceive, Take, Give, Reset}
pub use Rattle.fr_program.specs.declared.instr.BufferKind.{BufferKind}
pub use Rattle.fr_program.specs.declared.instr.BufferKind.TheVariants.{Stream as OfStream, Message as OfMessage}
pub use Rattle.fr_program.specs.declared.instr.Operand.{Operand}
pub use Rattle.fr_program.specs.declared.instr.SemaphoreForm.TheVariants.{Plain as PlainForm, Recursive as RecursiveForm}
pub use Rattle.fr_program.specs.declared.instr.Timing.{Timing}
pub use Rattle.fr_program.specs.declared.instr.Timing.TheVariants.{Now}
pub use Rattle.fr_program.specs.declared.parts.Kind.{Kind}
pub use Rattle.fr_program.specs.declared.parts.Kind.TheVariants.{Queue, Mutex, Recursive, Stream, Message, Binary, Counting}
pub use Rattle.fr_program.specs.declared.range.Range.{Range}
pub use Rattle.fr_program.specs.Limits.{KindInLimits, ActInLimits, InstrInLimits}
pub use Rattle.fr_program.specs.Timings.{suits_timing}
pub use Rattle.fr_program.specs.Uses.{attempts_on, is_buffer, written_by, operand_variables, acts_on, act_variables, option_list}
pub use Rattle.fr_rules.specs.declared.way.Way.TheVariants.{Then, Else}
pub use Rattle.fr_rules.specs.State.{State, Content, Values, CanHave, content_of, kind_of, new_content, becomes, Bytes, Lengths, Dead, count_held, Count, Free, Held, IsWellFormed, value_of, depth_of}
pub use Rattle.fr_rules.specs.State.{suspension_of, write, depth_in, in_critical, critical_at, suspend_at, At, goes_to, Place, Done, Exists, held_at}
pub use Rattle.fr_rules.specs.Rule.{operand_of, is_unsuited, given_kind, GivesUnheld, LacksMutex, used_object, Breaches, IsForbidden, condition_of, forbids, first_forbidden, decided_rules, holds_some}
pub use Rattle.fr_rules.specs.Rule.{UsesDead, result_of}
pub use Rattle.fr_rules.specs.Step.{Works, Puts, taken, given, queued, can_fail, Completes, Moves, sent_bytes, received_bytes, sent_message, received_message, with_result, transition, IsFree, StepBy}
pub use Rattle.fr_rules.specs.Step.{Row, stops, Transition, landing, is_full}
pub use Rattle.fr_program.specs.declared.ids.Point.{Point}
pub use Rattle.fr_program.specs.declared.instr.Instr.{Instr}
pub use Rattle.fr_program.specs.declared.instr.Instr.TheVariants.{Set, Call as Calls, Goto, Return, If, Pick}
pub use Rattle.fr_program.specs.declared.instr.Operand.TheVariants.{Number, Variable}
pub use Rattle.fr_program.specs.declared.instr.Operator.{Operator}
pub use Rattle.fr_program.specs.declared.instr.Operator.TheVariants.{Plus, Minus, Times}
pub use Rattle.fr_program.specs.Fault.{IsConstant, AreApart, OperandsFit, IsFaultless, NamesThings}
pub use Rattle.fr_rules.specs.declared.way.Way.{Way}
pub use Rattle.fr_program.specs.declared.instr.Act.{Act}
pub use Rattle.fr_program.specs.declared.instr.Comparison.TheVariants.{Less, AtMost, Greater, AtLeast, Equal, NotEqual}
pub use Rattle.fr_program.specs.Spans.{IsIn, IsSpan, IsScaled}
pub use Rattle.fr_program.specs.declared.instr.ObjectCall.{ObjectCall}
pub use Rattle.fr_program.specs.declared.ids.Side.{Side}
pub use Rattle.fr_program.specs.declared.ids.Side.TheVariants.{Inside, Before}
pub use Rattle.fr_program.specs.declared.instr.Call.TheVariants.{On, Create, Delete, ExitCritical, ResumeAll, EnterCritical, SuspendAll, Yield, Delay, DeleteSelf}
pub use Rattle.fr_rules.specs.declared.rules.Rule.TheVariants.{IsLive, GivenByHolder, AllowedInCritical, AllowedSuspended, AllowedInInterrupt, SuitsSemaphore, DepthAboveZero, EndsInOrder}
pub use Rattle.fr_rules.proofs.Free.{inside-free, live-use, no-use, before-free}
pub use Rattle.fr_program.specs.Lookup.{no_object, IsPoint, variable_at, no_variable, actor_at, is_interrupt, instr_of, instr_at, no_actor}
pub use Rattle.fr_rules.proofs.Built.{HasSizes, is-built}
pub use Rattle.fr_rules.proofs.Contents.{new-fits}
pub use Rattle.fr_program.specs.declared.instr.Form.{Form}
pub use Rattle.fr_program.specs.declared.ids.ActorId.{ActorId}
pub use Rattle.fr_program.proofs.FaultLemmas.{refuted}
pub use Rattle.fr_notes.specs.Note.{Note, Within, HeldTimes, Claim, NotHeld, Alive, Gone, claim_of, Meets, Alternative, HoldsOne, Holds, range_of}
pub use Rattle.fr_notes.specs.Fits.{AlternativeFits, NoteFits, CanClaim, ClaimsFit, RangesFit, most_depth, IsWithinDeclared}
pub use Rattle.fr_notes.specs.Alternatives.{IsAmong, joined}
pub use Rattle.fr_notes.specs.View.{ends_of, alternative_of}
pub use Rattle.fr_notes.specs.Holding.{Holding, Living, Own, worked_by, can_fail_on, is_mutex, is_given_unheld, holding, holding_of, others_claim, living, mover_claim, taken_by, given_by, Unheld}
pub use Rattle.fr_notes.specs.Holding.{Lifeless, Others, other_claim, can_be_dead, can_be_full}
pub use Rattle.fr_notes.specs.Results.{results_of, size_of, least_moved, failed_into}
pub use Rattle.fr_notes.specs.declared.change.Change.{Change}
pub use Rattle.fr_notes.specs.Known.{Known, IsLeft, KnownFits, IsOther, NeverSteps, taught, ClaimsMeet, HasKnown, AllLeave, Says, joint_range, joint_claim, claim_after, other_after, AreCompatible}
pub use Rattle.fr_notes.specs.Known.{beside, is_other_critical, meet_of, is_held, claims_some, IsPossible}
pub use Rattle.fr_notes.specs.Reckoning.{IsNamed, operand_in, CanBeIn, IsSpanIn, IsBranchIn, NoBranchIn}
pub use Rattle.fr_notes.specs.Spot.{LeavesBefore, unchanged, IsEnd, EndLeaves, resulting, IsSpot, IsUnforbidden, claiming, condition_known, Leaves}
pub use Rattle.fr_notes.specs.Comparison.{Compares, IsBelow, IsLeast, turned, AreLeast, NoPair, IsWithout}
pub use Rattle.fr_notes.specs.Implication.{ClaimImplies, IsPart, IsStronger, ImpliesSome}
pub use Rattle.fr_notes.specs.Compare.{Implies, AreTogether}
pub use Rattle.fr_notes.specs.Change.{new_range, range_after, Turns, narrowed_to}
pub use Rattle.fr_notes.specs.Noted.{NotedBy}
pub use Rattle.fr_notes.specs.Pairs.{CanMeet, MeetsSome, RangesMeet}
pub use Rattle.fr_notes.specs.Parts.{names, count_in, count_said, unheld_said, claim_by, claim_said, range_in, range_by, range_said, said, IsCount, IsNarrowing, is_live_said, HasFault}

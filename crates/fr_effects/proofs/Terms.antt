-- The words that the proofs of this crate, and of the crate above it, use of other crates and of its own specs, each named in one place.
pub use Rattle.std.proofs.lemmas.Int.{ints, by_lt_z}
pub use Rattle.std.proofs.lemmas.Option.{slice_get-get_or, same_Some, cond_some}
pub use Rattle.std.proofs.lemmas.List.Elements.{All-contains, Contains-get_or, Contains-push, Contains-push_cases, Contains-append_left}
pub use Rattle.std.proofs.lemmas.Bool.{cases_lt, cases_eq, eqb-true}
pub use Rattle.std.proofs.lemmas.List.{length-replicate, get_or-replicate, get_or_past, get_or-set_same, get_or-set_other, set_past, length-set, get_or_default, length_push, length-map, map-set}
pub use Rattle.std.proofs.lemmas.List.{get_or_push, get_or_append_left, get_or-map, map_push, replicate-append-replicate}
pub use Rattle.std.proofs.lemmas.List.FromFn.{length-map-range_with_len, get_or-map-range_with_len}
pub use Rattle.std.specs.List.{range_with_len}
pub use Rattle.fr_program.specs.declared.ids.Point.{Point}
pub use Rattle.fr_program.specs.declared.ids.Side.{Side}
pub use Rattle.fr_program.specs.declared.ids.Side.TheVariants.{Before, Inside}
pub use Rattle.fr_program.specs.declared.instr.Instr.{Instr}
pub use Rattle.fr_program.specs.declared.instr.Instr.TheVariants.{Set, Pick, Call as Calls, If, Goto, Return}
pub use Rattle.fr_program.specs.declared.instr.Call.{Call}
pub use Rattle.fr_program.specs.declared.instr.Call.TheVariants.{Create, Delete, On, EnterCritical, ExitCritical, SuspendAll, ResumeAll, Yield, Delay, DeleteSelf}
pub use Rattle.fr_program.specs.declared.instr.ObjectCall.{ObjectCall}
pub use Rattle.fr_program.specs.declared.instr.Act.{Act}
pub use Rattle.fr_program.specs.declared.instr.Act.TheVariants.{Try, Move}
pub use Rattle.fr_program.specs.declared.instr.Attempt.TheVariants.{QueueReceive, QueueSend, Take, Give, Reset}
pub use Rattle.fr_program.specs.declared.instr.Operand.{Operand}
pub use Rattle.fr_program.specs.declared.instr.Operand.TheVariants.{Number, Variable}
pub use Rattle.fr_program.specs.declared.instr.Operator.{Operator}
pub use Rattle.fr_program.specs.declared.instr.Operator.TheVariants.{Times}
pub use Rattle.fr_program.specs.declared.parts.Kind.{Kind}
pub use Rattle.fr_program.specs.declared.parts.Kind.TheVariants.{Queue, Binary, Counting, Mutex, Recursive, Stream, Message}
pub use Rattle.fr_program.specs.declared.range.Range.{Range}
pub use Rattle.fr_program.specs.Spans.{IsIn}
pub use Rattle.fr_program.specs.Program.{Program}
pub use Rattle.fr_program.specs.Lookup.{instr_of, no_object, IsPoint, no_variable, variable_at}
pub use Rattle.fr_program.specs.Uses.{acts_on, is_buffer, act_variables}
pub use Rattle.fr_program.specs.Fault.{IsFaultless, OperandsFit, NamesThings}
pub use Rattle.fr_rules.specs.State.{State, kind_of, Content, Dead, Values, Count, Free, Held, Bytes, Lengths, CanHave, IsWellFormed, content_of, value_of, depth_in, depth_of, suspension_of}
pub use Rattle.fr_rules.specs.State.{count_held, new_content, write, becomes, suspend_at, held_at}
pub use Rattle.fr_rules.specs.Rule.{operand_of, result_of, GivesUnheld, is_unsuited}
pub use Rattle.fr_rules.specs.declared.way.Way.{Way}
pub use Rattle.fr_rules.specs.declared.way.Way.TheVariants.{Then, Else}
pub use Rattle.fr_rules.specs.Step.{StepBy, Row, Does, Works, Ends, Puts, Moves, with_result, transition, taken, given, queued, moved_bytes, sent_message, received_message}
pub use Rattle.fr_notes.specs.declared.claim.Claim.TheVariants.{NotHeld, Alive, Gone, HeldTimes}
pub use Rattle.fr_notes.specs.Note.{Alternative, Note, HoldsOne, Within, claim_of, range_of, Meets}
pub use Rattle.fr_notes.specs.Reckoning.{CanBeIn, IsSpanIn}
pub use Rattle.fr_notes.specs.View.{ends_of}
pub use Rattle.fr_notes.specs.Known.{Known, HasKnown, alone, beside, joint_range, AllLeave, IsLeft, IsOther, LeavesSome, KnownFits}
pub use Rattle.fr_program.specs.declared.ids.ActorId.{ActorId}
pub use Rattle.fr_program.specs.Points.{points_of, point_number}
pub use Rattle.fr_program.specs.PointNumbers.{PointsAreNumbered}
pub use Rattle.fr_notes.specs.Noted.{note_at}
pub use Rattle.fr_notes.specs.Fits.{AlternativeFits, NoteFits}
pub use Rattle.fr_notes.specs.Pairs.{CanMeet}
pub use Rattle.fr_notes.proofs.PairLaws.{compatible-from, compatible-meet, meet-compatible}
pub use Rattle.fr_program.specs.declared.ids.ObjId.{ObjId}
pub use Rattle.fr_program.specs.declared.ids.VarId.{VarId}
pub use Rattle.fr_program.specs.declared.instr.Attempt.{Attempt}
pub use Rattle.fr_program.specs.declared.instr.End.{End}
pub use Rattle.fr_program.specs.declared.instr.End.TheVariants.{Writer, Reader}
pub use Rattle.fr_program.specs.declared.instr.Timing.{Timing}
pub use Rattle.fr_program.specs.declared.instr.BufferKind.{BufferKind}
pub use Rattle.fr_program.specs.declared.instr.BufferKind.TheVariants.{Stream as OfStream, Message as OfMessage}
pub use Rattle.fr_rules.proofs.Contents.{set_case}
pub use Rattle.fr_notes.specs.declared.claim.Claim.{Claim}
pub use Rattle.fr_notes.specs.Alternatives.{IsAmong}
pub use Rattle.fr_notes.proofs.Shown.{depth_for-other, held_at-other}
pub use Rattle.fr_program.specs.View.{variable_of, object_of}
pub use Rattle.fr_effects.specs.declared.effects.Effect.{Effect}
pub use Rattle.fr_effects.specs.declared.effects.Effect.TheVariants.{Life, Gives, Sets, Nothing}
pub use Rattle.fr_effects.specs.Disturbance.{IsSparedByRow, IsSparedByRows, SparesSome}
pub use Rattle.fr_effects.specs.Effects.{effect_inside, effect_of, IsMade, IsWritten, IsSeen, Bears, EachBears, AllBear, IsComputable, effect_at, target_of, made_of, declared_of}
pub use Rattle.fr_effects.specs.Effects.{HasTarget}
pub use Rattle.fr_effects.specs.Undisturbed.{Undisturbed}
pub use Rattle.fr_effects.specs.Index.{IndexOf, Lists, list_at, CanLeave, IsIndexBelow}
pub use Rattle.fr_effects.specs.Listing.{enlisted}

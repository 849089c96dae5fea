-- The words that the proofs of this crate use of other crates and of its own specs, each named in one place.
pub use Rattle.fr_effects.proofs.Terms.{ints, by_lt_z, slice_get-get_or, same_Some, cond_some, All-contains, Contains-get_or, Contains-push, Contains-append_left, cases_lt, cases_eq, eqb-true}
pub use Rattle.fr_effects.proofs.Terms.{length-replicate, get_or-replicate, get_or_past, get_or-set_same, get_or-set_other, set_past, length-set, get_or_default, length_push, length-map, get_or_push}
pub use Rattle.fr_effects.proofs.Terms.{get_or_append_left, length-map-range_with_len, get_or-map-range_with_len, range_with_len, Point, Side, Before, Inside, Instr, Set, Pick, Calls, If, Goto}
pub use Rattle.fr_effects.proofs.Terms.{Return, Call, Create, Delete, On, EnterCritical, ObjectCall, Act, Try, Move, QueueReceive}
pub use Rattle.fr_effects.proofs.Terms.{QueueSend, Take, Give, Reset, Operand, Number, Variable, Operator, Times, Kind, Queue, Binary, Counting, Mutex, Recursive, Stream, Message, Range, Program}
pub use Rattle.fr_effects.proofs.Terms.{instr_of, no_object, IsPoint, no_variable, variable_at, acts_on, act_variables, IsFaultless, NamesThings, State, kind_of, Content, Dead, Values, Count, Free}
pub use Rattle.fr_effects.proofs.Terms.{Held, Bytes, Lengths, content_of, value_of, new_content, write, becomes, operand_of, result_of, Way, Then, Else, Row, Does, Works, Puts, with_result}
pub use Rattle.fr_effects.proofs.Terms.{transition, taken, given, queued, moved_bytes, sent_message, received_message, NotHeld, Alternative, Note, Within, claim_of, range_of, CanBeIn, IsSpanIn}
pub use Rattle.fr_effects.proofs.Terms.{ends_of, joint_range, ActorId, points_of, point_number, PointsAreNumbered, note_at, AlternativeFits, NoteFits, CanMeet, ObjId, VarId, Attempt, End, Writer}
pub use Rattle.fr_effects.proofs.Terms.{Reader, Timing, BufferKind, OfStream, OfMessage, set_case, Claim, variable_of, object_of, effect_inside, effect_of, Bears}
pub use Rattle.fr_effects.proofs.Terms.{AllBear, effect_at, target_of, made_of, declared_of, HasTarget, Undisturbed, IndexOf, Lists, list_at, CanLeave}
pub use Rattle.fr_effects.specs.declared.effects.Effect.{Effect}
pub use Rattle.fr_effects.specs.declared.effects.Effect.TheVariants.{Life, Gives, Sets, Nothing}
pub use Rattle.std.proofs.lemmas.Int.{clamps, to_z-of_z}
pub use Rattle.std.proofs.lemmas.List.Elements.{AllWithin-more, AllWithin-upto, All-from_all_within, at_read, All-push}
pub use Rattle.std.proofs.lemmas.Bool.{false≢true}
pub use Rattle.std.proofs.lemmas.List.{length-take, length-drop, get_or-take, get_or-drop, with_items_is}
pub use Rattle.std.proofs.lemmas.List.FromFn.{length-range_with_len}
pub use Rattle.std.specs.Int.{int_min, int_max}
pub use Rattle.std.specs.List.{AllZip, AllWithin}
pub use Rattle.fr_program.specs.declared.instr.Operator.TheVariants.{Plus, Minus}
pub use Rattle.fr_program.specs.Uses.{attempts_on}
pub use Rattle.fr_program.specs.Fault.{CoversQueue, TakesIn, ResultsFit}
pub use Rattle.fr_rules.specs.Rule.{UsesDead}
pub use Rattle.fr_rules.specs.Step.{Completes}
pub use Rattle.fr_notes.specs.Known.{ClaimsMeet}
pub use Rattle.fr_notes.specs.Fits.{NotesFit}
pub use Rattle.fr_notes.specs.Pairs.{RangesMeet}
pub use Rattle.fr_notes.proofs.Shown.{listed, instead, instead-same}
pub use Rattle.fr_program.specs.Limits.{InstrInLimits, KindInLimits}
pub use Rattle.fr_notes.specs.Implication.{IsPart}
pub use Rattle.rayon.proofs.ListFacts.{IfOk-then}
pub use Rattle.rayon.proofs.ToStd.{nat_range-All}
pub use Rattle.fr_effects.specs.Disturbance.{IsSpoiler}
pub use Rattle.fr_effects.specs.Effects.{effect_by, Stays, IsFree, IsUnclaimed}
pub use Rattle.fr_interfere.specs.declared.rows.Block.{Block}
pub use Rattle.fr_interfere.specs.Hull.{IsClosedBy, Has, GivesIn, Covers, IsUnder, IsShut, IsDenied, IsApart, Excludes, IsBorne, IsBorneByEach, Spares, AreUnder, CoversClaims, CoversRanges}
pub use Rattle.fr_interfere.specs.Rows.{IsBlock, HaveWriters, AreClosed, IsTold, AreHullsOf, AreListed, AreRows, IsBlockAt, HasRun, IsInRun, IsInSome, IsRow, IsRun, WritesOne}
pub use Rattle.fr_interfere.specs.Spoilers.{IsListed, IsFirstOf, WritesInside, MakesOne, IsBelow, least_of}
pub use Rattle.fr_effects.specs.Index.{IsIndexOf}
pub use Rattle.fr_interfere.specs.declared.hull.Hull.{Hull}
pub use Rattle.fr_interfere.specs.declared.rows.Run.{Run}
pub use Rattle.fr_interfere.specs.Staying.{AllStay, StaysAt}

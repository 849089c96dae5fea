-- The words that the proofs of this crate use of other crates and of its own specs, each named in one place.
pub use Rattle.std.proofs.lemmas.Option.{same_Some, slice_get_within}
pub use Rattle.std.proofs.lemmas.Bool.{false≢true, eqb-true, cases_lt}
pub use Rattle.std.proofs.lemmas.Bool.Decides.{eqb_tells}
pub use Rattle.std.proofs.lemmas.List.Elements.{All-head, All-tail, All-cons, All-nil}
pub use Rattle.fr_program.specs.declared.instr.Instr.{Instr}
pub use Rattle.fr_program.specs.declared.instr.Instr.TheVariants.{Call as Calls, Goto, Return}
pub use Rattle.fr_program.specs.declared.instr.Call.TheVariants.{Delete, On, Create}
pub use Rattle.fr_program.specs.declared.ids.Point.{Point}
pub use Rattle.fr_program.specs.declared.ids.Side.{Side}
pub use Rattle.fr_program.specs.declared.ids.Side.TheVariants.{Before, Inside}
pub use Rattle.fr_program.specs.Program.{Program, ActorOf}
pub use Rattle.fr_program.specs.Fault.{IsFaultless, EachInstr, EndsWell}
pub use Rattle.fr_program.specs.Lookup.{IsPoint, instr_of, HasSide, instr_at, no_actor, IsPlace, actor_at}
pub use Rattle.fr_program.specs.Points.{points_of, point_number}
pub use Rattle.fr_program.proofs.PointLaws.{points_are_numbered}
pub use Rattle.fr_effects.specs.Effects.{effect_at, effect_by, made_of}
pub use Rattle.fr_effects.specs.Index.{Lists}
pub use Rattle.fr_effects.proofs.IndexLaws.{AreChecked, checked-point, in-list, listed-point, checked-more, numbers-below, earlier}
pub use Rattle.fr_notes.specs.Note.{Note, HoldsOne, Holds}
pub use Rattle.fr_ends.specs.Guarded.{deleted_before, Near, called_inside, Guarded}
pub use Rattle.fr_ends.specs.Nearness.{used_inside, are_same, deletes_used}
pub use Rattle.fr_ends.proofs.NearLaws.{near-unused, clash-found, found-clash}
pub use Rattle.fr_program.specs.declared.instr.ObjectCall.{ObjectCall}
pub use Rattle.fr_program.specs.declared.ids.ActorId.{ActorId}
pub use Rattle.fr_program.specs.declared.instr.End.{End}
pub use Rattle.fr_rules.specs.Rule.{is_at_end, Stands, Breaches, Breach, SharesEnd, LifeOutOfOrder, IsInside, number_of}
pub use Rattle.fr_edge.specs.Own.{is_own, KeepsRule, Goes}
pub use Rattle.fr_ends.specs.Certificate.{Certificate, HasGuard, guard_for, HasDistinctTurns, AllHaveDistinctTurns, same_end}
pub use Rattle.fr_program.specs.declared.instr.End.TheVariants.{Writer, Reader}
pub use Rattle.fr_edge.specs.FirstOwn.{IsFirstOwn}
pub use Rattle.fr_rules.specs.State.{State, At, goes_to, Done, Exists, start, Content, Held, content_of, depth_in, count_held, IsWellFormed, place_of}
pub use Rattle.fr_rules.specs.declared.rules.Rule.{Rule}
pub use Rattle.fr_rules.specs.declared.way.Way.{Way}
pub use Rattle.fr_rules.specs.Step.{StepBy, Row, landing, transition, Step}
pub use Rattle.fr_notes.specs.Noted.{IsAt, Noted, note_at, NotedBy}
pub use Rattle.fr_rules.specs.declared.rules.Rule.TheVariants.{OneWriter, OneReader, LifeInOrder, InRange, GivenByHolder, AllowedInCritical, AllowedSuspended, AllowedInInterrupt, IsLive}
pub use Rattle.fr_rules.specs.declared.rules.Rule.TheVariants.{SuitsSemaphore, DepthAboveZero, EndsInOrder}
pub use Rattle.fr_rules.specs.Run.{Follows, IsRun, IsSafe}
pub use Rattle.fr_ends.specs.Guard.{Guard, EndGuard, Sole, ByMutex, InCritical, Turn}
pub use Rattle.fr_ends.specs.Fits.{CertificateFits, GuardFits, EndFits}
pub use Rattle.fr_judge.specs.Part.{Part, EntryPart, RulePart, GoesPart, GuardPart, NearPart, SpoiledPart, IsKept, end_number, place_in_order, ComesBefore}
pub use Rattle.fr_judge.specs.Owed.{IsInsideDeleted, IsOwed, OnlyOwedPartsFail}
pub use Rattle.fr_judge.specs.declared.part.Part.{Part as Told}
pub use Rattle.fr_judge.specs.Verdict.{KeepsAll, IsFirstPart, Yes, No, IsCertified, IsVerdictOne}
pub use Rattle.fr_judge.specs.Told.{part_of_own, TellsFirst, IsPartOf, TellsVerdict, told_part, Speaks}
pub use Rattle.fr_judge.specs.Sound.{KeepsNotes, Certified, StartKeepsNotes, StepKeepsNotes, NotesExcludeBreaches, IsSound}

-- The words that the proofs of this crate use of other crates and of its own specs, each named in one place.
pub use Rattle.std.specs.declared.alloc.Global.{Global}
pub use Rattle.std.proofs.lemmas.List.{map-append, take_more}
pub use Rattle.std.proofs.KnownBytes.{Appends-trans, Appends-nil}
pub use Rattle.fr_formats.specs.Answers.{status_of as kind_status}
pub use Rattle.fr_wording.specs.Lines.{lines_text}
pub use Rattle.fr_trail.specs.declared.answer.TraceAnswer.{TraceAnswer}
pub use Rattle.fr_outcome.specs.Each.{Each}
pub use Rattle.fr_inputs.specs.Inputs.{Reading, Reads}
pub use Rattle.fr_outcome.proofs.Printed.{each-more, status-most}
pub use Rattle.fr_formats.specs.declared.answer.AnswerKind.{AnswerKind}
pub use Rattle.fr_traces.specs.Traces.{AreTraces, AreTracesPrinted, IsAnswerAt, IsFollowDone, IsFollowWritten, IsReadAs, IsTrailPage, PutsAnswerOf, PutsSomeOf, ShowsTrace, TraceAnswerAt, answered_at, greater_of, is_several}
pub use Rattle.fr_traces.specs.Traces.{text_at}

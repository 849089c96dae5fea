-- The words that the proofs of this crate use of other crates and of its own specs, each named in one place.
pub use Rattle.std.proofs.lemmas.List.{map-append, take_more}
pub use Rattle.std.proofs.lemmas.List.Elements.{All-append, All-cons, All-nil, All-head, All-tail}
pub use Rattle.std.proofs.KnownBytes.{Appends-trans, Appends-nil}
pub use Rattle.std.specs.Io.KnownBytes.{Appends}
pub use Rattle.std.specs.declared.alloc.Global.{Global}
pub use Rattle.std.specs.Option.{is_some}
pub use Rattle.fr_formats.specs.declared.answer.AnswerShown.{AnswerShown}
pub use Rattle.fr_list.specs.Means.{Entry, shown}
pub use Rattle.fr_list.specs.Beside.{beside}
pub use Rattle.fr_inputs.specs.Inputs.{Reading, Reads, AsApp}
pub use Rattle.fr_outcome.specs.declared.answer.What.{What}
pub use Rattle.fr_outcome.specs.Answers.{what_status, kind_of_judged, kind_of_finding, IsAnsweredFor, IsProofOf, IsSettledIn, IsSearchOf, IsVerdictOn, HasFound, IsYes, kind_of, AreLinesOf}
pub use Rattle.fr_outcome.specs.Answers.{second_text, first_line}
pub use Rattle.fr_outcome.specs.Each.{Each, IsAdded}
pub use Rattle.fr_outcome.proofs.Printed.{each-more, status-most}
pub use Rattle.fr_program.specs.Program.{Program}
pub use Rattle.fr_judge.specs.declared.part.Verdict.TheVariants.{Yes as TellsYes, No as TellsNo, Yes}
pub use Rattle.fr_judge.specs.Told.{TellsVerdict}
pub use Rattle.fr_request.specs.declared.format.Format.{Format}
pub use Rattle.fr_outcome.specs.declared.answer.What.TheVariants.{Judged, Searched, Refused}
pub use Rattle.fr_inputs.proofs.Looking.{may-of}
pub use Rattle.fr_wording.specs.Lines.{lines_text}
pub use Rattle.fr_answer.specs.Commands.{AreAnswered, AreLinesPrinted, IsLineAdded, IsLineAnswer, IsLinePrinted, IsLineText, LineAnswer, greater_status, AreEachSafe, AreNamedSafe, IsAnswerBy}
pub use Rattle.fr_shown.specs.Shows.{Shows}
pub use Rattle.fr_answer.specs.Commands.{IsCheckAnswered, IsCheckOf, IsProofAt, IsSafeAt, IsSearchAt, IsGiven, IsKept, AreShown, IsListed, AreMore, PutsYes}
pub use Rattle.fr_printing.specs.Printing.{IsShown, IsPaged, IsPrinted}

-- A report in each form.
use Rattle.std.specs.Prelude.{◌≡◌, ℕ, List}
use Rattle.fr_request.specs.declared.format.Format.{Format}
use Rattle.fr_request.specs.declared.format.Format.TheVariants.{Json, Sarif, Junit}
use Rattle.fr_formats.specs.declared.answer.AnswerShown.{AnswerShown}
use Rattle.fr_formats.specs.Json.{json_of}
use Rattle.fr_formats.specs.Sarif.{IsSarif}
use Rattle.fr_formats.specs.Junit.{junit_of}

abbrev pub IsReport : Format → List AnswerShown → List ℕ → Type 0
IsReport Json answers text = text ≡ json_of answers
IsReport Sarif answers text = IsSarif answers text
IsReport Junit answers text = text ≡ junit_of answers

use Rattle.std.proofs.Common.{◌≡◌, Ok, Result, sym, ◌∙◌, ap, rules}
use Rattle.std.proofs.lemmas.Fmt.{parse-signed_decimal, IsAscii-signed}
use Rattle.std.proofs.lemmas.Str.{IsUtf8-from_ascii}
use Rattle.std.proofs.lemmas.Bool.{false≢true}
use Rattle.std.proofs.lemmas.Slice.Eq.{bytes_eq-Decides}
use Rattle.std.specs.Int.{w64}
use Rattle.std.specs.Fmt.{signed_decimal}
use Rattle.fr_instr.proofs.NumberLaws.{small}
use Rattle.fr_instr.proofs.number.number_of.Goals as goal

pub returns-in_default-from_utf8-clause-none : goal.returns-in_default-from_utf8-clause-none
returns-in_default-from_utf8-clause-none c z fits same = c.in_default-from_utf8.ensures.cases.0 (rw same (IsUtf8-from_ascii (signed_decimal z) (IsAscii-signed z (small z fits))))

pub returns-in_default-parse-clause-none : goal.returns-in_default-parse-clause-none
returns-in_default-parse-clause-none c z fits same =
    c.in_default-parse.not-Ok z (parse-signed_decimal w64 z c.in-Ok.digits.now c.parse.result fits (small z fits) (c.in-Ok.ensures.cases.0 ∙ same) c.parse.ensures.value.0)

same_ok : {T E : Type 0} (r : Result T E) (x y : T) → r ≡ Ok x → r ≡ Ok y → x ≡ y
same_ok r x y p q = cc

pub returns-else-eq-clause-none : goal.returns-else-eq-clause-none
returns-else-eq-clause-none c z fits same =
    let read = parse-signed_decimal w64 z c.in-Ok.digits.now c.parse.result fits (small z fits) (c.in-Ok.ensures.cases.0 ∙ same) c.parse.ensures.value.0 in
    let number = same_ok c.parse.result c.in-Ok-parse.n z c.in-Ok-parse.is read in
    let shown : c.format.result.now ≡ signed_decimal c.in-Ok-parse.n = search (rules, c.format.ensures.text) in
    false≢true (sym c.if-eq.false ∙ c.eq.ensures ∙ (bytes_eq-Decides c.as_bytes.result.now c.args.text.now).1 (c.as_bytes.ensures.value ∙ shown ∙ ap signed_decimal number ∙ sym same))

-- Without a plus in front `parse` takes just the words.
use Rattle.std.proofs.Common.{◌≢◌, ◌∙◌, get_or, sym, subst, arith, Option, IfSome, IfNone, ℕ}
use Rattle.std.proofs.lemmas.Bool.{false≢true}
use Rattle.std.proofs.lemmas.Str.Pattern.{starts_char}
use Rattle.std.proofs.lemmas.Str.Parse.{parse_plain}
use Rattle.fr_findings.specs.Words.{IsRunWord}
use Rattle.fr_findings.proofs.WordsLaws.{own, word-by}
use Rattle.fr_findings.proofs.words.word_of.Goals as goal

pub returns : goal.returns
returns c =
    let text = c.args.text.now in
    let plain : get_or text 0 0 ≢ 43 = λ e. false≢true (sym c.if-starts_with.false ∙ (starts_char 43 text c.starts_with.result c.starts_with.ensures.cases (omega arith) (omega arith)).1 e) in
    let number = parse_plain own 64 text c.parse.result c.parse.ensures.value.0 plain in
    let h = word-by text c.parse.result number in
    let same = sym c.ok.ensures.value in
    record {
      some = subst (λ (o : Option ℕ). IfSome o (IsRunWord text)) same h.0;
      none = subst (λ (o : Option ℕ). IfNone o ((w : ℕ) → IsRunWord text w → ⊥)) same h.1;
    }

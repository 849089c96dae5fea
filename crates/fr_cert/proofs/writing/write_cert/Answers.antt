use Rattle.std.proofs.Common.{◌∙◌, ap}
use Rattle.fr_cert.proofs.Terms.{IfOk-weaker, has_float, compact_text}
use Rattle.std.proofs.lemmas.Str.{IsUtf8-string_bytes}
use Rattle.fr_cert.specs.Written.{cert_text}
use Rattle.fr_cert.proofs.ShapeLemmas.{no_float}
use Rattle.fr_cert.proofs.WrittenLaws.{written_again}
use Rattle.fr_cert.proofs.writing.write_cert.Goals as goal

pub returns-clause-written : goal.returns-clause-written
unfolding cert_text
returns-clause-written c =
    let P = c.args.app.now in
    let C = c.args.certificate.now in
    let tree = c.in_ok-value.ensures in
    IfOk-weaker c.to_string.result _ _ (λ s text. text (ap has_float tree ∙ no_float P C) ∙ ap compact_text tree) c.to_string.ensures.text

pub returns-clause-again : goal.returns-clause-again
returns-clause-again c =
    let P = c.args.app.now in
    let C = c.args.certificate.now in
    IfOk-weaker c.to_string.result _ _ (λ s parsed size. written_again P C _ _ c.recall_faultless.ensures c.requires c.in_ok-value.ensures (IsUtf8-string_bytes s) parsed size) c.to_string.ensures.reads_back

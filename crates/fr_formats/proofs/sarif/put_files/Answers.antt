use Rattle.std.proofs.Common.{◌++◌, [], ◌∙◌, ap, sym, take, codes}
use Rattle.std.proofs.lemmas.List.{take_all}
use Rattle.fr_formats.specs.Tokens.{array}
use Rattle.fr_formats.specs.Sarif.{added, artifacts, files}
use Rattle.fr_formats.proofs.Chains.{next}
use Rattle.fr_formats.proofs.SarifLaws.{artifacts_next}
use Rattle.fr_formats.proofs.sarif.put_files.Goals as goal

pub loop-index-preserved : goal.loop-index-preserved
loop-index-preserved c =
    let answers = c.args.answers.now in
    let i = c.loop-index.index in
    let a = c.index-answers-index.result in
    next _ _ _ (artifacts [] (take i answers)) (added (take i answers) a) c.loop-index.invariant c.in_ok-put_new.ensures
    ∙ ap (λ l. c.put_piece.new.self.tokens ++ l) (sym (artifacts_next answers i a c.loop-index-test.true c.index-answers-index.is))

pub returns : goal.returns
unfolding files
returns c =
    let answers = c.args.answers.now in
    let all = rw (take_all c.loop-index.index answers c.loop-index-test.false) at c.loop-index.invariant in
    next c.args.out.now.tokens _ _ (array (codes "artifacts")) (artifacts [] answers) c.in_ok-put_piece.ensures all

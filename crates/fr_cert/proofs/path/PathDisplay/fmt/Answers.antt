-- Each turn writes one step more behind a `/`.
use Rattle.std.proofs.Common.{◌++◌, codes, map, take, refl, sym, subst, ap, ◌∙◌, append-nil, rules}
use Rattle.fr_cert.proofs.Terms.{HasWritten, take_all, step_of, step_text, more_text, path_text}
use Rattle.std.proofs.lemmas.Grind.{put_two}
use Rattle.fr_cert.proofs.PathLemmas.{more_next}
use Rattle.fr_cert.proofs.path.PathDisplay.fmt.Goals as goal

pub loop-step-init : goal.loop-step-init
loop-step-init g c = λ plain. (
  step_of c.in-Some.first.now,
  search rules,
  rw (append-nil (step_text (step_of c.in-Some.first.now))) (c.in_ok-write.ensures.writes plain refl),
)

pub loop-step-preserved : goal.loop-step-preserved
loop-step-preserved g c = λ plain.
    let so_far = c.loop-step.invariant plain in
    let steps = c.in-Some.rest.now in
    let i = c.loop-step.step-index in
    let before = step_text so_far.0 ++ more_text (map step_of (take i steps)) in
    let here = ap (λ d. before ++ (codes "/" ++ step_text (step_of d))) c.step-item.is in (
      so_far.0,
      so_far.1,
      put_two _ _ _ _ _ _ _ so_far.2 (c.in_ok-write-2.ensures.writes so_far.2.plain refl) (here ∙ more_next (step_text so_far.0) steps i c.step-item.result c.loop-step-test.true),
    )

pub returns-clause-writes : goal.returns-clause-writes
returns-clause-writes g c = λ plain _.
    let so_far = c.loop-step.invariant plain in
    let whole = take_all c.loop-step.step-index c.in-Some.rest.now c.loop-step-test.false in
    subst (λ t. HasWritten {W = g.row.W.Denot} g.W.Write.write_str_gives c.args.f.now t c.loop-step.f)
    (ap (λ xs. step_text so_far.0 ++ more_text (map step_of xs)) whole ∙ ap path_text (sym so_far.1)) so_far.2

-- The line before the mark is the one that is kept.
use Rattle.std.proofs.Common.{rules, ◌≡◌, ◌+◌, suc, refl, sym, ap, ◌∙◌, subst, arith}
use Rattle.std.specs.Prelude.{unwrap_or}
use Rattle.std.proofs.lemmas.Bool.{false≢true}
use Rattle.fr_source.specs.Kept.{Meets, made}
use Rattle.fr_source.proofs.visible.Comparison.keeps_act.Goals as goal

pub returns-then-ends : goal.returns-then-ends
returns-then-ends c = λ is.
    let kept = c.in-Some-Same-default in
    record {
      n = c.in-Some.before;
      now = kept.now.to;
      before = search rules;
      is = record { line = kept.now; there = kept.ensures.there; does = kept.ensures.does c.args.line c.requires.there ∙ ap (λ f. made f c.args.line.action) kept.field-0-0-is; goes = refl };
      on = λ h. absurd (false≢true (sym h ∙ sym c.ends.ensures ∙ is));
      failed = λ h. absurd (false≢true (sym h ∙ sym c.ends.ensures ∙ is));
    }

pub returns-then-meets : goal.returns-then-meets
returns-then-meets c = λ is.
    let kept = c.in-Some-Same-default in
    let aims = c.args.self.now.aims.now in
    let marks = c.args.self.now.marks.now in
    let next : c.args.number + 1 ≡ suc c.args.number = omega arith in
    let failing : c.unwrap_or.result ≡ unwrap_or c.args.line.to (suc c.args.number) = c.unwrap_or.ensures ∙ ap (unwrap_or c.args.line.to) next in
    record {
      n = c.in-Some.before;
      now = kept.now.to;
      before = search rules;
      is = record { line = kept.now; there = kept.ensures.there; does = kept.ensures.does c.args.line c.requires.there ∙ ap (λ f. made f c.args.line.action) kept.field-0-0-is; goes = refl };
      on = λ h. subst (λ n. Meets aims marks n c.args.mark) next (c.meets.ensures c.if-meets.true);
      failed = λ h. subst (λ n. Meets aims marks n (unwrap_or kept.now.to c.args.mark)) failing
          (subst (λ n. Meets aims marks c.unwrap_or.result n) c.unwrap_or-then-meets.ensures (c.meets-then-meets.ensures is));
    }

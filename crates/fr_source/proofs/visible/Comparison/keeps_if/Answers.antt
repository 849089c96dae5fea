-- The line before the mark is the one that is kept, in this form.
use Rattle.std.proofs.Common.{rules, ◌≡◌, ◌+◌, inl, inr, suc, ap, ◌∙◌, subst, arith}
use Rattle.fr_source.specs.Kept.{Meets, made}
use Rattle.fr_source.proofs.visible.Comparison.keeps_if.Goals as goal

pub returns-then-meets : goal.returns-then-meets
returns-then-meets c = λ is.
    let kept = c.in-Some-Same-default-default in
    let next : c.args.number + 1 ≡ suc c.args.number = omega arith in
    inl (record {
      n = c.in-Some.before;
      to = kept.to;
      before = search rules;
      is = record { line = kept.field-0-1; there = kept.ensures.there; does = kept.ensures.does c.args.line c.requires.there ∙ ap (λ f. made f c.args.line.action) kept.field-0-0-is; goes = kept.ensures.goes };
      far = c.meets.ensures c.if-meets.true;
      near = subst (λ n. Meets c.args.self.now.aims.now c.args.self.now.marks.now n c.args.mark) next (c.meets-then-meets.ensures is);
    })

pub returns-then-meets-2 : goal.returns-then-meets-2
returns-then-meets-2 c = λ is.
    let kept = c.in-Some-Turned-default-default in
    let next : c.args.number + 1 ≡ suc c.args.number = omega arith in
    inr (record {
      n = c.in-Some.before;
      to = kept.to;
      before = search rules;
      is = record { line = kept.field-0-1; there = kept.ensures.there; does = kept.ensures.does c.args.line c.requires.there ∙ ap (λ f. made f c.args.line.action) kept.field-0-0-is; goes = kept.ensures.goes };
      far = c.meets-in-Some-Turned-default-default.ensures c.if-meets-2.true;
      near = subst (λ n. Meets c.args.self.now.aims.now c.args.self.now.marks.now n kept.to) next (c.meets-then-meets-2.ensures is);
    })

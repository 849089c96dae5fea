use Rattle.std.proofs.Common.{◌≡◌}
use Rattle.std.specs.Prelude.{◌≢◌, pos}
use Rattle.fr_notes.proofs.Terms.{IfSome_then, Less, AtMost, Greater, AtLeast, Equal, NotEqual, Compares, IsBelow, turned}
use Rattle.fr_program.proofs.OptionLemmas.{none_then}
use Rattle.fr_notes.proofs.ComparisonLaws.{are-least-same, no-pair-same, less, at-most, greater, at-least, equal, not-equal, exchanged-some, exchanged-none}
use Rattle.fr_notes.proofs.comparison.narrowed.Goals as goal

pub returns-in-Less-clause-some : goal.returns-in-Less-clause-some
returns-in-Less-clause-some c =
    let r = c.below in
    rw c.in-Less.is (IfSome_then r.result r.ensures.some (λ new h. are-least-same (IsBelow (pos 1)) (Compares Less) c.args.left c.args.right new.0 new.1 less h))

pub returns-in-Less-clause-none : goal.returns-in-Less-clause-none
returns-in-Less-clause-none c =
    let r = c.below in
    rw c.in-Less.is (none_then r.result r.ensures.none (λ h. no-pair-same (IsBelow (pos 1)) (Compares Less) c.args.left c.args.right less h))

pub returns-in-AtMost-clause-some : goal.returns-in-AtMost-clause-some
returns-in-AtMost-clause-some c =
    let r = c.below-in-AtMost in
    rw c.in-AtMost.is (IfSome_then r.result r.ensures.some (λ new h. are-least-same (IsBelow (pos 0)) (Compares AtMost) c.args.left c.args.right new.0 new.1 at-most h))

pub returns-in-AtMost-clause-none : goal.returns-in-AtMost-clause-none
returns-in-AtMost-clause-none c =
    let r = c.below-in-AtMost in
    rw c.in-AtMost.is (none_then r.result r.ensures.none (λ h. no-pair-same (IsBelow (pos 0)) (Compares AtMost) c.args.left c.args.right at-most h))

pub returns-in-Greater-clause-some : goal.returns-in-Greater-clause-some
returns-in-Greater-clause-some c =
    let r = c.below-in-Greater in
    let q = c.exchanged in
    rw c.in-Greater.is (IfSome_then q.result (exchanged-some (IsBelow (pos 1)) c.args.right c.args.left r.result q.result r.ensures.some q.ensures.some) (λ new h. are-least-same (turned (IsBelow (pos 1))) (Compares Greater) c.args.left c.args.right new.0 new.1 greater h))

pub returns-in-Greater-clause-none : goal.returns-in-Greater-clause-none
returns-in-Greater-clause-none c =
    let r = c.below-in-Greater in
    let q = c.exchanged in
    rw c.in-Greater.is (none_then q.result (exchanged-none (IsBelow (pos 1)) c.args.right c.args.left r.result q.result r.ensures.none q.ensures.none) (λ h. no-pair-same (turned (IsBelow (pos 1))) (Compares Greater) c.args.left c.args.right greater h))

pub returns-in-AtLeast-clause-some : goal.returns-in-AtLeast-clause-some
returns-in-AtLeast-clause-some c =
    let r = c.below-in-AtLeast in
    let q = c.exchanged-in-AtLeast in
    rw c.in-AtLeast.is (IfSome_then q.result (exchanged-some (IsBelow (pos 0)) c.args.right c.args.left r.result q.result r.ensures.some q.ensures.some) (λ new h. are-least-same (turned (IsBelow (pos 0))) (Compares AtLeast) c.args.left c.args.right new.0 new.1 at-least h))

pub returns-in-AtLeast-clause-none : goal.returns-in-AtLeast-clause-none
returns-in-AtLeast-clause-none c =
    let r = c.below-in-AtLeast in
    let q = c.exchanged-in-AtLeast in
    rw c.in-AtLeast.is (none_then q.result (exchanged-none (IsBelow (pos 0)) c.args.right c.args.left r.result q.result r.ensures.none q.ensures.none) (λ h. no-pair-same (turned (IsBelow (pos 0))) (Compares AtLeast) c.args.left c.args.right at-least h))

pub returns-in-Equal-clause-some : goal.returns-in-Equal-clause-some
returns-in-Equal-clause-some c =
    let r = c.same in
    rw c.in-Equal.is (IfSome_then r.result r.ensures.some (λ new h. are-least-same (λ x y. x ≡ y) (Compares Equal) c.args.left c.args.right new.0 new.1 equal h))

pub returns-in-Equal-clause-none : goal.returns-in-Equal-clause-none
returns-in-Equal-clause-none c =
    let r = c.same in
    rw c.in-Equal.is (none_then r.result r.ensures.none (λ h. no-pair-same (λ x y. x ≡ y) (Compares Equal) c.args.left c.args.right equal h))

pub returns-in-NotEqual-clause-some : goal.returns-in-NotEqual-clause-some
returns-in-NotEqual-clause-some c =
    let r = c.both_apart in
    rw c.in-NotEqual.is (IfSome_then r.result r.ensures.some (λ new h. are-least-same (λ x y. x ≢ y) (Compares NotEqual) c.args.left c.args.right new.0 new.1 not-equal h))

pub returns-in-NotEqual-clause-none : goal.returns-in-NotEqual-clause-none
returns-in-NotEqual-clause-none c =
    let r = c.both_apart in
    rw c.in-NotEqual.is (none_then r.result r.ensures.none (λ h. no-pair-same (λ x y. x ≢ y) (Compares NotEqual) c.args.left c.args.right not-equal h))

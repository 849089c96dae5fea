use Rattle.std.proofs.Common.{Option, None, Some, IfSome, IfNone, ◌≡◌, ◌↔◌, IsTrue, is_some, ℤ, true, refl}
use Rattle.std.proofs.lemmas.Bool.{false≢true}
use Rattle.std.specs.Int.Signed.{≤ℤ_refl}
use Rattle.fr_program.specs.declared.range.Range.{Range}
use Rattle.fr_program.specs.Spans.{IsIn}
use Rattle.fr_program.proofs.range.Range.meets.Goals as goal

-- a range has its lower end, so what both have isn't empty
some_both : (a b : Range) (r : Option Range) → IfSome r (λ both. (z : ℤ) → (IsIn both z ↔ (IsIn a z × IsIn b z))) →
    IfNone r ((z : ℤ) → IsIn a z → IsIn b z → ⊥) → IsTrue (is_some r) ↔ ((z : ℤ) × IsIn a z × IsIn b z)
some_both a b None some none = (λ is. absurd (false≢true is), λ both. absurd (none both.0 both.1 both.2))
some_both a b (Some both) some none =
    let lowest = (some both.lo).0 (≤ℤ_refl both.lo, both.ordered) in
    (λ is. (both.lo, lowest.0, lowest.1), λ in_both. refl)

pub returns : goal.returns
returns c = rw c.is_some.ensures (some_both c.args.self c.args.other c.meet.result c.meet.ensures.some c.meet.ensures.none)

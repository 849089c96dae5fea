-- Of the numbers of a span the one at a place is so much above the first.
use Rattle.std.proofs.Common.{◌≡◌, ◌<◌, ◌+◌, ◌%◌, ℕ, Some, length, sym, ap, ◌∙◌, subst, arith, rules}
use Rattle.std.specs.Prelude.{ℤ, pos, ◌+ℤ◌, ◌-ℤ◌, nat_abs, slice_get}
use Rattle.std.proofs.Math.Nat.{mod-lt}
use Rattle.std.proofs.lemmas.Int.{to_z-of_z}
use Rattle.std.proofs.lemmas.Option.{slice_get-get_or}
use mir.Syntax.{w64}
use mir.Val.{SFits, to_z, of_z}
use Rattle.fr_runner.specs.Listed.{numbers_from}
use Rattle.fr_runner.proofs.Listing.{length-numbers, numbers-at}
use Rattle.fr_runner.proofs.choice.of_span.Goals as goal

-- the number that a word picks
picked : (lo : ℤ) (gap word : ℕ) (c : ℤ) → c ≡ lo +ℤ pos (word % (gap + 1)) → slice_get (numbers_from lo (gap + 1)) (word % length (numbers_from lo (gap + 1))) ≡ Some c
picked lo gap word c e =
    let n = gap + 1 in
    let k = word % n in
    let below : k < n = mod-lt word (omega arith) in
    let at = slice_get-get_or (numbers_from lo n) k c (subst (λ m. k < m) (sym (length-numbers lo n)) below) ∙ ap Some (numbers-at lo n k c below ∙ sym e) in
    subst (λ m. slice_get (numbers_from lo n) (word % m) ≡ Some c) (sym (length-numbers lo n)) at

pub returns : goal.returns
returns c =
    let lo = c.args.lo in
    let hi = c.args.hi in
    let lo' = to_z-of_z w64 lo c.ranges.lo in
    let hi' = to_z-of_z w64 hi c.ranges.hi in
    let gap : c.distance.result ≡ nat_abs (hi -ℤ lo) = c.distance.ensures.difference ∙ ap (λ z. nat_abs (z -ℤ to_z w64 (of_z w64 lo))) hi' ∙ ap (λ z. nat_abs (hi -ℤ z)) lo' in
    let e : c.shifted.result ≡ lo +ℤ pos (c.args.word % (nat_abs (hi -ℤ lo) + 1)) =
    c.shifted.ensures ∙ ap (λ z. z +ℤ pos (c.from.result % (c.distance.result + 1))) lo' ∙ ap (λ w. lo +ℤ pos (w % (c.distance.result + 1))) c.from.ensures ∙ ap (λ g. lo +ℤ pos (c.args.word % (g + 1))) gap in
    let fits : SFits w64 c.shifted.result = search rules in
    picked lo (nat_abs (hi -ℤ lo)) c.args.word _ (to_z-of_z w64 c.shifted.result fits ∙ e)

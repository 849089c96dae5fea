-- An alternative in code fits an application where its parts do.
use Rattle.std.proofs.Common.{◌≤◌, ℕ, zero, suc, List, [], ◌∷◌, get_or, map, arith}
use Rattle.std.specs.Prelude.{pos, ◌≤ℤ◌}
use Rattle.fr_notes.proofs.Terms.{ints, Range, Program, AlternativeFits, ClaimsFit, RangesFit, most_depth, ends_of, alternative_of}
use Rattle.fr_notes.specs.declared.note.Alternative.TheInside.{Inside}

-- each range has its ends in order
pub ends-ordered : (ranges : List Range) (x : ℕ) → (get_or (map ends_of ranges) x (pos 0, pos 0)).0 ≤ℤ (get_or (map ends_of ranges) x (pos 0, pos 0)).1
ends-ordered [] x = omega (arith, ints)
ends-ordered (r ∷ ranges) zero = r.ordered
ends-ordered (r ∷ ranges) (suc x) = ends-ordered ranges x

pub fits-from_parts : (P : Program) (n : Inside) → n.crit ≤ most_depth → n.susp ≤ most_depth → ClaimsFit P n.claims.items → RangesFit P (map ends_of n.ranges.items) → AlternativeFits P (alternative_of n)
fits-from_parts P n critical suspended claims ranges = record {
  critical = critical;
  suspended = suspended;
  claims = claims;
  ranges = ranges;
  order = ends-ordered n.ranges.items;
}

pub ranges-from_fits : (P : Program) (n : Inside) → AlternativeFits P (alternative_of n) → RangesFit P (map ends_of n.ranges.items)
ranges-from_fits P n f = f.ranges

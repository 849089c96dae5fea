-- In no state do two actors have one guard.
use Rattle.std.proofs.Common.{◌≡◌, ℕ, ◌<◌, List, [], ◌∷◌, Option, Some, None, Bool, true, false, sym, ◌∙◌, subst, arith}
use Rattle.std.specs.Prelude.{nat_eq, if◌then◌else◌, ◌&&◌}
use Rattle.fr_judge.proofs.Terms.{same_Some, eqb-true, All-head, All-tail, State, Content, Held, content_of, depth_in, count_held, End, Guard, Sole, ByMutex, InCritical, Turn, EndGuard, HasGuard}
use Rattle.fr_judge.proofs.Terms.{HasDistinctTurns, AllHaveDistinctTurns, same_end, guard_for}
use Rattle.fr_notes.proofs.PairLaws.{inside-is}

held-alone : (c : Content) (a b : ℕ) → 0 < count_held a c → 0 < count_held b c → a ≡ b
held-alone (Held holder n) a b h k =
    sym (eqb-true holder a (inside-is (nat_eq holder a) n h)) ∙ eqb-true holder b (inside-is (nat_eq holder b) n k)
held-alone c a b h k = absurd (omega arith)

pub depth-alone : (c : Option (ℕ × ℕ)) (a b : ℕ) → 0 < depth_in c a → 0 < depth_in c b → a ≡ b
depth-alone None a b h k = absurd (omega arith)
depth-alone (Some c) a b h k =
    sym (eqb-true c.0 a (inside-is (nat_eq c.0 a) c.1 h)) ∙ eqb-true c.0 b (inside-is (nat_eq c.0 b) c.1 k)

pub guard-alone : (g : Guard) (S : State) (a b : ℕ) → HasDistinctTurns g → HasGuard g a S → HasGuard g b S → a ≡ b
guard-alone (Sole actor) S a b d h k = h ∙ sym k
guard-alone (ByMutex m) S a b d h k = held-alone (content_of S m) a b h k
guard-alone InCritical S a b d h k = depth-alone S.critical a b h k
guard-alone (Turn x values) S a b d h k = d a b _ h k

-- the guard that is listed for an end has distinct turns where all guards have
pub distinct-listed : (ends : List EndGuard) (buffer : ℕ) (end : End) (g : Guard) → AllHaveDistinctTurns ends → guard_for ends buffer end ≡ Some g → HasDistinctTurns g
distinct-listed [] buffer end g h e = cc
distinct-listed (x ∷ xs) buffer end g h e =
    go (nat_eq x.buffer buffer && same_end x.end end) (λ q. distinct-listed xs buffer end g (All-tail (λ e. HasDistinctTurns e.guard) x xs h) q) e
  where
    go : (b : Bool) → (guard_for xs buffer end ≡ Some g → HasDistinctTurns g) → (if b then Some x.guard else guard_for xs buffer end) ≡ Some g → HasDistinctTurns g
    go true later q = subst (λ k. HasDistinctTurns k) (same_Some _ _ q) (All-head (λ e. HasDistinctTurns e.guard) x xs h)
    go false later q = later q

-- The worked parts, row by row: the entry in which a fault stands or why there is none, and a state to show where one
-- note doesn't imply another.
use Rattle.std.proofs.Common.{◌≡◌, ◌||◌, ℕ, zero, suc, ℤ, pos, negsuc, List, [], ◌∷◌, Bool, IsTrue, Any, None, Some, is_some, refl, sym, subst, arith}
use Rattle.std.proofs.lemmas.Int.{ints}
use Rattle.fr_program.specs.declared.ids.ObjId.{ObjId}
use Rattle.fr_program.specs.declared.range.Range.{Range}
use Rattle.fr_rules.specs.State.{State, Free, Held, Dead, IsWellFormed, content_of, value_of}
use Rattle.fr_notes.specs.declared.claim.Claim.TheVariants.{NotHeld, Alive, Gone, HeldTimes}
use Rattle.fr_notes.specs.Note.{Alternative, Meets, Within, HoldsOne, claim_of, range_of}
use Rattle.fr_notes.specs.Parts.{names, count_in, count_said, is_live_said, IsCount, IsNarrowing}
use Rattle.fr_worked.specs.WorkedNotes.{two_tasks, says, any}
use Rattle.fr_worked.specs.WorkedParts.{four_objects, object, held, IsRefusedCount, IsCountable, IsTorn, IsWhole, IsPast, IsKept, Implied, WorkedFaults, WorkedImplied}
use Rattle.fr_notes.proofs.ImplicationLemmas.{only-one}
use Rattle.fr_worked.proofs.WorkedNotes.{state, formed, holds, in-any}

-- the one entry of a list
only : {A : Type 0} (Q : A → Type 0) (x : A) → Any Q (x ∷ []) → Q x
only Q x (zero, d, below, is, q) = subst Q (sym is) q
only Q x (suc k, d, below, is, q) = absurd (omega (arith, below))

first : {A : Type 0} (Q : A → Type 0) (x : A) (xs : List A) → Q x → Any Q (x ∷ xs)
first Q x xs q = (0, x, omega arith, refl, q)

refused-count : (o count : ℕ) → (IsCount four_objects (object o, count) → ⊥) → IsRefusedCount o count
refused-count o count refused parts e = subst (Any (λ h. IsCount four_objects h → ⊥)) (sym e) (first (λ h. IsCount four_objects h → ⊥) (object o, count) [] refused)

countable : (o count : ℕ) → IsCount four_objects (object o, count) → IsCountable o count
countable o count is parts e there = only (λ h. IsCount four_objects h → ⊥) (object o, count) (subst (Any (λ h. IsCount four_objects h → ⊥)) e there) is

past : (lo hi : ℤ) → ((range : Range) → range.lo ≡ lo → range.hi ≡ hi → IsNarrowing four_objects (record { 0 = 0 }, range) → ⊥) → IsPast lo hi
past lo hi refused parts range l h e = subst (Any (λ r. IsNarrowing four_objects r → ⊥)) (sym e) (first (λ r. IsNarrowing four_objects r → ⊥) (record { 0 = 0 }, range) [] (refused range l h))

kept : (lo hi : ℤ) → ((range : Range) → range.lo ≡ lo → range.hi ≡ hi → IsNarrowing four_objects (record { 0 = 0 }, range)) → IsKept lo hi
kept lo hi is parts range l h e there = only (λ r. IsNarrowing four_objects r → ⊥) (record { 0 = 0 }, range) (subst (Any (λ r. IsNarrowing four_objects r → ⊥)) e there) (is range l h)

-- whether parts with these lists say that the object is live or held
abbrev said_live : List (ObjId × ℕ) → List ObjId → ℕ → Bool
said_live hs ls o = names ls o || is_some (count_in hs o)

torn : (hs : List (ObjId × ℕ)) (ls : List ObjId) (o : ObjId) → IsTrue (said_live hs ls o.0) → IsTorn hs ls (o ∷ [])
torn hs ls o is parts h l d =
    let of_held : IsTrue (names ls o.0 || is_some (count_said parts o.0)) = subst (λ xs. IsTrue (names ls o.0 || is_some (count_in xs o.0))) (sym h) is in
    let of_live : IsTrue (is_live_said parts o.0) = subst (λ xs. IsTrue (names xs o.0 || is_some (count_said parts o.0))) (sym l) of_held in
    subst (Any (λ x. IsTrue (is_live_said parts x.0))) (sym d) (first (λ x. IsTrue (is_live_said parts x.0)) o [] of_live)

whole : (hs : List (ObjId × ℕ)) (ls : List ObjId) (o : ObjId) → (IsTrue (said_live hs ls o.0) → ⊥) → IsWhole hs ls (o ∷ [])
whole hs ls o refused parts h l d there =
    let here : IsTrue (is_live_said parts o.0) = only (λ x. IsTrue (is_live_said parts x.0)) o (subst (Any (λ x. IsTrue (is_live_said parts x.0))) d there) in
    let of_live : IsTrue (names ls o.0 || is_some (count_said parts o.0)) = subst (λ xs. IsTrue (names xs o.0 || is_some (count_said parts o.0))) l here in
    refused (subst (λ xs. IsTrue (names ls o.0 || is_some (count_in xs o.0))) h of_live)

none_dead : (hs : List (ObjId × ℕ)) (ls : List ObjId) → IsWhole hs ls []
none_dead hs ls parts h l d there =
    let empty = subst (Any (λ x. IsTrue (is_live_said parts x.0))) d there in
    absurd (omega (arith, empty.2))

pub worked-faults : WorkedFaults
worked-faults = record {
  mutex_once = countable 0 1 (omega arith, refl);
  mutex_twice = refused-count 0 2 (λ h. let e = h.1 in cc);
  mutex_not_at_all = refused-count 0 0 (λ h. let e = h.1 in cc);
  recursive_at_most = countable 1 255 (omega arith, (omega arith, omega arith));
  recursive_once_more = refused-count 1 256 (λ h. absurd (omega (arith, h.1.1)));
  recursive_not_at_all = refused-count 1 0 (λ h. absurd (omega (arith, h.1.0)));
  queue_held = refused-count 2 1 (λ h. h.1);
  buffer_held = refused-count 3 1 (λ h. h.1);
  no_such_object = refused-count 4 1 (λ h. absurd (omega (arith, h.0)));
  live_and_dead = torn [] (object 3 ∷ []) (object 3) refl;
  held_and_dead = torn (held 0 1) [] (object 0) refl;
  held_and_live = none_dead (held 0 1) (object 0 ∷ []);
  another_dead = whole (held 0 1) (object 3 ∷ []) (object 2) (λ is. cc);
  past_above = past (pos 0) (pos 3) (λ r l h inside. absurd (omega (arith, ints, l, h, inside.1, inside.2)));
  past_below = past (negsuc 0) (pos 2) (λ r l h inside. absurd (omega (arith, ints, l, h, inside.1, inside.2)));
  as_declared = kept (pos 0) (pos 2) (λ r l h. (omega arith, omega (arith, ints, l), omega (arith, ints, h)));
  one_value = kept (pos 1) (pos 1) (λ r l h. (omega arith, omega (arith, ints, l), omega (arith, ints, h)));
}

-- ---- one note implies another

implied-by : (n m : Alternative) → ((a : ℕ) (S : State) → HoldsOne n a S → HoldsOne m a S) → Implied n m
implied-by n m weaker a l S w h = (m, (0, omega arith, refl), weaker a S (only-one n a S h))

unless : (n m : Alternative) (S : State) → IsWellFormed two_tasks S → HoldsOne n 0 S → (HoldsOne m 0 S → ⊥) → Implied n m → ⊥
unless n m S w h other implied = other (only-one m 0 S (implied 0 (omega arith) S w (n, (0, omega arith, refl), h)))

live-and-one : (a : ℕ) (S : State) → HoldsOne (says 0 0 Alive (pos 1, pos 1)) a S → HoldsOne (says 0 0 NotHeld (pos 0, pos 1)) a S
live-and-one a S h = record { critical = h.critical; suspended = h.suspended; objects = objects; variables = variables }
  where
    objects : (o : ℕ) → Meets a (claim_of (says 0 0 NotHeld (pos 0, pos 1)) o) (content_of S o)
    objects zero = (h.objects 0).1
    objects (suc o) = h.objects (suc o)

    variables : (x : ℕ) → Within (range_of (says 0 0 NotHeld (pos 0, pos 1)) x) (value_of S x)
    variables zero = (omega (arith, ints, (h.variables 0).0), (h.variables 0).1)
    variables (suc x) = h.variables (suc x)

gone-and-any : (a : ℕ) (S : State) → HoldsOne (says 0 0 Gone any) a S → HoldsOne (says 0 0 NotHeld any) a S
gone-and-any a S h = record { critical = h.critical; suspended = h.suspended; objects = objects; variables = h.variables }
  where
    objects : (o : ℕ) → Meets a (claim_of (says 0 0 NotHeld any) o) (content_of S o)
    objects zero = subst (Meets a NotHeld) (sym (h.objects 0)) refl
    objects (suc o) = h.objects (suc o)

-- nobody in the critical section, nobody suspends, x at 0 and the mutex free or dead
abbrev free : State
free = state (pos 0) Free None 0 0

free-formed : IsWellFormed two_tasks free
free-formed = formed (pos 0) Free None 0 0 tt tt

free-any : HoldsOne (says 0 0 NotHeld any) 0 free
free-any = holds 0 (pos 0) Free None 0 0 0 0 NotHeld any refl refl refl in-any

pub worked-implied : WorkedImplied
worked-implied = record {
  implied_by_more = implied-by (says 0 0 Alive (pos 1, pos 1)) (says 0 0 NotHeld (pos 0, pos 1)) live-and-one;
  wider_range = unless (says 0 0 NotHeld (pos 0, pos 1)) (says 0 0 NotHeld (pos 1, pos 1)) free free-formed (holds 0 (pos 0) Free None 0 0 0 0 NotHeld (pos 0, pos 1) refl refl refl (omega (arith, ints), omega (arith, ints))) (λ h. absurd (omega (arith, ints, (h.variables 0).0)));
  unsaid_live = unless (says 0 0 NotHeld any) (says 0 0 Alive any) (state (pos 0) Dead None 0 0) (formed (pos 0) Dead None 0 0 tt tt) (holds 0 (pos 0) Dead None 0 0 0 0 NotHeld any refl refl refl in-any) (λ h. (h.objects 0).0 refl);
  held_is_not_unheld = unless (says 0 0 (HeldTimes 1) any) (says 0 0 NotHeld any) (state (pos 0) (Held 0 1) None 0 0) (formed (pos 0) (Held 0 1) None 0 0 (omega arith, refl) tt) (holds 0 (pos 0) (Held 0 1) None 0 0 0 0 (HeldTimes 1) any refl refl refl in-any) (λ h. absurd (omega (arith, h.objects 0)));
  another_critical_depth = unless (says 1 0 NotHeld any) (says 0 0 NotHeld any) (state (pos 0) Free (Some (0, 1)) 0 0) (formed (pos 0) Free (Some (0, 1)) 0 0 tt (omega arith, omega arith)) (holds 0 (pos 0) Free (Some (0, 1)) 0 0 1 0 NotHeld any refl refl refl in-any) (λ h. absurd (omega (arith, h.critical)));
  another_suspension_depth = unless (says 0 1 NotHeld any) (says 0 0 NotHeld any) (state (pos 0) Free None 1 0) (formed (pos 0) Free None 1 0 tt tt) (holds 0 (pos 0) Free None 1 0 0 1 NotHeld any refl refl refl in-any) (λ h. absurd (omega (arith, h.suspended)));
  gone_is_not_held = implied-by (says 0 0 Gone any) (says 0 0 NotHeld any) gone-and-any;
  never_implies = λ a l S w h. absurd (omega (arith, h.1.1));
  never_is_implied = λ implied. let h = implied 0 (omega arith) free free-formed (says 0 0 NotHeld any, (0, omega arith, refl), free-any) in absurd (omega (arith, h.1.1));
}

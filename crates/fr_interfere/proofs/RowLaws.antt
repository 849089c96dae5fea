-- A list parted into runs: each run is as the list is, and each number of the list is in one of them.
use Rattle.std.proofs.Common.{◌≡◌, ℕ, zero, suc, ◌+◌, ◌-◌, ◌<◌, ◌≤◌, List, [], ◌∷◌, ◌++◌, length, get_or, take, drop, refl, sym, ap, ◌∙◌, subst, arith, ⊎_elim}
use Rattle.std.specs.Prelude.{Option, None, Some, Result, Ok, Err, IfOk, IfSome, MatchResult, All, Contains, map, slice_get}
use Rattle.fr_interfere.proofs.Terms.{AllZip, range_with_len, cases_lt, length-range_with_len, length-map, length_push, get_or_push, get_or_append_left, length-take, length-drop, get_or-take}
use Rattle.fr_interfere.proofs.Terms.{get_or-drop, get_or_default, same_Some, slice_get-get_or, Contains-get_or, Point, Program, IsFaultless, IsPoint}
use Rattle.fr_interfere.proofs.Terms.{PointsAreNumbered, point_number, points_of, NotesFit, Note, note_at, Hull, Block, Effect, Run, AreUnder, Spares, IndexOf, Lists, list_at, AreHullsOf, AreListed}
use Rattle.fr_interfere.proofs.Terms.{AreRows, IsBlock, IsBlockAt, HasRun, IsInRun, IsInSome, IsRow, IsRun, WritesOne, IsFirstOf, IsListed}
use Rattle.std.proofs.lemmas.Slice.Zip.{AllZip-long}
use Rattle.std.proofs.lemmas.Option.{slice_get_within, slice_get_read, get_or_from_slice_get}
use Rattle.fr_interfere.specs.declared.rows.Hulls.{Hulls}
use Rattle.fr_interfere.specs.declared.rows.Row.{Row}
use Rattle.fr_interfere.proofs.HullLaws.{spared-undisturbed}
use Rattle.fr_effects.proofs.IndexLaws.{listed-point, numbers-below}
use Rattle.fr_effects.proofs.Lists.{get-there}
use Rattle.fr_interfere.proofs.SpoilerLaws.{each-fits}

module _ (numbers : List ℕ) (from behind : ℕ) (above : from < behind) (most : behind ≤ length numbers) where
  abbrev pub run : List ℕ
  run = take (behind - from) (drop from numbers)

  pub long : length run ≡ behind - from
  long =
      let one = length-take (behind - from) (drop from numbers) in
      let other = length-drop from numbers in
      omega (arith, one, other, above, most)

  at : (k : ℕ) (d : ℕ) → k < behind - from → get_or run k d ≡ get_or numbers (from + k) d
  at k d l = get_or-take (behind - from) (drop from numbers) k d l ∙ get_or-drop from numbers k d

  -- a run of the list is listed as the list is
  pub run-listed : (P : Program) → AreListed P numbers → AreListed P run
  run-listed P listed = record {
    rising = λ i j d less l.
        let one = at i d (omega (arith, less, l, long)) in
        let other = at j d (omega (arith, l, long)) in
        let rises = listed.rising (from + i) (from + j) d (omega (arith, less)) (omega (arith, l, long, above, most)) in
        omega (arith, one, other, rises);
    below = λ k d l.
        let same = at k d (omega (arith, l, long)) in
        let below = listed.below (from + k) d (omega (arith, l, long, above, most)) in
        omega (arith, same, below);
  }

  -- it has each number of the list from one place to the other
  pub in-run : (j : ℕ) → from ≤ j → j < behind → Contains run (get_or numbers j 0)
  in-run j low high =
      let there : j - from < behind - from = omega (arith, low, high) in
      let same = at (j - from) 0 there in
      let place : from + (j - from) ≡ j = omega (arith, low) in
      subst (Contains run) (same ∙ ap (λ k. get_or numbers k 0) place) (Contains-get_or run (j - from) 0 (omega (arith, there, long)))

-- the block of a run of the list has the run's points
pub has-run : {E : Type 0} (P : Program) (notes : List Note) (numbers : List ℕ) (runs : List Run) (place : ℕ) (r : Run) → slice_get runs place ≡ Some r → IsRun numbers r → (made : Result Block E) →
    IfOk made (λ b. IsBlock P notes b) → IfOk made (λ b. b.numbers.items ≡ take (r.behind - r.from) (drop r.from numbers)) → IfOk made (λ b. IsBlockAt P notes numbers runs place b)
has-run P notes numbers runs place r here (above, most) (Err e) block same = tt
has-run P notes numbers runs place r here (above, most) (Ok b) block same = λ s there.
    let has : HasRun P notes numbers r b = record {
      block = block;
      each = λ j low high. subst (λ ns. Contains ns (get_or numbers j 0)) (sym same) (in-run numbers r.from r.behind above most j low high);
    } in
    subst (λ t. HasRun P notes numbers t b) (same_Some _ _ (sym here ∙ there)) has

-- where each run has its block, the blocks have each point of the list
module _ (P : Program) (notes : List Note) (numbers : List ℕ) (runs : List Run) (blocks : List Block) (long : length blocks ≡ length runs) (made : (k : ℕ) (b : Block) → slice_get blocks k ≡ Some b → IsBlockAt P notes numbers runs k b) where
  pub blocks-each : All (λ b. IsBlock P notes b) blocks
  blocks-each k d l =
      let (r, is) = get-there runs k (omega (arith, l, long)) in
      (made k (get_or blocks k d) (slice_get-get_or blocks k d l) r is).block

  pub blocks-found : ((j : ℕ) → j < length numbers → IsInRun runs j) → (q : Point) → IsListed P numbers q → IsInSome P blocks q
  blocks-found found q (i, l, is) =
      let (k, r, inside, one, within) = found i l in
      let (b, there) = get-there blocks k (omega (arith, inside, long)) in
      let has = made k b there r (slice_get_read runs (length runs) k r refl inside (sym one)) in
      let same = get_or_default numbers i 0 (point_number P q) l ∙ is in
      (k, b, omega (arith, inside, long), get_or_from_slice_get blocks k b b there, subst (Contains b.numbers.items) same (has.each i within.0 within.1))

-- the point's number is in the block at this place
abbrev pub IsInBlock : Program → List Block → ℕ → Point → Type 0
IsInBlock P blocks k q = (b : Block) × (slice_get blocks k ≡ Some b) × IsListed P b.numbers.items q

-- ---- the first point of a row

module _ (P : Program) (free : IsFaultless P) (notes : List Note) (fit : NotesFit P notes) (number : ℕ) (p : Point) (here : slice_get (points_of P) number ≡ Some p) where
  -- where the hull spares the note, none of its points disturbs it
  pub spared-points : (r : Point) → slice_get (points_of P) number ≡ Some r → (note : Note) → note ≡ note_at P notes p → (h : Hull) (numbers : List ℕ) → AreUnder P notes h numbers →
      Spares h r.actor note → IsFirstOf P notes p (IsListed P numbers) None
  spared-points r there note is h numbers under spares = λ q at listed.
      let same = same_Some _ _ (sym there ∙ here) in
      let spared = subst (λ (n : Note). Spares h p.actor n) is (subst (λ (x : Point). Spares h x.actor note) same spares) in
      spared-undisturbed P free notes p q at (each-fits P notes fit p) (each-fits P notes fit q) h (under q at listed) spared

-- ---- the rows of an index, one more at a time

-- the numbers of a list of the index rise, and are those of points
pub lists-listed : (P : Program) (IsSuch : Effect → Type 0) (numbers : List ℕ) → Lists P IsSuch (length (points_of P)) numbers → AreListed P numbers
lists-listed P IsSuch numbers lists = record { rising = lists.rising; below = numbers-below P IsSuch numbers lists }

-- no row yet, and one more
module _ (P : Program) (notes : List Note) (lists : List (List ℕ)) where
  abbrev pub RowsSoFar : List (Option Row) → ℕ → Type 0
  RowsSoFar rows k = record { many : length rows ≡ k; rows : AreRows P notes lists rows }

  pub rows-none : (rows : List (Option Row)) → rows ≡ [] → RowsSoFar rows 0
  rows-none rows none = record {
    many = ap (λ xs. length xs) none;
    rows = λ k row is. let no = sym (ap (λ xs. slice_get xs k) none) ∙ is in cc;
  }

  pub rows-more : (k : ℕ) (rows new : List (Option Row)) → length rows ≡ k → AreRows P notes lists rows → (one : Option Row) → new ≡ rows ++ one ∷ [] →
      (numbers : List ℕ) → numbers ≡ list_at lists k → IfSome one (λ r. IsRow P notes numbers r) → RowsSoFar new (k + 1)
  rows-more k rows new many so_far one is numbers at row = record {
    many = ap (λ xs. length xs) is ∙ length_push rows one ∙ ap (λ n. n + 1) many;
    rows = λ j r there.
        let here : slice_get (rows ++ one ∷ []) j ≡ Some (Some r) = subst (λ xs. slice_get xs j ≡ Some (Some r)) is there in
        let below = slice_get_within (rows ++ one ∷ []) j (Some r) here in
        let read = get_or_from_slice_get (rows ++ one ∷ []) j (Some r) (Some r) here in
        let count = length_push rows one in
        ⊎_elim
        (λ before.
        let same = sym (get_or_append_left rows (one ∷ []) (Some r) j before) ∙ read in
        so_far j r (slice_get_read rows (length rows) j (Some r) refl before (sym same)))
        (λ last.
        let end : length rows ≡ j = omega (arith, below, count, last) in
        let same = sym (get_or_push rows one (Some r) j end) ∙ read in
        let found = subst (λ o. IfSome o (λ x. IsRow P notes numbers x)) same row in
        subst (λ n. IsRow P notes (list_at lists n) r) (sym many ∙ end) (subst (λ ns. IsRow P notes ns r) at found))
        (cases_lt j (length rows));
  }

-- what is made of each number, if all of it is made: at each place what was made of its number
pub made-at : (E : Type 0) {T : Type 0} (IsFor : ℕ → T → Type 0) (from len : ℕ) (ys : List T) → AllZip (λ n (r : Result T E). IfOk r (IsFor n)) (range_with_len from len) (map Ok ys) → (k : ℕ) (y : T) →
    slice_get ys k ≡ Some y → IsFor (from + k) y
made-at E IsFor from len [] zip k y is = cc
made-at E IsFor from zero (x ∷ xs) zip k y is = absurd zip
made-at E IsFor from (suc len) (x ∷ xs) zip zero y is = subst (IsFor (from + 0)) (same_Some _ _ is) (subst (λ n. IsFor n x) (omega arith) zip.0)
made-at E IsFor from (suc len) (x ∷ xs) zip (suc k) y is = subst (λ n. IsFor n y) (omega arith) (made-at E IsFor (from + 1) len xs zip.1 k y is)

pub made-list : {V T E : Type 0} (F : E → Type 0) (IsFor : ℕ → T → Type 0) (items : V → List T) (made : Result V E) (rs : List (Result T E)) (n : ℕ) → AllZip (λ k r. IfOk r (IsFor k)) (range_with_len 0 n) rs
    → MatchResult made (λ v. (ys : List T) × (rs ≡ map Ok ys) × (items v ≡ ys)) F → IfOk made (λ v. (length (items v) ≡ n) × ((k : ℕ) (y : T) → slice_get (items v) k ≡ Some y → IsFor k y))
made-list {V} {T} {E} F IsFor items made rs n zip m =
    elim made as (λ q. MatchResult q (λ v. (ys : List T) × (rs ≡ map Ok ys) × (items v ≡ ys)) F → IfOk q (λ v. (length (items v) ≡ n) × ((k : ℕ) (y : T) → slice_get (items v) k ≡ Some y → IsFor k y))) [
      | Ok v ↦ λ h.
          let each = subst (λ r. AllZip (λ j q. IfOk q (IsFor j)) (range_with_len 0 n) r) h.1 zip in
          let long : length rs ≡ n = AllZip-long (λ k r. IfOk r (IsFor k)) (range_with_len 0 n) rs zip ∙ length-range_with_len 0 n in (
            ap length h.2 ∙ (sym (length-map h.0 Ok) ∙ (ap length (sym h.1) ∙ long)),
            λ k y is. subst (λ j. IsFor j y) (omega arith) (made-at E IsFor 0 n h.0 each k y (subst (λ ys. slice_get ys k ≡ Some y) h.2 is)),
          )
      | Err e ↦ λ h. tt
    ] m

-- the hulls of an index's points, with blocks of all points that write
pub hulls-of : (P : Program) (notes : List Note) (I : IndexOf) → PointsAreNumbered P → (writing : List ℕ) → Lists P WritesOne (length (points_of P)) writing → (numbers : List ℕ) → numbers ≡ writing → (hulls : Hulls) →
    AreRows P notes I.writers hulls.writers.items → AreRows P notes I.lives hulls.lives.items → All (λ b. IsBlock P notes b) hulls.actors.items →
    ((q : Point) → IsPoint P q → IsListed P numbers q → IsInSome P hulls.actors.items q) → AreHullsOf P notes I hulls
hulls-of P notes I numbered writing lists numbers same hulls writers lives each found = record {
  writers = writers;
  lives = lives;
  each = each;
  found = λ q at writes. found q at (subst (λ ns. IsListed P ns q) (sym same) (listed-point P WritesOne writing numbered lists q at writes));
}

-- The table of starts: its rows are the actors', and a start counts the points before its instruction.
use Rattle.std.proofs.Common.{◌≡◌, ◌<◌, ◌↔◌, ◌+◌, ℕ, suc, zero, List, [], ◌∷◌, ◌++◌, Option, None, Some, IfSome, IfNone, length, map, take, drop, get_or, slice_get, sum_by, refl, sym, ap, ◌∙◌, subst, add-zero, add-one, arith}
use Rattle.std.proofs.Math.Seq.{drop-cons}
use Rattle.std.proofs.lemmas.List.{length-map, get_or-map}
use Rattle.std.proofs.lemmas.List.Sums.{sum_by-cons}
use Rattle.std.proofs.lemmas.Option.{slice_get_within, none-some, same_Some}
use Rattle.fr_program.specs.declared.instr.Instr.{Instr}
use Rattle.fr_program.specs.declared.ids.Point.{Point}
use Rattle.fr_program.specs.declared.parts.Actor.{Actor}
use Rattle.fr_program.specs.Program.{Program, ActorOf}
use Rattle.fr_program.specs.View.{actor_of}
use Rattle.fr_program.specs.Lookup.{actor_at, instr_at, no_actor, HasSide, IsPoint}
use Rattle.fr_program.specs.Points.{points_of, point_number, side_number, count_of_instr, count_of_actor}
use Rattle.fr_program.specs.PointNumbers.{starts_along, starts_from, PointsAreNumbered}
use Rattle.fr_program.proofs.InstrLemmas.{instr_at-within}

-- ---- as the table is made

-- what is left of a code at an instruction has that instruction's start first
pub starts_along-drop : (n m j : ℕ) (code : List Instr) (d : Instr) → j < length code → m ≡ n + count_of_instr (get_or code j d) →
    starts_along n (drop j code) ≡ (n ∷ []) ++ starts_along m (drop (j + 1) code)
starts_along-drop n m j code d below size = rw (drop-cons code j d below) (rw (add-one j) (rw size refl))

-- what is left of the actors has the first one's starts first
pub starts_from-drop : (n m j : ℕ) (actors : List Actor) (actor : Actor) (code : List Instr) (row : List ℕ) → j < length actors →
    actor ≡ get_or actors j actor → code ≡ actor.code.items → row ≡ starts_along n code → m ≡ n + sum_by count_of_instr code →
    starts_from n (map actor_of (drop j actors)) ≡ (row ∷ []) ++ starts_from m (map actor_of (drop (j + 1) actors))
starts_from-drop n m j actors actor code row below is code-is row-is size =
    rw (drop-cons actors j actor below) (rw (sym is) (rw size (rw row-is (rw code-is (rw (add-one j) refl)))))

-- ---- as the table is read

length_starts_along : (n : ℕ) (code : List Instr) → length (starts_along n code) ≡ length code
length_starts_along n [] = refl
length_starts_along n (i ∷ code) = ap suc (length_starts_along (n + count_of_instr i) code)

length_starts_from : (n : ℕ) (actors : List ActorOf) → length (starts_from n actors) ≡ length actors
length_starts_from n [] = refl
length_starts_from n (x ∷ actors) = ap suc (length_starts_from (n + count_of_actor x) actors)

row_at : (n : ℕ) (actors : List ActorOf) (a : ℕ) (d : List ℕ) → a < length actors →
    get_or (starts_from n actors) a d ≡ starts_along (n + sum_by count_of_actor (take a actors)) (get_or actors a no_actor).code
row_at n [] a d below = absurd (omega arith)
row_at n (x ∷ actors) zero d below = ap (λ m. starts_along m x.code) (sym (add-zero n))
row_at n (x ∷ actors) (suc a) d below =
    let more : (n + count_of_actor x) + sum_by count_of_actor (take a actors) ≡ n + sum_by count_of_actor (take (suc a) (x ∷ actors)) = omega (arith, sum_by-cons count_of_actor x (take a actors)) in
    row_at (n + count_of_actor x) actors a d (omega arith) ∙ ap (λ m. starts_along m (get_or actors a no_actor).code) more

start_at : (n : ℕ) (code : List Instr) (pc d : ℕ) → pc < length code → get_or (starts_along n code) pc d ≡ n + sum_by count_of_instr (take pc code)
start_at n [] pc d below = absurd (omega arith)
start_at n (i ∷ code) zero d below = sym (add-zero n)
start_at n (i ∷ code) (suc pc) d below =
    let more : (n + count_of_instr i) + sum_by count_of_instr (take pc code) ≡ n + sum_by count_of_instr (take (suc pc) (i ∷ code)) = omega (arith, sum_by-cons count_of_instr i (take pc code)) in
    start_at (n + count_of_instr i) code pc d (omega arith) ∙ more

-- how many points come before a place
abbrev pub before : Program → ℕ → ℕ → ℕ
before P a pc = sum_by count_of_actor (take a P.actors) + sum_by count_of_instr (take pc (actor_at P a).code)

-- there is a row for each actor that has an instruction
pub row_there : {X : Type 0} (P : Program) (f : X → List ℕ) (rows : List X) (a pc : ℕ) (i : Instr) → map f rows ≡ starts_from 0 P.actors →
    instr_at P a pc ≡ Some i → a < length rows
row_there P f rows a pc i are at =
    omega (arith, length-map rows f, ap (λ xs. length xs) are, length_starts_from 0 P.actors, instr_at-within P a pc i at)

-- the row of an actor that was read, and the start of an instruction in it
pub row_read : {X : Type 0} (P : Program) (f : X → List ℕ) (rows : List X) (row : X) (a pc : ℕ) (i : Instr) → map f rows ≡ starts_from 0 P.actors →
    row ≡ get_or rows a row → instr_at P a pc ≡ Some i → (pc < length (f row)) × ((d : ℕ) → get_or (f row) pc d ≡ before P a pc)
row_read P f rows row a pc i are is at =
    let actors = P.actors in
    let within = instr_at-within P a pc i at in
    let inside = slice_get_within (actor_at P a).code pc i at in
    let here = row_there P f rows a pc i are at in
    let read : f row ≡ starts_along (0 + sum_by count_of_actor (take a actors)) (actor_at P a).code =
    ap f is ∙ (sym (get_or-map f rows a row (f row) here) ∙ (ap (λ xs. get_or xs a (f row)) are ∙ row_at 0 actors a (f row) within)) in
    let first : 0 + sum_by count_of_actor (take a actors) ≡ sum_by count_of_actor (take a actors) = omega arith in
    let long = length_starts_along (0 + sum_by count_of_actor (take a actors)) (actor_at P a).code in
    let also = ap (λ xs. length xs) read in (
      omega (arith, long, also, inside),
      λ d. ap (λ xs. get_or xs pc d) read ∙ (start_at _ (actor_at P a).code pc d inside ∙ ap (λ n. n + sum_by count_of_instr (take pc (actor_at P a).code)) first),
    )

-- ---- the answer

-- an answer that is the number of each point, and none elsewhere, is the inverse of the list of points
pub inverse_of : (P : Program) → PointsAreNumbered P → (p : Point) (r : Option ℕ) → IfSome r (λ k. IsPoint P p × (k ≡ point_number P p)) → IfNone r (IsPoint P p → ⊥) →
    (k : ℕ) → (r ≡ Some k) ↔ (slice_get (points_of P) k ≡ Some p)
inverse_of P law p None some none k = (λ is. absurd (none-some k is), λ at. absurd (none (law.listed k p at).0))
inverse_of P law p (Some n) some none k = (
  λ is. ap (slice_get (points_of P)) (sym (same_Some n k is) ∙ some.1) ∙ law.at p some.0,
  λ at. ap (λ m. Some m) (some.1 ∙ (law.listed k p at).1),
)

-- from the start of a point's instruction, and its side, to its number
pub some_number : (P : Program) (p : Point) (i : Instr) (start : ℕ) (r : Option ℕ) → instr_at P p.actor.0 p.pc ≡ Some i → start ≡ before P p.actor.0 p.pc →
    IfSome r (λ k. HasSide i p.side × (k ≡ start + side_number p.side)) → IfSome r (λ k. IsPoint P p × (k ≡ point_number P p))
some_number P p i start None at is some = tt
some_number P p i start (Some k) at is some = ((i, at, some.0), some.1 ∙ ap (λ n. n + side_number p.side) is)

pub no_number : (P : Program) (p : Point) (i : Instr) (r : Option ℕ) → instr_at P p.actor.0 p.pc ≡ Some i →
    IfNone r (HasSide i p.side → ⊥) → IfNone r (IsPoint P p → ⊥)
no_number P p i None at none = λ place. none (subst (λ j. HasSide j p.side) (same_Some place.0 i (sym place.1 ∙ at)) place.2)
no_number P p i (Some k) at none = tt

-- a point's number is below how many there are
pub number_below : (P : Program) → PointsAreNumbered P → (p : Point) → IsPoint P p → point_number P p < length (points_of P)
number_below P law p place = slice_get_within (points_of P) (point_number P p) p (law.at p place)

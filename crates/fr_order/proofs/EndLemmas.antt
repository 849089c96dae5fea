-- The ends of edges, as they are listed by their numbers.
use Rattle.std.proofs.Common.{◌≡◌, ◌≢◌, ◌<◌, ◌≤◌, ◌+◌, ℕ, List, [], ◌∷◌, ◌++◌, get_or, sym, ◌∙◌, subst, ⊎_elim, arith}
use Rattle.std.specs.Prelude.{All, Contains}
use Rattle.fr_program.proofs.PointLemmas.{same-object}
use Rattle.fr_order.proofs.Terms.{cases_lt, Contains-append_left, Contains-push, All-push, ObjId, Edge, IsEnd, IsWithin, AreEnds, HasEnds}

-- both ends of each edge are in the list, as far as their numbers are below this one
abbrev pub HasEndsBelow : List Edge → List ObjId → ℕ → Type 0
HasEndsBelow edges ends n = All (λ e. (e.held.0 < n → Contains ends e.held) × (e.taken.0 < n → Contains ends e.taken)) edges

one-more : (ends next : List ObjId) (n : ℕ) (m : ObjId) → ((x : ObjId) → Contains ends x → Contains next x) → (m.0 ≡ n → Contains next m) → (m.0 < n → Contains ends m) → m.0 < n + 1 → Contains next m
one-more ends next n m more here below l =
    ⊎_elim (λ less. more m (below less)) (λ h. let same : m.0 ≡ n = omega (arith, l, h) in here same) (cases_lt m.0 n)

-- a number that is no edge's end
pub ends-other : (edges : List Edge) (ends : List ObjId) (n : ℕ) → HasEndsBelow edges ends n → All (λ e. (e.held.0 ≢ n) × (e.taken.0 ≢ n)) edges → HasEndsBelow edges ends (n + 1)
ends-other edges ends n below none = λ k d l.
    let b = below k d l in
    let no = none k d l in (
      one-more ends ends n (get_or edges k d).held (λ x h. h) (λ e. absurd (no.0 e)) b.0,
      one-more ends ends n (get_or edges k d).taken (λ x h. h) (λ e. absurd (no.1 e)) b.1,
    )

-- the mutex with the number at the end of the list
pub ends-more : (edges : List Edge) (ends : List ObjId) (n : ℕ) (x : ObjId) → x.0 ≡ n → HasEndsBelow edges ends n → HasEndsBelow edges (ends ++ x ∷ []) (n + 1)
ends-more edges ends n x is below = λ k d l.
    let b = below k d l in
    let more : (y : ObjId) → Contains ends y → Contains (ends ++ x ∷ []) y = λ y h. Contains-append_left ends (x ∷ []) y h in
    let here : (y : ObjId) → y.0 ≡ n → Contains (ends ++ x ∷ []) y = λ y e. subst (λ z. Contains (ends ++ x ∷ []) z) (same-object x y (is ∙ sym e)) (Contains-push ends x) in (
      one-more ends (ends ++ x ∷ []) n (get_or edges k d).held more (here (get_or edges k d).held) b.0,
      one-more ends (ends ++ x ∷ []) n (get_or edges k d).taken more (here (get_or edges k d).taken) b.1,
    )

pub ends-all : (edges : List Edge) (ends : List ObjId) (n m : ℕ) → n ≤ m → IsWithin edges n → HasEndsBelow edges ends m → AreEnds edges ends → HasEnds edges ends
ends-all edges ends n m le within below only = record {
  each = λ k d l.
      let b = below k d l in
      let w = within k d l in
      (b.0 (omega (arith, w.0, le)), b.1 (omega (arith, w.1, le)));
  only = only;
}

pub only-more : (edges : List Edge) (ends : List ObjId) (x : ObjId) → AreEnds edges ends → IsEnd edges x.0 → AreEnds edges (ends ++ x ∷ [])
only-more edges ends x only end = All-push (λ m. IsEnd edges m.0) ends x only end

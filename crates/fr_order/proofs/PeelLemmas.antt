-- A free mutex that goes from the rest to the end of the order, and a mutex of the rest that is visited.
use Rattle.std.proofs.Common.{◌≡◌, ◌<◌, ◌+◌, ℕ, suc, List, [], ◌∷◌, ◌++◌, length, get_or, take, drop, cond, refl, sym, ap, ◌∙◌, subst, inl, inr, ⊎_elim, arith}
use Rattle.std.specs.Prelude.{All}
use Rattle.std.proofs.lemmas.List.{get_or_default}
use Rattle.fr_order.proofs.Terms.{remove, HoldsAt, eqb_tells, All-push, All-append, All-take, All-drop, ObjId, Edge, place_in, IsListed, IsEnd, Blocks, IsFree, IsSorted, AreEnds, AreRest, IsUpward}
use Rattle.fr_order.proofs.Terms.{IsPeeled, IsVisited}
use Rattle.fr_order.proofs.GraphLemmas.{kept, place-kept, place-more, length-more, listed-kept, listed-cases, listed-new}

upward-step : (order : List ObjId) (x : ObjId) (h m : ℕ) → (IsListed order m → place_in order h < place_in order m) → (m ≡ x.0 → IsListed order h) → IsListed (order ++ x ∷ []) m → place_in (order ++ x ∷ []) h < place_in (order ++ x ∷ []) m
upward-step order x h m up free l =
    ⊎_elim
    (λ was. omega (arith, up was, was, place-kept order x m was, place-kept order x h (omega (arith, up was, was))))
    (λ un.
    let at = place-more order x m un in
    ⊎_elim
    (λ e. let listed = free (sym e.1) in omega (arith, listed, at ∙ ap (λ b. length order + cond b 0 1) e.0, place-kept order x h listed))
    (λ e. absurd (omega (arith, l, length-more order x, at ∙ ap (λ b. length order + cond b 0 1) e.0)))
    (eqb_tells x.0 m))
    (listed-cases order m)

-- each edge to a mutex of the order still goes upwards where a free one comes to its end
pub upward-more : (edges : List Edge) (order : List ObjId) (x : ObjId) → IsUpward edges order → IsFree edges order x.0 → IsUpward edges (order ++ x ∷ [])
upward-more edges order x up free = λ k d l. upward-step order x (get_or edges k d).held.0 (get_or edges k d).taken.0 (up k d l) (free k d l)

sorted-step : (order rest : List ObjId) (i : ℕ) (x m : ObjId) → i < length rest → x ≡ get_or rest i x → IsSorted order rest m → IsSorted (order ++ x ∷ []) (remove rest i) m
sorted-step order rest i x m l is s =
    ⊎_elim
    (λ listed. inl (listed-kept order x m.0 listed))
    (λ among. ⊎_elim
    (λ still. inr still)
    (λ same.
    let e : x ≡ m = is ∙ get_or_default rest i x m l ∙ same in
    inl (subst (λ y. IsListed (order ++ x ∷ []) y.0) e (listed-new order x)))
    (kept rest i m x l among))
    s

-- each end of an edge is still in the order or in the rest
pub sorted-more : (edges : List Edge) (order rest : List ObjId) (i : ℕ) (x : ObjId) → i < length rest → x ≡ get_or rest i x → AreRest edges order rest → AreRest edges (order ++ x ∷ []) (remove rest i)
sorted-more edges order rest i x l is s = λ k d at.
    let both = s k d at in
    (sorted-step order rest i x (get_or edges k d).held l is both.0, sorted-step order rest i x (get_or edges k d).taken l is both.1)

pub none-listed : (order : List ObjId) (m : ℕ) → order ≡ [] → IsListed order m → ⊥
none-listed order m none l = let at : IsListed [] m = subst (λ xs. IsListed xs m) none l in omega (arith, at)

-- a free mutex goes from the rest to the end of the order
pub peel-more : (edges : List Edge) (order rest view left next others : List ObjId) (i : ℕ) (x : ObjId) → view ≡ order → left ≡ rest → i < length left → HoldsAt (λ y. IsFree edges view y.0) left i → x ≡ get_or rest i x →
    next ≡ order ++ x ∷ [] → others ≡ remove rest i → IsUpward edges order → AreRest edges order rest → IsUpward edges next × AreRest edges next others
peel-more edges order rest view left next others i x seen is l free at pushed removed up sorted =
    let here : IsFree edges order (get_or rest i x).0 = subst (λ v. IsFree edges v (get_or rest i x).0) seen (subst (λ v. IsFree edges view (get_or v i x).0) is (free x)) in
    let F : ObjId → Type 0 = λ y. IsFree edges order y.0 in
    let long : i < length rest = subst (λ v. i < length v) is l in
    let up' = upward-more edges order x up (subst F (sym at) here) in
    let sorted' = sorted-more edges order rest i x long at sorted in (
      subst (λ o. IsUpward edges o) (sym pushed) up',
      subst (λ o. AreRest edges o others) (sym pushed) (subst (λ r. AreRest edges (order ++ x ∷ []) r) (sym removed) sorted'),
    )

-- what goes from the rest to the order is still at an end of an edge
pub ends-moved : (edges : List Edge) (order rest next others : List ObjId) (i : ℕ) (x : ObjId) → i < length rest → x ≡ get_or rest i x → next ≡ order ++ x ∷ [] → others ≡ remove rest i → AreEnds edges order → AreEnds edges rest → AreEnds edges next × AreEnds edges others
ends-moved edges order rest next others i x l at pushed removed ends left =
    let P : ObjId → Type 0 = λ m. IsEnd edges m.0 in
    let here : P x = subst P (sym at) (left i x l) in (
      subst (λ o. AreEnds edges o) (sym pushed) (All-push (λ m. IsEnd edges m.0) order x ends here),
      subst (λ o. AreEnds edges o) (sym removed) (All-append (λ m. IsEnd edges m.0) (take i rest) (drop (suc i) rest) (All-take (λ m. IsEnd edges m.0) i rest left) (All-drop (λ m. IsEnd edges m.0) (suc i) rest left)),
    )

-- no mutex of the rest is free any more
pub peeled : (edges : List Edge) (order rest view left : List ObjId) → view ≡ order → left ≡ rest → All (λ x. (e : Edge) × Blocks edges view x.0 e) left → IsUpward edges order → AreRest edges order rest → AreEnds edges order → IsPeeled edges order rest
peeled edges order rest view left seen is stuck up sorted ends =
    let F : List ObjId → List ObjId → Type 0 = λ v w. All (λ x. (e : Edge) × Blocks edges v x.0 e) w in
    record { upward = up; sorted = sorted; ends = ends; stuck = subst (λ v. F v rest) seen (subst (λ w. F view w) is stuck) }

visited-step : (unvisited : List ObjId) (path : List Edge) (i : ℕ) (e : Edge) (m : ObjId) → i < length unvisited → ((d : ObjId) → (get_or unvisited i d).0 ≡ e.taken.0) → IsVisited unvisited path m → IsVisited (remove unvisited i) (e ∷ path) m
visited-step unvisited path i e m l at v =
    ⊎_elim
    (λ among. ⊎_elim
    (λ still. inl still)
    (λ same. inr (e, (0, omega arith, refl), sym (at m) ∙ ap (λ o. o.0) same))
    (kept unvisited i m m l among))
    (λ there. let f = there.0 in let k = there.1.0 in inr (f, (suc k, omega (arith, there.1.1), there.1.2), there.2))
    v

-- the mutex at this place is visited by the edge that comes first in the path
pub visited-more : (unvisited : List ObjId) (path : List Edge) (i : ℕ) (e : Edge) (rest : List ObjId) → i < length unvisited → ((d : ObjId) → (get_or unvisited i d).0 ≡ e.taken.0) → All (λ m. IsVisited unvisited path m) rest → All (λ m. IsVisited (remove unvisited i) (e ∷ path) m) rest
visited-more unvisited path i e rest l at all = λ k d r. visited-step unvisited path i e (get_or rest k d) l at (all k d r)

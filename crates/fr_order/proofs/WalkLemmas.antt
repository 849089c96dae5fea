-- A walk back along edges among mutexes to each of which an edge leads from another one of them: it goes on until a mutex
-- comes again, and the edges since then close a cycle.
use Rattle.std.proofs.Common.{◌≡◌, ◌≢◌, ◌<◌, ◌+◌, ℕ, suc, List, [], ◌∷◌, ◌++◌, length, get_or, take, Option, None, Some, refl, sym, ap, ◌∙◌, subst, inl, ⊎_elim, arith, add-one}
use Rattle.std.specs.Prelude.{All, Contains, IfSome, Vec}
use Rattle.std.specs.declared.alloc.Global.{Global}
use Rattle.fr_order.proofs.Terms.{remove, insert, HoldsAt, All-contains, All-nil, All-cons, All-push, All-take, All-weaker, Contains-get_or, ObjId, Before, Edge, IsListed, LeadsFrom, ClosesUp}
use Rattle.fr_order.proofs.Terms.{IsCycleOf, Blocks, IsFree, IsSorted, IsPeeled, AreAmong, IsVisited, IsWalk}
use Rattle.fr_order.proofs.GraphLemmas.{closes-taken, closes-all}
use Rattle.fr_order.proofs.PeelLemmas.{visited-more}

-- what is read past the last edge
abbrev pub no-edge : Edge
no-edge = record { held = record { 0 = 0 }; taken = record { 0 = 0 }; point = record { actor = record { 0 = 0 }; pc = 0; side = Before } }

pub insert-first : {X : Type 0} (xs : List X) (x : X) → insert xs 0 x ≡ x ∷ xs
insert-first [] x = refl
insert-first (y ∷ xs) x = refl

-- a mutex of the rest isn't free
pub never-free : (edges : List Edge) (order rest view : List ObjId) (m : ObjId) → view ≡ order → IsPeeled edges order rest → Contains rest m → IsFree edges view m.0 → ⊥
never-free edges order rest view m seen p inside free =
    let b = All-contains (λ x. (e : Edge) × Blocks edges order x.0 e) rest m p.stuck inside in
    let f = All-contains (λ e. e.taken.0 ≡ m.0 → IsListed view e.held.0) edges b.0 free b.1.among b.1.leads in
    b.1.unlisted (subst (λ v. IsListed v b.0.held.0) seen f)

-- an edge that blocks a mutex comes from one of the rest
pub held-inside : (edges : List Edge) (order rest view : List ObjId) (m : ℕ) (e : Edge) → view ≡ order → IsPeeled edges order rest → Blocks edges view m e → Contains rest e.held
held-inside edges order rest view m e seen p b =
    let sorted = All-contains (λ e. IsSorted order rest e.held × IsSorted order rest e.taken) edges e p.sorted b.among in
    ⊎_elim (λ l. absurd (b.unlisted (subst (λ v. IsListed v e.held.0) (sym seen) l))) (λ h. h) sorted.0

pub walk-starts : (edges : List Edge) (rest view unvisited : List ObjId) (path : List Edge) (current : ObjId) → Contains rest current → view ≡ rest → unvisited ≡ view → path ≡ [] → IsWalk edges rest unvisited path current
walk-starts edges rest view unvisited path current inside seen copied none = record {
  inside = inside;
  among = subst (λ p. AreAmong edges p) (sym none) (All-nil (λ e. Contains edges e));
  leads = (current.0, subst (λ p. LeadsFrom current.0 p current.0) (sym none) refl);
  visited = λ k d l. inl (subst (λ xs. Contains xs (get_or rest k d)) (sym (copied ∙ seen)) (Contains-get_or rest k d l));
}

pub walk-more : (edges : List Edge) (order rest view unvisited seen others : List ObjId) (path next : List Edge) (current : ObjId) (i : ℕ) (e : Edge) → IsPeeled edges order rest →
    view ≡ order → seen ≡ unvisited → others ≡ remove unvisited i → next ≡ insert path 0 e → i < length seen → HoldsAt (λ x. x.0 ≡ current.0) seen i → Blocks edges view current.0 e → IsWalk edges rest unvisited path current →
    IsWalk edges rest others next e.held
walk-more edges order rest view unvisited seen others path next current i e p is copied removed inserted l at b w =
    let first : next ≡ e ∷ path = inserted ∙ insert-first path e in
    let long : i < length unvisited = subst (λ xs. i < length xs) copied l in
    let here : (d : ObjId) → (get_or unvisited i d).0 ≡ e.taken.0 = λ d. subst (λ xs. (get_or xs i d).0 ≡ e.taken.0) copied (at d ∙ sym b.leads) in
    let visited' = visited-more unvisited path i e rest long here w.visited in
    let leads' : LeadsFrom e.taken.0 path w.leads.0 = subst (λ m. LeadsFrom m path w.leads.0) (sym b.leads) w.leads.1 in
    record {
      inside = held-inside edges order rest view current.0 e is p b;
      among = subst (λ q. AreAmong edges q) (sym first) (All-cons (λ x. Contains edges x) e path b.among w.among);
      leads = (w.leads.0, subst (λ q. LeadsFrom e.held.0 q w.leads.0) (sym first) (refl, leads'));
      visited = subst (λ xs. All (λ m. IsVisited xs next m) rest) (sym removed) (subst (λ q. All (λ m. IsVisited (remove unvisited i) q m) rest) (sym first) visited');
    }

-- a mutex that isn't to be visited any more is one that an edge of the path leads to
pub walk-comes-back : (edges : List Edge) (rest unvisited seen : List ObjId) (path trail : List Edge) (current : ObjId) → seen ≡ unvisited → trail ≡ path → IsWalk edges rest unvisited path current →
    All (λ x. x.0 ≢ current.0) seen → All (λ e. e.taken.0 ≢ current.0) trail → ⊥
walk-comes-back edges rest unvisited seen path trail current copied same w none never =
    ⊎_elim
    (λ among. All-contains (λ x. x.0 ≢ current.0) seen current none (subst (λ xs. Contains xs current) (sym copied) among) refl)
    (λ there. All-contains (λ e. e.taken.0 ≢ current.0) trail there.0 never (subst (λ q. Contains q there.0) (sym same) there.1) there.2)
    (All-contains (λ m. IsVisited unvisited path m) rest current w.visited w.inside)

pub walk-closes : (edges : List Edge) (rest unvisited : List ObjId) (path trail cycle : List Edge) (current : ObjId) (last : ℕ) → trail ≡ path → IsWalk edges rest unvisited path current →
    last < length trail → HoldsAt (λ e. e.taken.0 ≡ current.0) trail last → cycle ≡ take (last + 1) path → IsCycleOf edges cycle
walk-closes edges rest unvisited path trail cycle current last same w l at cut =
    let long : last < length path = subst (λ q. last < length q) same l in
    let back : (get_or path last no-edge).taken.0 ≡ current.0 = subst (λ q. (get_or q last no-edge).taken.0 ≡ current.0) same (at no-edge) in
    let whole : cycle ≡ take (suc last) path = cut ∙ ap (λ n. take n path) (add-one last) in
    record {
      each = subst (λ q. AreAmong edges q) (sym cut) (All-take (λ x. Contains edges x) (last + 1) path w.among);
      closes = subst (λ q. ClosesUp q) (sym whole) (closes-taken current.0 w.leads.0 path last no-edge w.leads.1 long back);
    }

pub among-push : (edges path : List Edge) (e : Edge) → AreAmong edges path → Contains edges e → AreAmong edges (path ++ e ∷ [])
among-push edges path e all one = All-push (λ x. Contains edges x) path e all one

-- the edges are some of those, which are some of these
pub cycle-among : (edges reached cycle : List Edge) → AreAmong edges reached → IsCycleOf reached cycle → IsCycleOf edges cycle
cycle-among edges reached cycle all c = record {
  each = All-weaker (λ e. Contains reached e) (λ e. Contains edges e) (λ e h. All-contains (λ x. Contains edges x) reached e all h) cycle c.each;
  closes = c.closes;
}

pub back-more : (reached path next : List Edge) (current : ℕ) (first : ℕ) (e : Edge) → next ≡ insert path 0 e → Contains reached e → e.taken.0 ≡ current → AreAmong reached path → LeadsFrom current path first → AreAmong reached next × LeadsFrom e.held.0 next first
back-more reached path next current first e inserted among leads all on =
    let begins : next ≡ e ∷ path = inserted ∙ insert-first path e in (
      subst (λ q. AreAmong reached q) (sym begins) (All-cons (λ x. Contains reached x) e path among all),
      subst (λ q. LeadsFrom e.held.0 q first) (sym begins) (refl, subst (λ m. LeadsFrom m path first) (sym leads) on),
    )

pub back-closes : (reached path next : List Edge) (e : Edge) (from first : ℕ) → next ≡ insert path 0 e → from ≡ first → AreAmong reached next → LeadsFrom from next first → IsCycleOf reached next
back-closes reached path next e from first inserted same all leads =
    let begins : next ≡ e ∷ path = inserted ∙ insert-first path e in
    let some : 0 < length next = subst (λ q. 0 < length q) (sym begins) (omega arith) in
    record { each = all; closes = closes-all from next (subst (λ t. LeadsFrom from next t) (sym same) leads) some }

pub found-among : (edges reached view : List Edge) (o : Option (Vec Edge Global)) → view ≡ reached → AreAmong edges reached → IfSome o (λ v. IsCycleOf view v.items) → IfSome o (λ v. IsCycleOf edges v.items)
found-among edges reached view None same all c = tt
found-among edges reached view (Some v) same all c = cycle-among edges reached v.items all (subst (λ q. IsCycleOf q v.items) same c)

-- Tidied lines that keep each plain line show others no less: where the plain lines have come to line p, the tidied ones have come to a
-- line that meets it, by steps that look the same.
use Rattle.std.proofs.Common.{◌≡◌, ◌⊎◌, ⊎_elim, ℕ, suc, List, [], ◌∷◌, Option, Some, Bool, true, false, refl, sym, ap, ◌∙◌, subst, arith}
use Rattle.std.specs.Prelude.{slice_get, not, unwrap_or}
use Rattle.std.proofs.lemmas.Bool.{false≢true}
use Rattle.std.proofs.lemmas.Option.{same_Some, slice_get_within}
use Rattle.fr_source.specs.declared.expand.Line.{Line}
use Rattle.fr_source.specs.declared.program.Action.{Action}
use Rattle.fr_source.specs.declared.program.Action.TheVariants.{Set, Pick, Call as Calls, If, Goto, Return, End}
use Rattle.fr_source.specs.declared.program.Operand.{Operand}
use Rattle.fr_source.specs.declared.program.Comparison.{Comparison}
use Rattle.fr_source.specs.declared.program.Comparison.TheVariants.{Equal, Unequal, Less, AtMost, Greater, AtLeast}
use Rattle.fr_source.specs.Steps.{Values, value_in, compare, looks, ends, Seen, Did, Looked, Chooses, HidesAt, Hides, ShowsAt, Shows, GlidesBy, Glides, after, CanShow, ShowsNoLess}
use Rattle.fr_source.specs.Kept.{Tidied, inverse, Slides, IsReturn, Aims, Meets, LineIs, SameIf, OppositeIf, KeepsAct, KeepsStep, KeepsAll}
use Rattle.fr_source.proofs.Glides.{glides-join, glides-none, glides-more}

not-not : (b : Bool) → b ≡ not (not b)
not-not true = refl
not-not false = refl

-- the opposite comparison holds where this one doesn't
opposite : (c : Comparison) (a b : _) → compare (inverse c) a b ≡ not (compare c a b)
opposite Equal a b = refl
opposite Unequal a b = not-not _
opposite Less a b = refl
opposite AtMost a b = not-not _
opposite Greater a b = refl
opposite AtLeast a b = not-not _

-- where an `if` goes, of what is so of its target and of the next line
chosen : (P : ℕ → Type 0) (b : Bool) (n target m : ℕ) (to : Option ℕ) → to ≡ Some target → P target → P (suc n) → Chooses b n to m → P m
chosen P true n target m to goes far near step = subst P (same_Some target m (sym goes ∙ step)) far
chosen P false n target m to goes far near step = subst P (sym step) near

module _ (t : Tidied) (plain : List Line) (keeps : KeepsAll t plain) where
  -- gotos from line q end at the line before the mark
  ends-before : (q mark n : ℕ) → slice_get t.marks q ≡ Some mark → mark ≡ suc n → Slides t.variables t.lines q n
  ends-before q mark n there before =
      let marked = keeps.marked q mark there in
      ⊎_elim
      (λ h. absurd (omega (arith, h.0, before)))
      (λ h. let same : marked.0 ≡ n = omega (arith, h, before) in subst (Slides t.variables t.lines q) same marked.1)
      marked.2

  ends-at-return : (q : ℕ) → slice_get t.marks q ≡ Some 0 → (m : ℕ) × Slides t.variables t.lines q m × IsReturn t.lines m
  ends-at-return q there =
      let marked = keeps.marked q 0 there in
      ⊎_elim (λ h. (marked.0, marked.1, h.1)) (λ h. absurd (omega (arith, h))) marked.2

  -- line m of the tidied code is an `if` on these operands, and with these values it goes where plain line p does
  record GoesToo (v : Values) (q p : ℕ) (left right : Operand) : Type 0 where
    pub m : ℕ
    pub x : ℕ
    pub comparison : Comparison
    pub to : Option ℕ
    pub slides : Slides t.variables t.lines q m
    pub is : LineIs t m (If left comparison right) to
    pub goes : Chooses (compare comparison (value_in v left) (value_in v right)) m to x
    pub meets : Meets t.aims t.marks p x

  at-suc : (p mark n : ℕ) → mark ≡ suc n → Meets t.aims t.marks p mark → Meets t.aims t.marks p (suc n)
  at-suc p mark n before h = subst (λ k. Meets t.aims t.marks p k) before h

  goes-same : (v : Values) (q p p' mark target : ℕ) (left right : Operand) (c : Comparison) (to : Option ℕ) → slice_get t.marks q ≡ Some mark → to ≡ Some target → SameIf t p mark (If left c right) target → (b : Bool) → compare c (value_in v left) (value_in v right) ≡ b → Chooses b p to p' → GoesToo v q p' left right
  goes-same v q p p' mark target left right c to there goes s true is step = record {
    m = s.n;
    x = s.to;
    comparison = c;
    to = Some s.to;
    slides = ends-before q mark s.n there s.before;
    is = s.is;
    goes = subst (λ b. Chooses b s.n (Some s.to) s.to) (sym is) refl;
    meets = subst (λ k. Meets t.aims t.marks k s.to) (same_Some target p' (sym goes ∙ step)) s.far;
  }
  goes-same v q p p' mark target left right c to there goes s false is step = record {
    m = s.n;
    x = suc s.n;
    comparison = c;
    to = Some s.to;
    slides = ends-before q mark s.n there s.before;
    is = s.is;
    goes = subst (λ b. Chooses b s.n (Some s.to) (suc s.n)) (sym is) refl;
    meets = subst (λ k. Meets t.aims t.marks k (suc s.n)) (sym step) (at-suc (suc p) mark s.n s.before s.near);
  }

  goes-opposite : (v : Values) (q p p' mark target : ℕ) (left right : Operand) (c : Comparison) (to : Option ℕ) → slice_get t.marks q ≡ Some mark → to ≡ Some target → OppositeIf t p mark (If left c right) target → (b : Bool) → compare c (value_in v left) (value_in v right) ≡ b → Chooses b p to p' → GoesToo v q p' left right
  goes-opposite v q p p' mark target left right c to there goes s true is step = record {
    m = s.n;
    x = suc s.n;
    comparison = inverse c;
    to = Some s.to;
    slides = ends-before q mark s.n there s.before;
    is = s.is;
    goes = subst (λ b. Chooses b s.n (Some s.to) (suc s.n)) (sym (opposite c _ _ ∙ ap not is)) refl;
    meets = subst (λ k. Meets t.aims t.marks k (suc s.n)) (same_Some target p' (sym goes ∙ step)) (at-suc target mark s.n s.before s.far);
  }
  goes-opposite v q p p' mark target left right c to there goes s false is step = record {
    m = s.n;
    x = s.to;
    comparison = inverse c;
    to = Some s.to;
    slides = ends-before q mark s.n there s.before;
    is = s.is;
    goes = subst (λ b. Chooses b s.n (Some s.to) s.to) (sym (opposite c _ _ ∙ ap not is)) refl;
    meets = subst (λ k. Meets t.aims t.marks k s.to) (sym step) s.near;
  }

  goes-too : (v : Values) (q p p' mark target : ℕ) (left right : Operand) (c : Comparison) (to : Option ℕ) → slice_get t.marks q ≡ Some mark → to ≡ Some target → SameIf t p mark (If left c right) target ⊎ OppositeIf t p mark (If left c right) target → Chooses (compare c (value_in v left) (value_in v right)) p to p' → GoesToo v q p' left right
  goes-too v q p p' mark target left right c to there goes h step =
      ⊎_elim
      (λ s. goes-same v q p p' mark target left right c to there goes s _ refl step)
      (λ s. goes-opposite v q p p' mark target left right c to there goes s _ refl step)
      h

  -- after a step that nobody sees of the plain lines, the tidied ones can have come to a line that meets where it leads
  abbrev Comes : Values → ℕ → ℕ → Type 0
  Comes v q p = (x : ℕ) × Glides t.variables t.lines v q x × Meets t.aims t.marks p x

  hides-if : (v : Values) (q p p' : ℕ) (left right : Operand) → looks t.variables left right ≡ false → GoesToo v q p' left right → Comes v q p'
  hides-if v q p p' left right own g =
      let step : HidesAt t.variables v g.m g.is.line.action g.is.line.to g.x =
      subst (λ a. HidesAt t.variables v g.m a g.is.line.to g.x) (sym g.is.does)
      (own, subst (λ to. Chooses (compare g.comparison (value_in v left) (value_in v right)) g.m to g.x) (sym g.is.goes) g.goes) in
      (g.x, glides-more t.variables t.lines v q g.m g.x (g.slides v) (record { line = g.is.line; there = g.is.there; step = step }), g.meets)

  hidden : (v : Values) (q p p' mark : ℕ) (action : Action) (to : Option ℕ) → slice_get t.marks q ≡ Some mark → KeepsStep t p mark action to → HidesAt t.variables v p action to p' → Comes v q p'
  hidden v q p p' mark Goto to there (m, goes, aims) step =
      (q, glides-none t.variables t.lines v q, (mark, subst (λ k. Aims t.aims k mark) (same_Some m p' (sym goes ∙ step)) aims, there))
  hidden v q p p' mark (If left c right) to there (target, goes, h) step =
      ⊎_elim
      (λ s. (q, glides-none t.variables t.lines v q, (mark, chosen (λ k. Aims t.aims k mark) _ p target p' to goes s.far s.near step.1, there)))
      (λ s. hides-if v q p p' left right step.0 (goes-too v q p p' mark target left right c to there goes s step.1))
      h
  hidden v q p p' mark action to there h step = elim step [ ]

  hides : (v : Values) (q p p' : ℕ) → Meets t.aims t.marks p q → Hides t.variables plain v p p' → Comes v q p'
  hides v q p p' (mark, aims, there) h =
      hidden v q p p' mark h.line.action h.line.to there (keeps.each p (slice_get_within plain p h.line h.there) mark h.line aims h.there) h.step

  glides : (v : Values) (q p p' : ℕ) (via : List ℕ) → Meets t.aims t.marks p q → GlidesBy t.variables plain v p via p' → Comes v q p'
  glides v q p p' [] meets same = (q, glides-none t.variables t.lines v q, subst (λ k. Meets t.aims t.marks k q) same meets)
  glides v q p p' (k ∷ via) meets (first, rest) =
      let one = hides v q p k meets first in
      let more = glides v one.0 k p' via one.2 rest in
      (more.0, glides-join t.variables t.lines v q one.0 more.0 one.1 more.1, more.2)

  -- after a step that others see of the plain lines, the tidied ones can have shown the same
  record ShowsToo (v : Values) (q p : ℕ) (seen : Seen) : Type 0 where
    pub m : ℕ
    pub x : ℕ
    pub slides : Slides t.variables t.lines q m
    pub line : Line
    pub there : slice_get t.lines m ≡ Some line
    pub step : ShowsAt t.variables m line.action line.to seen x
    pub meets : Meets t.aims t.marks p x

  shows-if : (v : Values) (q p p' : ℕ) (left right l r : Operand) (u : Values) → l ≡ left → r ≡ right → looks t.variables left right ≡ true → GoesToo u q p' left right → ShowsToo v q p' (Looked l r u)
  shows-if v q p p' left right l r u el er shared g =
      let step : ShowsAt t.variables g.m g.is.line.action g.is.line.to (Looked l r u) g.x =
      subst (λ a. ShowsAt t.variables g.m a g.is.line.to (Looked l r u) g.x) (sym g.is.does)
      (el, er, shared, subst (λ to. Chooses (compare g.comparison (value_in u left) (value_in u right)) g.m to g.x) (sym g.is.goes) g.goes) in
      record { m = g.m; x = g.x; slides = g.slides; line = g.is.line; there = g.is.there; step = step; meets = g.meets }

  -- the line does the same, and goes on as it did
  acts-on : (v : Values) (q p p' mark : ℕ) (action : Action) (to : Option ℕ) (seen : Seen) → slice_get t.marks q ≡ Some mark → (k : KeepsAct t p mark action to) → ends action ≡ false → p' ≡ suc p → ShowsAt t.variables k.n action k.now seen (suc k.n) → ShowsToo v q p' seen
  acts-on v q p p' mark action to seen there k leads on step = record {
    m = k.n;
    x = suc k.n;
    slides = ends-before q mark k.n there k.before;
    line = k.is.line;
    there = k.is.there;
    step = subst (λ a. ShowsAt t.variables k.n a k.is.line.to seen (suc k.n)) (sym k.is.does) (subst (λ o. ShowsAt t.variables k.n action o seen (suc k.n)) (sym k.is.goes) step);
    meets = subst (λ j. Meets t.aims t.marks j (suc k.n)) (sym on) (at-suc (suc p) mark k.n k.before (k.on leads));
  }

  -- and fails as it did
  acts-failed : (v : Values) (q p p' mark : ℕ) (action : Action) (to : Option ℕ) (seen : Seen) → slice_get t.marks q ≡ Some mark → (k : KeepsAct t p mark action to) → ends action ≡ false → p' ≡ unwrap_or to (suc p) → ShowsAt t.variables k.n action k.now seen (unwrap_or k.now (suc k.n)) → ShowsToo v q p' seen
  acts-failed v q p p' mark action to seen there k leads failed step = record {
    m = k.n;
    x = unwrap_or k.now (suc k.n);
    slides = ends-before q mark k.n there k.before;
    line = k.is.line;
    there = k.is.there;
    step = subst (λ a. ShowsAt t.variables k.n a k.is.line.to seen (unwrap_or k.now (suc k.n))) (sym k.is.does) (subst (λ o. ShowsAt t.variables k.n action o seen (unwrap_or k.now (suc k.n))) (sym k.is.goes) step);
    meets = subst (λ j. Meets t.aims t.marks j (unwrap_or k.now (suc k.n))) (sym failed) (subst (λ j. Meets t.aims t.marks (unwrap_or to (suc p)) (unwrap_or k.now j)) k.before (k.failed leads));
  }

  shown : (v : Values) (q p p' mark : ℕ) (action : Action) (to : Option ℕ) (seen : Seen) → slice_get t.marks q ≡ Some mark → KeepsStep t p mark action to → ShowsAt t.variables p action to seen p' → ShowsToo v q p' seen
  shown v q p p' mark Goto to seen there k step = elim step [ ]
  shown v q p p' mark End to seen there k step = elim step [ ]
  shown v q p p' mark (If left c right) to (Looked l r values) there (target, goes, h) (el, er, shared, step) =
      ⊎_elim
      (λ s. absurd (false≢true (sym s.own ∙ shared)))
      (λ s. shows-if v q p p' left right l r values el er shared (goes-too values q p p' mark target left right c to there goes s step))
      h
  shown v q p p' mark (If left c right) to (Did action worked before after) there k step = elim step [ ]
  shown v q p p' mark Return to (Did Return true before after) there k step =
      let back = ends-at-return q (subst (λ j. slice_get t.marks q ≡ Some j) k there) in
      record {
        m = back.0;
        x = 0;
        slides = back.1;
        line = back.2.0;
        there = back.2.1;
        step = subst (λ a. ShowsAt t.variables back.0 a back.2.0.to (Did Return true before after) 0) (sym back.2.2) refl;
        meets = subst (λ j. Meets t.aims t.marks j 0) (sym step) keeps.first;
      }
  shown v q p p' mark Return to seen there k step = elim step [ ]
  shown v q p p' mark (Set x l m) to (Did done true before after) there k (same, leads, on) = acts-on v q p p' mark (Set x l m) to _ there k leads on (same, leads, refl)
  shown v q p p' mark (Set x l m) to (Did done false before after) there k (same, leads, failed) = acts-failed v q p p' mark (Set x l m) to _ there k leads failed (same, leads, refl)
  shown v q p p' mark (Set x l m) to (Looked l' r values) there k step = elim step [ ]
  shown v q p p' mark (Pick x range) to (Did done true before after) there k (same, leads, on) = acts-on v q p p' mark (Pick x range) to _ there k leads on (same, leads, refl)
  shown v q p p' mark (Pick x range) to (Did done false before after) there k (same, leads, failed) = acts-failed v q p p' mark (Pick x range) to _ there k leads failed (same, leads, refl)
  shown v q p p' mark (Pick x range) to (Looked l' r values) there k step = elim step [ ]
  shown v q p p' mark (Calls answer call) to (Did done true before after) there k (same, leads, on) = acts-on v q p p' mark (Calls answer call) to _ there k leads on (same, leads, refl)
  shown v q p p' mark (Calls answer call) to (Did done false before after) there k (same, leads, failed) = acts-failed v q p p' mark (Calls answer call) to _ there k leads failed (same, leads, refl)
  shown v q p p' mark (Calls answer call) to (Looked l' r values) there k step = elim step [ ]

  shows : (u : Values) (q p p' : ℕ) (seen : Seen) → Meets t.aims t.marks p q → Shows t.variables plain u p seen p' → ShowsToo u q p' seen
  shows u q p p' seen (mark, aims, there) s =
      shown u q p p' mark s.line.action s.line.to seen there (keeps.each p (slice_get_within plain p s.line s.there) mark s.line aims s.there) s.step

  can-show : (steps : List Seen) (v : Values) (p q : ℕ) → Meets t.aims t.marks p q → CanShow t.variables plain v p steps → CanShow t.variables t.lines v q steps
  can-show [] v p q meets can = tt
  can-show (seen ∷ rest) v p q meets (m, (via, way), k, u, own, s, more) =
      let here = glides v q p m via meets way in
      let same = shows u here.0 m k seen here.2 s in (
        same.m,
        glides-join t.variables t.lines v q here.0 same.m here.1 (same.slides v),
        same.x,
        u,
        own,
        record { line = same.line; there = same.there; values = s.values; step = same.step },
        can-show rest (after seen) k same.x same.meets more,
      )

  pub show-no-less : ShowsNoLess t.variables plain t.lines
  show-no-less = λ v steps. can-show steps v 0 0 keeps.first

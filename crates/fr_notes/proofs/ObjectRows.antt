-- The rows that touch one object, and write the result of a call to at most one variable.
--
-- Such a row leaves the object with a content of its own, and all else as it was. It gives one content before it for each
-- end of the results' range; where there is no result, one content would do.
use Rattle.std.proofs.Common.{◌≡◌, ◌≢◌, ◌<◌, length, Option, Some, None, Bool, false, refl, sym, ap, ◌∙◌, subst, arith, get_or-set_other}
use Rattle.std.specs.Prelude.{ℤ, pos, IfSome}
use Rattle.std.proofs.Math.ListN.{length-set}
use Rattle.fr_notes.proofs.Terms.{get_or-set_same, set-get_or, ObjId, VarId, Point, Side, Program, Instr, Range, Way, State, Content, Dead, CanHave, content_of, value_of, kind_of, becomes, write, Row}
use Rattle.fr_notes.proofs.Terms.{IsFree, transition, with_result, Within, ends_of, Known, IsOther, IsLeft, taught, Holding, Unheld, holding, mover_claim, other_claim, IsSpot, resulting}
use Rattle.fr_notes.proofs.Shown.{instead-same, instead-other}
use Rattle.fr_notes.proofs.Holdings.{IsIn}
use Rattle.fr_notes.proofs.Seen.{Site, mover, other, IsKnown, Choice, drawn, IsChosen, drawn-known, drawn-content, drawn-values, usual, usual-chosen, filled, filled-chosen}
use Rattle.fr_notes.proofs.Left.{end_of, left-from}
use Rattle.fr_notes.proofs.Rows.{Attains, IsAfter, IsRow, site, row-exact}

-- what a row on an object has to give; the object is `new` after it, and the result, if there is one, is in the span
pub record IsObjectRow (s : Site) (side : Side) (i : Instr) (way : Way) (o : ObjId) (new : Holding) (result : Option VarId) (span : Range) : Type 0 where
  pub after : (S : State) (c : ℤ) (mid : State) → IsKnown s S → IsFree s.app S (mover s) side i → Row s.app (transition S (mover s) c mid) side i way → (made : Content) × (v : ℤ) × (mid ≡ with_result result v (becomes o.0 made S)) × IsIn (mover s) (other s) new made × Within (ends_of span) v
  -- for each end a content before, and from each state with that content the row
  pub shown : (d : Bool) → (before : Content) × CanHave s.app (kind_of s.app o.0) before × IsIn (mover s) (other s) (holding s.known o.0) before
      × ((S : State) → IsKnown s S → content_of S o.0 ≡ before → (c : ℤ) × (made : Content) × Row s.app (transition S (mover s) c (with_result result (end_of d (ends_of span)) (becomes o.0 made S))) side i way × IsFree s.app S (mover s) side i)
  pub taught : taught (mover_claim new) (other_claim (holding s.known o.0)) ≡ other_claim new
  pub some : new ≢ Unheld
  pub object : o.0 < length s.app.objects
  pub variable : IfSome result (λ x. x.0 < length s.app.variables)

module _ (s : Site) (o : ObjId) (new : Holding) (span : Range) (object : o.0 < length s.app.objects) (S : State) (made : Content) (v : ℤ) (known : IsKnown s S) (inside : IsIn (mover s) (other s) new made) (within : Within (ends_of span) v) where
  made-at : content_of (becomes o.0 made S) o.0 ≡ made
  made-at = get_or-set_same S.objects o.0 made Dead (let long = known.mover.formed.objects in omega (arith, long, object))

  after-object : (result : Option VarId) → IfSome result (λ x. x.0 < length s.app.variables) → IsAfter s (resulting s.known o (mover_claim new) result span) new S (with_result result v (becomes o.0 made S))
  after-object None there = record {
    objects = length-set S.objects o.0 made;
    values = refl;
    untouched = λ j apart. get_or-set_other S.objects o.0 j made Dead apart;
    touched = subst (λ c. IsIn (mover s) (other s) new c) (sym made-at) inside;
    unwritten = λ x miss. refl;
    first = tt;
    second = tt;
    critical = known.mover.holds.critical;
    suspended = known.mover.holds.suspended;
    others_critical = refl;
    others_suspended = refl;
  }
  after-object (Some x) there = record {
    objects = length-set S.objects o.0 made;
    values = length-set S.values x.0 v;
    untouched = λ j apart. get_or-set_other S.objects o.0 j made Dead apart;
    touched = subst (λ c. IsIn (mover s) (other s) new c) (sym made-at) inside;
    unwritten = λ y miss. get_or-set_other S.values x.0 y v (pos 0) miss.0;
    first = subst (λ z. Within (ends_of span) z) (sym (get_or-set_same S.values x.0 v (pos 0) (let long = known.mover.formed.variables in omega (arith, long, there)))) within;
    second = tt;
    critical = known.mover.holds.critical;
    suspended = known.mover.holds.suspended;
    others_critical = refl;
    others_suspended = refl;
  }

module _ (s : Site) (side : Side) (i : Instr) (way : Way) (o : ObjId) (new : Holding) (span : Range) where
  -- the object has one of the contents before
  abbrev pub CanGo : (result : Option VarId) → IsObjectRow s side i way o new result span → Choice → Type 0
  CanGo result r f = (d : Bool) × (f.content o.0 ≡ (r.shown d).0)

  module _ (result : Option VarId) (r : IsObjectRow s side i way o new result span) (d : Bool) where
    base : Choice
    base = filled o.0 (r.shown d).0 (usual s)

    base-chosen : IsChosen s base
    unfolding base
    base-chosen = filled-chosen s (usual s) (usual-chosen s) o.0 (r.shown d).0 (r.shown d).1 (r.shown d).2

    base-can : base.content o.0 ≡ (r.shown d).0
    unfolding base
    base-can = instead-same o.0 (r.shown d).0 (usual s).content

    row-there : (f : Choice) → IsChosen s f → f.content o.0 ≡ (r.shown d).0 → (c : ℤ) × (made : Content) × Row s.app (transition (drawn s f) (mover s) c (with_result result (end_of d (ends_of span)) (becomes o.0 made (drawn s f)))) side i way × IsFree s.app (drawn s f) (mover s) side i
    row-there f chosen e = (r.shown d).3 (drawn s f) (drawn-known s f chosen) (drawn-content s f o.0 r.object ∙ e)

  ends-written : (result : Option VarId) (r : IsObjectRow s side i way o new result span) → IfSome (resulting s.known o (mover_claim new) result span).first (λ w. (d : Bool) → Attains s side i way (λ mid. value_of mid w.0.0 ≡ end_of d (ends_of w.1)))
  ends-written None r = tt
  ends-written (Some x) r = λ d.
      let f = base (Some x) r d in
      let t = row-there (Some x) r d f (base-chosen (Some x) r d) (base-can (Some x) r d) in
      let v = end_of d (ends_of span) in
      record {
        from = f;
        chosen = base-chosen (Some x) r d;
        choice = t.0;
        mid = write x.0 v (becomes o.0 t.1 (drawn s f));
        row = t.2;
        free = t.3;
        fact = get_or-set_same (drawn s f).values x.0 v (pos 0) (let there = r.variable in let long = drawn-values s f in omega (arith, there, long));
      }

  pub object-row : (result : Option VarId) (r : IsObjectRow s side i way o new result span) → IsRow s side i way (resulting s.known o (mover_claim new) result span) new (CanGo result r)
  object-row result r = record {
    after = λ S c mid known free row.
        let k = r.after S c mid known free row in
        subst (λ U. IsAfter s (resulting s.known o (mover_claim new) result span) new S U) (sym k.2) (after-object s o new span r.object S k.0 k.1 known k.3 k.4 result r.variable);
    goes = λ f chosen can.
        let t = row-there result r can.0 f chosen can.1 in
        (t.0, with_result result (end_of can.0 (ends_of span)) (becomes o.0 t.1 (drawn s f)), t.2, t.3);
    base = base result r false;
    chosen = base-chosen result r false;
    can = (false, base-can result r false);
    values_free = λ f x v miss can. can;
    contents_free = λ f j c miss can. (can.0, instead-other j c f.content o.0 (λ e. miss (sym e)) ∙ can.1);
    first = ends-written result r;
    second = tt;
    claim = (refl, r.taught, r.some);
  }

-- the state where the object keeps its content
pub same-content : (o : ObjId) (S : State) → S ≡ becomes o.0 (content_of S o.0) S
same-content o S = sym (ap (λ os. record S { objects = os }) (set-get_or S.objects o.0 Dead))

-- such a row at each site is what is left
pub object-left : (P : Program) (k : Known) (p : Point) (side : Side) (i : Instr) (way : Way) (spot : IsSpot P k p side i) (o : ObjId) (new : Holding) (result : Option VarId) (span : Range) → ((q : Point) (there : IsOther P k p q) → IsObjectRow (site P k p q side i spot there) side i way o new result span) → IsLeft P k p way (resulting k o (mover_claim new) result span)
object-left P k p side i way spot o new result span row = left-from P k p way (resulting k o (mover_claim new) result span) (λ q there.
    let s = site P k p q side i spot there in
    let r = row q there in
    row-exact s side i way spot.stands spot.instr (resulting k o (mover_claim new) result span) new (CanGo s side i way o new span result r) (object-row s side i way o new span result r))

-- The ends of calls as the code has them: which change, and where there is none.
use Rattle.std.proofs.Common.{◌≡◌, ℕ, ◌-◌, ◌<◌, [], length, Option, Some, None, Bool, true, false, refl, sym, ap, ◌∙◌, subst, arith}
use Rattle.std.specs.Prelude.{ℤ, pos, ◌<ℤ◌, IsTrue, IfSome, All, nat_le, if◌then◌else◌}
use Rattle.fr_notes.proofs.Terms.{ints, same_Some, All-head, ObjId, VarId, Point, ObjectCall, Act, Try, Move, Attempt, QueueSend, QueueReceive, Take, Give, Reset, OfStream, OfMessage, Timing, Kind}
use Rattle.fr_notes.proofs.Terms.{Queue, Binary, Counting, Mutex, Recursive, Range, Program, KindInLimits, ActInLimits, suits_timing, acts_on, act_variables, written_by, option_list}
use Rattle.fr_notes.proofs.Terms.{Then, Else, State, kind_of, content_of, is_unsuited, Completes, transition, Change, ends_of, Known, IsLeft, Holding, Living, Own, holding, living, mover_claim}
use Rattle.fr_notes.proofs.Terms.{taken_by, given_by, worked_by, can_fail_on, is_mutex, is_given_unheld, results_of, failed_into, IsEnd, EndLeaves, resulting}
use Rattle.fr_notes.proofs.Holdings.{IsIn}
use Rattle.fr_notes.proofs.Seen.{Site, mover, other}
use Rattle.fr_notes.proofs.EndRows.{IsEndRow, Follows, IsAlive, living-alive, at, end-names, end-left, end-never}
use Rattle.fr_notes.proofs.Ends.{IsTarget, target, acts-on, in-limits}
use Rattle.fr_notes.proofs.AttemptRows.{attempt-row, attempt-never, failed-row, fails-never, given-own}
use Rattle.fr_notes.proofs.BufferRows.{move-row, move-never, nothing-row}

taken-follows : (kind : Kind) (known new : Holding) → taken_by kind known ≡ Some new → Follows known new
taken-follows Mutex Living (Own n) t = (tt, refl)
taken-follows Recursive Living (Own n) t = (tt, refl)
taken-follows Recursive (Own m) (Own n) t = (tt, refl)
taken-follows Binary Living Living t = (tt, refl)
taken-follows (Counting size first) Living Living t = (tt, refl)
taken-follows kind known new t = cc

given-follows : (kind : Kind) (known new : Holding) → given_by kind known ≡ Some new → Follows known new
given-follows Mutex (Own n) Living t = (tt, refl)
given-follows Recursive (Own n) new t = either (nat_le n 1) t
  where
    either : (d : Bool) → Some (if d then Living else Own (n - 1)) ≡ Some new → Follows (Own n) new
    either true e = subst (Follows (Own n)) (same_Some _ _ e) (tt, refl)
    either false e = subst (Follows (Own n)) (same_Some _ _ e) (tt, refl)
given-follows Binary Living Living t = (tt, refl)
given-follows (Counting size first) Living Living t = (tt, refl)
given-follows kind known new t = cc

worked-follows : (kind : Kind) (act : Act) (known new : Holding) → IsAlive known → worked_by kind act known ≡ Some new → Follows known new
worked-follows kind (Try (Take form) e) known new alive w = taken-follows kind known new w
worked-follows kind (Try (Give form) e) known new alive w = given-follows kind known new w
worked-follows kind act known new alive w = subst (Follows known) (same_Some _ _ w) (alive, refl)

option-there : (x : Option VarId) (n : ℕ) → All (λ x. x.0 < n) (option_list x) → IfSome x (λ x. x.0 < n)
option-there None n h = tt
option-there (Some x) n h = All-head (λ x. x.0 < n) x [] h

-- the variable that an act writes is one that it names
written-there : (act : Act) (n : ℕ) → All (λ x. x.0 < n) (act_variables act) → IfSome (written_by act) (λ x. x.0 < n)
written-there (Try (QueueReceive into) e) n h = All-head (λ x. x.0 < n) into [] h
written-there (Try (QueueSend value) e) n h = tt
written-there (Try (Take form) e) n h = tt
written-there (Try (Give form) e) n h = tt
written-there (Try (Reset buffer) e) n h = tt
written-there (Move end buffer k result) n h = option-there result n h

failed-there : (act : Act) (n : ℕ) → All (λ x. x.0 < n) (act_variables act) → IfSome (failed_into act) (λ x. x.0 < n)
failed-there (Try attempt e) n h = tt
failed-there (Move end buffer k result) n h = option-there result n h

-- a queue has values, and a range from 0 to 0 is one
values-there : (kind : Kind) (attempt : Attempt) (e : Option ℕ) → KindInLimits kind → (results_of kind (Try attempt e)).1 <ℤ (results_of kind (Try attempt e)).0 → ⊥
values-there (Queue size lo hi) attempt e h none = absurd (omega (arith, ints, none, h.1))
values-there kind attempt e h none = absurd (omega (arith, ints, none))

-- the row of an act that works, of one that can't, and of one that gives no number
module _ (s : Site) (o : ObjId) (known : Holding) (t : IsTarget s.app (mover s) (other s) (kind_of s.app o.0) known) (timing : Timing) where
  abbrev kind : Kind
  kind = kind_of s.app o.0

  work-row : (act : Act) (new : Holding) (span : Range) → IsTrue (acts_on act kind) → ActInLimits act → worked_by kind act known ≡ Some new → ends_of span ≡ results_of kind act → IsEndRow s o known new timing act Then (written_by act) span
  work-row (Try attempt e) new span acts limits w is = attempt-row s o known t timing attempt e new span acts w is
  work-row (Move end buffer n result) new span acts limits w is =
      subst (λ h. IsEndRow s o known h timing (Move end buffer n result) Then result span) (same_Some _ _ w) (move-row s o known t timing n result end buffer span acts limits.0 is)

  work-never : (act : Act) → ((form : _) (e : Option ℕ) → act ≡ Try (Give form) e → is_mutex kind (Some kind) ≡ true → (n : ℕ) × (known ≡ Own n)) → worked_by kind act known ≡ None → (S : State) (c : ℤ) (mid : State) → IsIn (mover s) (other s) known (content_of S o.0) → Completes s.app (transition S (mover s) c mid) o.0 timing act Then → ⊥
  work-never (Try attempt e) own w S c mid inside ends = attempt-never s o known t attempt e (λ form same. own form e (ap (λ x. Try x e) same)) w S mid inside ends.1
  work-never (Move end buffer n result) own w S c mid inside ends = cc

  span-never : (act : Act) → IsTrue (acts_on act kind) → ActInLimits act → (results_of kind act).1 <ℤ (results_of kind act).0 → (S : State) (c : ℤ) (mid : State) → Completes s.app (transition S (mover s) c mid) o.0 timing act Then → ⊥
  span-never (Try attempt e) acts limits none S c mid r = values-there kind attempt e t.limits none
  span-never (Move end buffer n result) acts limits none S c mid r = move-never s o known t timing n result end buffer acts limits.0 none S c mid r

  fail-row : (act : Act) (span : Range) → span.lo ≡ pos 0 → span.hi ≡ pos 0 → can_fail_on kind timing act ≡ true → IsEndRow s o known known timing act Else (failed_into act) span
  fail-row (Try attempt e) span lo hi f = failed-row s o known t timing attempt e span f
  fail-row (Move end OfMessage n result) span lo hi f = nothing-row s o known t timing n result end span lo hi
  fail-row (Move end OfStream n result) span lo hi f = cc

  fail-never : (act : Act) → can_fail_on kind timing act ≡ false → (S : State) (c : ℤ) (mid : State) → Completes s.app (transition S (mover s) c mid) o.0 timing act Else → ⊥
  fail-never (Try attempt e) f S c mid ends = fails-never timing kind (content_of S o.0) attempt e f ends.1
  fail-never (Move end OfMessage n result) f S c mid ends = cc
  fail-never (Move end OfStream n result) f S c mid ends = ends

both-ends : (span : Range) (r : ℤ × ℤ) → (span.lo ≡ r.0) × (span.hi ≡ r.1) → ends_of span ≡ r
both-ends span r (lo, hi) = ap (λ x. (x, span.hi)) lo ∙ ap (λ x. (r.0, x)) hi

module _ (k : Known) (kind : Kind) (known : Holding) (call : ObjectCall) where
  abbrev act : Act
  act = call.act

  pub works-left : (new : Holding) (span : Range) (change : Change) → worked_by kind act known ≡ Some new → (span.lo ≡ (results_of kind act).0) × (span.hi ≡ (results_of kind act).1) → change ≡ resulting k call.object (mover_claim new) (written_by act) span → EndLeaves k kind known call Then (Some change)
  works-left new span change w is same = λ P p e at_end.
      let w' = ap (λ x. worked_by x act known) e ∙ w in
      let is' : ends_of span ≡ results_of (kind_of P call.object.0) act = both-ends span (results_of kind act) is ∙ ap (λ x. results_of x act) (sym e) in
      let names = end-names P k p known call at_end in
      subst (λ x. IsLeft P k p Then x) (sym same)
      (end-left P k p known call at_end Then new (written_by act) span (worked-follows (kind_of P call.object.0) act known new (living-alive (holding k call.object.0) known at_end.living) w') (written-there act (length P.variables) names.1)
      (λ q there. work-row (at P k p known call at_end q there) call.object known (target P k p known call at_end q there) call.timing act new span (acts-on P k p known call at_end) (in-limits P k p known call at_end).2 w' is'))

  pub works-never : worked_by kind act known ≡ None → EndLeaves k kind known call Then None
  works-never w = λ P p e at_end.
      let w' = ap (λ x. worked_by x act known) e ∙ w in
      end-never P k p known call at_end Then (λ q there S c mid is inside ends.
      work-never (at P k p known call at_end q there) call.object known (target P k p known call at_end q there) call.timing act
      (λ form or_else same mutex. own P p at_end form or_else same mutex) w' S c mid inside ends)
    where
      own : (P : Program) (p : Point) (at_end : IsEnd P k p known call) (form : _) (or_else : Option ℕ) → act ≡ Try (Give form) or_else → is_mutex (kind_of P call.object.0) (Some (kind_of P call.object.0)) ≡ true → (n : ℕ) × (known ≡ Own n)
      own P p at_end form or_else same mutex =
          given-own (kind_of P call.object.0) call.object call.timing form or_else known
          (subst (λ x. IsTrue (suits_timing call.timing x)) same (in-limits P k p known call at_end).0)
          (subst (λ x. is_unsuited (kind_of P call.object.0) call.timing x ≡ false) same at_end.suits)
          (subst (λ x. is_given_unheld (kind_of P call.object.0) (record call { act = x }) known ≡ false) same at_end.held) mutex

  pub no-span : (results_of kind act).1 <ℤ (results_of kind act).0 → EndLeaves k kind known call Then None
  no-span none = λ P p e at_end.
      end-never P k p known call at_end Then (λ q there S c mid is inside ends.
      span-never (at P k p known call at_end q there) call.object known (target P k p known call at_end q there) call.timing act (acts-on P k p known call at_end) (in-limits P k p known call at_end).2
      (subst (λ x. (results_of x act).1 <ℤ (results_of x act).0) (sym e) none) S c mid ends)

  pub fails-left : (span : Range) (change : Change) → span.lo ≡ pos 0 → span.hi ≡ pos 0 → can_fail_on kind call.timing act ≡ true → change ≡ resulting k call.object (mover_claim known) (failed_into act) span → EndLeaves k kind known call Else (Some change)
  fails-left span change lo hi f same = λ P p e at_end.
      let alive = living-alive (holding k call.object.0) known at_end.living in
      subst (λ x. IsLeft P k p Else x) (sym same)
      (end-left P k p known call at_end Else known (failed_into act) span (alive, refl) (failed-there act (length P.variables) (end-names P k p known call at_end).1)
      (λ q there. fail-row (at P k p known call at_end q there) call.object known (target P k p known call at_end q there) call.timing act span lo hi (ap (λ x. can_fail_on x call.timing act) e ∙ f)))

  pub never-fails : can_fail_on kind call.timing act ≡ false → EndLeaves k kind known call Else None
  never-fails f = λ P p e at_end.
      end-never P k p known call at_end Else (λ q there S c mid is inside ends.
      fail-never (at P k p known call at_end q there) call.object known (target P k p known call at_end q there) call.timing act (ap (λ x. can_fail_on x call.timing act) e ∙ f) S c mid ends)

-- The rules that an alternative keeps, and the least one that it breaks. A rule is broken in the usual state with the
-- alternative, or in one with another content or other numbers in it; a rule that is kept is so by what every state with
-- the alternative has.
use Rattle.std.proofs.Common.{◌≡◌, ◌≢◌, ℕ, ◌<◌, ◌≤◌, List, [], ◌∷◌, length, Option, Some, None, Bool, true, false, refl, sym, ap, ◌∙◌, subst, arith, ⊎_elim, inl, inr, lit<}
use Rattle.std.specs.Prelude.{ℤ, pos, ◌≤ℤ◌, ◌⊎◌, ◌↔◌, IsTrue, find, nat_le, if◌then◌else◌}
use Rattle.fr_edge.proofs.Terms.{false≢true, cases_lt, leb-true, leb-false, get_or_past, ints, same_Some, Instr, Set, Calls, On, Delete, Create, Timing, Act, Try, QueueSend, Operand, Operator, VarId}
use Rattle.fr_edge.proofs.Terms.{Point, Side, Before, Inside, Kind, Program, actor_at, instr_of, is_interrupt, variable_at, no_variable, IsPoint, IsFaultless, NamesThings, OperandsFit, AreApart}
use Rattle.fr_edge.proofs.Terms.{IsConstant, State, Content, Dead, CanHave, content_of, suspension_of, kind_of, Rule, number_of, decided_rules, condition_of, first_forbidden, forbids, holds_some}
use Rattle.fr_edge.proofs.Terms.{used_object, GivesUnheld, LifeOutOfOrder, PutsOut, SendsOut, IsOutOfQueue, IsForbidden, Breaches, IsOutside, result_of, operand_of, Alternative, Within, range_of}
use Rattle.fr_edge.proofs.Terms.{NotedBy, AlternativeFits, Known, alone, joint_range, operand_in, CanBeIn, IsNamed, HasNumbersIn, condition_known, listed-case, instead-same, IsIn, HoldingFits}
use Rattle.fr_edge.proofs.Terms.{live-count, content_in, content-in, content-can, Site, other, IsKnown, Choice, drawn, IsChosen, drawn-known, drawn-content, usual, usual-chosen, filled, filled-chosen}
use Rattle.fr_edge.proofs.Terms.{contents-in, holds-known, known-fits, apart, is_own, KeepsRuleBy, BreaksRuleBy, Decides, RuleOutcome, is_decided, AnyRule, IsDecided, IsUndecided, lesser_of}
use Rattle.fr_edge.proofs.Terms.{may_be_live, gives_unheld, dead_by, uses_dead, creates_live, SendsIn, SendsOutBy, StaysIn, IsOutBy}
use Rattle.fr_program.specs.declared.instr.Operand.TheVariants.{Number, Variable}
use Rattle.fr_program.specs.declared.instr.Operator.TheVariants.{Plus, Minus, Times}
use Rattle.fr_program.specs.declared.ids.ObjId.{ObjId}
use Rattle.fr_program.specs.declared.parts.Kind.TheVariants.{Queue}
use Rattle.fr_program.specs.Limits.{IsNumber}
use Rattle.fr_rules.specs.declared.rules.Rule.TheVariants.{OneWriter, OneReader, GivenByHolder, AllowedInCritical, AllowedSuspended, AllowedInInterrupt, IsLive, LifeInOrder, SuitsSemaphore, DepthAboveZero, EndsInOrder, InRange}
use Rattle.fr_rules.proofs.Built.{HasSizes, is-built}
use Rattle.fr_rules.proofs.Contents.{new-fits}
use Rattle.fr_notes.specs.declared.holding.Holding.{Holding}
use Rattle.fr_notes.specs.declared.holding.Holding.TheVariants.{Unheld, Living, Lifeless, Own, Others}
use Rattle.fr_notes.specs.Holding.{holding, can_be_dead}
use Rattle.fr_notes.proofs.EndRows.{gives-held, unheld-gives}
use Rattle.fr_notes.proofs.VariableRows.{chosen_for, can-be-known, for-chosen, number-drawn, first-number, second-number}
use Rattle.fr_edge.proofs.Standing.{breach-here}

-- a rule of a list, and a fact about each
abbrev Among : List Rule → Rule → Type 0
Among [] other = ⊥
Among (r ∷ l) other = (r ≡ other) ⊎ Among l other

abbrev AllOf : (Rule → Type 0) → List Rule → Type 0
AllOf Q [] = Unit {0}
AllOf Q (r ∷ l) = Q r × AllOf Q l

among-all : (Q : Rule → Type 0) (l : List Rule) (r : Rule) → AllOf Q l → Among l r → Q r
among-all Q [] r all m = absurd m
among-all Q (s ∷ l) r all m = ⊎_elim (λ e. subst Q e all.0) (λ k. among-all Q l r all.1 k) m

-- rules in the order of their numbers
abbrev Sorted : List Rule → Type 0
Sorted [] = Unit {0}
Sorted (r ∷ l) = AllOf (λ other. number_of r < number_of other) l × Sorted l

decided-sorted : Sorted decided_rules
decided-sorted = ((lit< tt, (lit< tt, (lit< tt, (lit< tt, (lit< tt, tt))))), ((lit< tt, (lit< tt, (lit< tt, (lit< tt, tt)))), ((lit< tt, (lit< tt, (lit< tt, tt))), ((lit< tt, (lit< tt, tt)), ((lit< tt, tt), (tt, tt))))))

-- a rule of the list that is true where those with lesser numbers aren't, or none is
abbrev FirstOf : (Rule → Bool) → List Rule → Option Rule → Type 0
FirstOf q l None = (r : Rule) → Among l r → IsTrue (q r) → ⊥
FirstOf q l (Some r) =
    Among l r × IsTrue (q r) × ((other : Rule) → Among l other → number_of other < number_of r → IsTrue (q other) → ⊥)

find-first : (q : Rule → Bool) (l : List Rule) → Sorted l → FirstOf q l (find q l)
find-first q [] sorted = λ r m t. m
find-first q (s ∷ l) sorted = by-test (q s) refl (find-first q l sorted.1)
  where
    untrue : (r : Rule) → q s ≡ false → s ≡ r → IsTrue (q r) → ⊥
    untrue r f same t = false≢true (sym (ap q (sym same) ∙ f) ∙ t)

    later : (found : Option Rule) → q s ≡ false → FirstOf q l found → FirstOf q (s ∷ l) found
    later None f none = λ r m t. ⊎_elim (λ same. untrue r f same t) (λ k. none r k t) m
    later (Some r) f (m, t, least) =
        (inr m, t, λ other k lt u. ⊎_elim (λ same. untrue other f same u) (λ j. least other j lt u) k)

    by-test : (b : Bool) → q s ≡ b → FirstOf q l (find q l) → FirstOf q (s ∷ l) (if b then Some s else find q l)
    by-test true t rest = (inl refl, t, λ other m lt u. ⊎_elim (λ same. let n = ap number_of same in omega (arith, lt, n)) (λ k. let n = among-all (λ o. number_of s < number_of o) l other sorted.0 k in omega (arith, lt, n)) m)
    by-test false f rest = later (find q l) f rest

-- the rules that a condition decides
among-decided : (rule : Rule) → IsDecided rule → Among decided_rules rule
among-decided AllowedInCritical d = inl refl
among-decided AllowedSuspended d = inr (inl refl)
among-decided AllowedInInterrupt d = inr (inr (inl refl))
among-decided SuitsSemaphore d = inr (inr (inr (inl refl)))
among-decided DepthAboveZero d = inr (inr (inr (inr (inl refl))))
among-decided EndsInOrder d = inr (inr (inr (inr (inr (inl refl)))))
among-decided rule d = absurd (false≢true d)

decided-among : (rule : Rule) → Among decided_rules rule → IsDecided rule
decided-among rule m = among-all IsDecided decided_rules rule (refl, (refl, (refl, (refl, (refl, (refl, tt)))))) m

-- each of them is one that the point keeps by itself, and a breach of it is what it forbids
decided-rule : (P : Program) (S : State) (a : ℕ) (side : Side) (i : Instr) (rule : Rule) → IsDecided rule → IsTrue (is_own i rule) × (Breaches P S a side i rule ↔ IsForbidden P S a side i rule)
decided-rule P S a side i OneWriter d = absurd (false≢true d)
decided-rule P S a side i OneReader d = absurd (false≢true d)
decided-rule P S a side i GivenByHolder d = absurd (false≢true d)
decided-rule P S a side i IsLive d = absurd (false≢true d)
decided-rule P S a side i LifeInOrder d = absurd (false≢true d)
decided-rule P S a side i InRange d = absurd (false≢true d)
decided-rule P S a side i rule d = (refl, ((λ b. b), (λ b. b)))

-- what is known of an object decides whether it can be dead, and whether it can be live
dead-in : (a b : ℕ) (kind : Kind) (known : Holding) → can_be_dead known ≡ true → content_in a b kind known ≡ Dead
dead-in a b kind Unheld t = refl
dead-in a b kind Lifeless t = refl
dead-in a b kind Living t = absurd (false≢true t)
dead-in a b kind (Own n) t = absurd (false≢true t)
dead-in a b kind (Others n) t = absurd (false≢true t)

never-dead : (a b : ℕ) (content : Content) (known : Holding) → can_be_dead known ≡ false → IsIn a b known content → content ≢ Dead
never-dead a b content Unheld f i = absurd (false≢true (sym f))
never-dead a b content Lifeless f i = absurd (false≢true (sym f))
never-dead a b content Living f i = i.0
never-dead a b content (Own n) f i = live-count a n content i.0
never-dead a b content (Others n) f i = live-count b n content i.0

never-live : (a b : ℕ) (content : Content) (known : Holding) → may_be_live known ≡ false → IsIn a b known content → content ≡ Dead
never-live a b content Lifeless f i = i
never-live a b content Unheld f i = absurd (false≢true (sym f))
never-live a b content Living f i = absurd (false≢true (sym f))
never-live a b content (Own n) f i = absurd (false≢true (sym f))
never-live a b content (Others n) f i = absurd (false≢true (sym f))

live-in : (P : Program) (a b : ℕ) (kind : Kind) (known : Holding) → HasSizes kind → HoldingFits P a b kind known → may_be_live known ≡ true → (content : Content) × CanHave P kind content × IsIn a b known content × (content ≢ Dead)
live-in P a b kind Unheld h f t =
    let i = content-in P a b kind Living tt in (content_in a b kind Living, new-fits P kind h, (i.1, i.2), i.0)
live-in P a b kind Living h f t =
    let i = content-in P a b kind Living f in (content_in a b kind Living, new-fits P kind h, i, i.0)
live-in P a b kind Lifeless h f t = absurd (false≢true t)
live-in P a b kind (Own n) h f t =
    let i = content-in P a b kind (Own n) f in
    (content_in a b kind (Own n), content-can P a b kind (Own n) h f, i, live-count a n (content_in a b kind (Own n)) i.0)
live-in P a b kind (Others n) h f t =
    let i = content-in P a b kind (Others n) f in
    (content_in a b kind (Others n), content-can P a b kind (Others n) h f, i, live-count b n (content_in a b kind (Others n)) i.0)

-- numbers in the range of a queue, and one out of it
module _ (k : Known) (value : Operand) (e : Option ℕ) where
  abbrev sent : ℤ × ℤ
  sent = operand_in (joint_range k) value

  queue-stays : (kind : Kind) (v : ℤ) → SendsIn k (Try (QueueSend value) e) kind → Within sent v → IsOutOfQueue kind v → ⊥
  queue-stays (Queue size lo hi) v s w out =
      ⊎_elim (λ lt. omega (arith, ints, s.0, w.0, lt)) (λ lt. omega (arith, ints, s.1, w.1, lt)) out
  queue-stays kind v s w out = absurd out

  queue-leaves : (kind : Kind) → sent.0 ≤ℤ sent.1 → SendsOutBy k (Try (QueueSend value) e) kind → (v : ℤ) × Within sent v × IsOutOfQueue kind v
  queue-leaves (Queue size lo hi) order out =
      ⊎_elim (λ lt. (sent.0, (omega (arith, ints), order), inl lt)) (λ lt. (sent.1, (order, omega (arith, ints)), inr lt)) out
  queue-leaves kind order out = absurd out

-- the operands of an instruction are variables of the application, and apart
set-named : (P : Program) (x : VarId) (l r : Operand) (op : Operator) → NamesThings P (Set x l op r) → IsNamed P l × IsNamed P r
set-named P x (Number y) (Number z) op h = (tt, tt)
set-named P x (Number y) (Variable z) op h = (tt, h.0 1 z (omega arith))
set-named P x (Variable y) (Number z) op h = (h.0 1 y (omega arith), tt)
set-named P x (Variable y) (Variable z) op h = (h.0 1 y (omega arith), h.0 2 z (omega arith))

constant-apart : (l r : Operand) → IsConstant l ⊎ IsConstant r → AreApart l r
constant-apart (Number y) r h = tt
constant-apart (Variable y) (Number z) h = tt
constant-apart (Variable y) (Variable z) h = ⊎_elim (λ k. absurd k) (λ k. absurd k) h

set-apart : (x : VarId) (l r : Operand) (op : Operator) → OperandsFit (Set x l op r) → AreApart l r
set-apart x l r Plus h = h
set-apart x l r Minus h = h
set-apart x l r Times h = constant-apart l r h

decide : (P : Program) (p : Point) (n : Alternative) (rule : Rule) (t : Bool) → (t ≡ true → BreaksRuleBy P p n rule) → (t ≡ false → KeepsRuleBy P p n rule) → Decides P p n rule t
decide P p n rule true breaks keeps = breaks refl
decide P p n rule false breaks keeps = keeps refl

module _ (P : Program) (p : Point) (i : Instr) (n : Alternative) (free : IsFaultless P) (point : IsPoint P p) (is : instr_of P p ≡ Some i) (fits : AlternativeFits P n) where
  abbrev s : Site
  s = record { app = P; known = alone n; p = p; q = p; faultless = free; point = point; fits = record { mover = fits; other = tt }; there = tt }

  here : (S : State) → NotedBy P p n S → IsKnown s S
  here S noted = record { mover = noted; other = tt }

  in-here : (S : State) → NotedBy P p n S → (o : ℕ) → IsIn p.actor.0 (other s) (holding (alone n) o) (content_of S o)
  in-here S noted o = contents-in s S (here S noted) o

  keeps-here : (rule : Rule) → (IsTrue (is_own i rule) → (S : State) → NotedBy P p n S → Breaches P S p.actor.0 p.side i rule → ⊥) → KeepsRuleBy P p n rule
  keeps-here rule none = λ j e own S noted b.
      let same : j ≡ i = same_Some _ _ (sym e ∙ is) in
      none (subst (λ k. IsTrue (is_own k rule)) same own) S noted (breach-here P p i n S rule is noted b)

  breaks-drawn : (rule : Rule) → IsTrue (is_own i rule) → (f : Choice) → IsChosen s f → Breaches P (drawn s f) p.actor.0 p.side i rule → BreaksRuleBy P p n rule
  breaks-drawn rule own f chosen b =
      let noted = (drawn-known s f chosen).mover in
      record {
        instr = i;
        is = is;
        own = own;
        state = drawn s f;
        noted = noted;
        breach = record { side = p.side; instr = i; stands = record { pc = p.pc; at = noted.at; is = is }; breaches = b };
      }

  usual-noted : NotedBy P p n (drawn s (usual s))
  usual-noted = (drawn-known s (usual s) (usual-chosen s)).mover

  -- the condition of the actor in a state with the alternative
  as-condition : (S : State) → NotedBy P p n S → condition_of P S p.actor.0 ≡ condition_known P (alone n) p
  as-condition S noted =
      let t = is_interrupt (actor_at P p.actor.0).kind in
      ap (λ d. record { interrupt = t; critical = d; suspended = suspension_of S p.actor.0; holds = holds_some S p.actor.0 }) noted.holds.critical ∙ ap (λ d. record { interrupt = t; critical = n.critical; suspended = d; holds = holds_some S p.actor.0 }) noted.holds.suspended ∙ ap (λ d. record { interrupt = t; critical = n.critical; suspended = n.suspended; holds = d }) (holds-known s S (here S noted))

  abbrev forbidden : Rule → Bool
  forbidden = forbids P (condition_known P (alone n) p) i

  as-forbidden : (S : State) (rule : Rule) → NotedBy P p n S → IsForbidden P S p.actor.0 Before i rule → IsTrue (forbidden rule)
  as-forbidden S rule noted h = subst (λ k. IsTrue (forbids P k i rule)) (as-condition S noted) h

  from-forbidden : (S : State) (rule : Rule) → NotedBy P p n S → IsTrue (forbidden rule) → IsForbidden P S p.actor.0 Before i rule
  from-forbidden S rule noted h = subst (λ k. IsTrue (forbids P k i rule)) (sym (as-condition S noted)) h

  forbidden-here : p.side ≡ Before → (S : State) (rule : Rule) → NotedBy P p n S → IsDecided rule → Breaches P S p.actor.0 p.side i rule → IsTrue (forbidden rule)
  forbidden-here at S rule noted d b =
      as-forbidden S rule noted ((decided-rule P S p.actor.0 Before i rule d).1.0 (subst (λ t. Breaches P S p.actor.0 t i rule) at b))

  -- what the condition decides
  pub decided-before : p.side ≡ Before → (least : Option Rule) → first_forbidden P (condition_known P (alone n) p) i ≡ least → RuleOutcome P p n IsDecided least
  decided-before at least e = outcome least (subst (λ l. FirstOf forbidden decided_rules l) e (find-first forbidden decided_rules decided-sorted))
    where
      outcome : (least : Option Rule) → FirstOf forbidden decided_rules least → RuleOutcome P p n IsDecided least
      outcome None none = λ rule d. keeps-here rule (λ own S noted b. none rule (among-decided rule d) (forbidden-here at S rule noted d b))
      outcome (Some rule) (m, t, least) =
          let S = drawn s (usual s) in
          let h = decided-rule P S p.actor.0 Before i rule (decided-among rule m) in (
            breaks-drawn rule h.0 (usual s) (usual-chosen s) (subst (λ t. Breaches P S p.actor.0 t i rule) (sym at) (h.1.1 (from-forbidden S rule usual-noted t))),
            λ other k lt. keeps-here other (λ own S noted b. least other (among-decided other k) lt (forbidden-here at S other noted k b)),
          )

  pub decided-inside : p.side ≡ Inside → RuleOutcome P p n IsDecided None
  decided-inside at = λ rule d. keeps-here rule (λ own S noted b.
      (decided-rule P S p.actor.0 Inside i rule d).1.0 (subst (λ t. Breaches P S p.actor.0 t i rule) at b))

  -- rule 3
  given-kept : (j : Instr) → gives_unheld P (alone n) j ≡ false → (S : State) → NotedBy P p n S → GivesUnheld P S p.actor.0 j → ⊥
  given-kept (Calls (On call)) f S noted b =
      gives-held P S p.actor.0 (other s) call (holding (alone n) call.object.0) f (in-here S noted call.object.0) b
  given-kept j f S noted b = absurd b

  given-broken : (j : Instr) → gives_unheld P (alone n) j ≡ true → GivesUnheld P (drawn s (usual s)) p.actor.0 j
  given-broken (Calls (On call)) t =
      unheld-gives P (drawn s (usual s)) p.actor.0 (other s) (apart s) call (holding (alone n) call.object.0) t (in-here (drawn s (usual s)) usual-noted call.object.0)
  given-broken j t = absurd (false≢true t)

  pub given-decides : Decides P p n GivenByHolder (gives_unheld P (alone n) i)
  given-decides = decide P p n GivenByHolder (gives_unheld P (alone n) i) (λ t. breaks-drawn GivenByHolder refl (usual s) (usual-chosen s) (given-broken i t)) (λ f. keeps-here GivenByHolder (λ own S noted b. given-kept i f S noted b))

  -- rule 7
  dead-drawn : (o : ℕ) → can_be_dead (holding (alone n) o) ≡ true → content_of (drawn s (usual s)) o ≡ Dead
  dead-drawn o t =
      listed-case (length P.objects) (usual s).content o Dead (λ c. c ≡ Dead) (λ l. dead-in p.actor.0 (other s) (kind_of P o) (holding (alone n) o) t) (λ l. refl)

  uses-broken : (u : Option ℕ) → used_object i p.side ≡ u → dead_by (alone n) u ≡ true → BreaksRuleBy P p n IsLive
  uses-broken None e t = absurd (false≢true t)
  uses-broken (Some o) e t = breaks-drawn IsLive refl (usual s) (usual-chosen s) (o, e, dead-drawn o t)

  uses-kept : (u : Option ℕ) → used_object i p.side ≡ u → dead_by (alone n) u ≡ false → KeepsRuleBy P p n IsLive
  uses-kept None e f = keeps-here IsLive (λ own S noted b. let g = sym e ∙ b.1 in cc)
  uses-kept (Some o) e f = keeps-here IsLive (λ own S noted b.
      let same : b.0 ≡ o = same_Some _ _ (sym b.1 ∙ e) in
      never-dead p.actor.0 (other s) (content_of S o) (holding (alone n) o) f (in-here S noted o) (subst (λ j. content_of S j ≡ Dead) same b.2))

  pub uses-decides : Decides P p n IsLive (uses_dead (alone n) i p.side)
  uses-decides = decide P p n IsLive (uses_dead (alone n) i p.side) (λ t. uses-broken (used_object i p.side) refl t) (λ f. uses-kept (used_object i p.side) refl f)

  -- rule 8
  life-kept : (j : Instr) (side : Side) → creates_live (alone n) j side ≡ false → IsTrue (is_own j LifeInOrder) → (S : State) → NotedBy P p n S → LifeOutOfOrder P S p.actor.0 j side → ⊥
  life-kept (Calls (Create kind o e)) Before f own S noted b =
      b (never-live p.actor.0 (other s) (content_of S o.0) (holding (alone n) o.0) f (in-here S noted o.0))
  life-kept (Calls (Delete kind o)) Before f own S noted b = absurd (false≢true own)
  life-kept j side f own S noted b = absurd b

  life-broken : (j : Instr) (side : Side) → creates_live (alone n) j side ≡ true → i ≡ j → p.side ≡ side → BreaksRuleBy P p n LifeInOrder
  life-broken (Calls (Create kind o e)) Before t same at =
      let k = live-in P p.actor.0 (other s) (kind_of P o.0) (holding (alone n) o.0) ((is-built P free).sizes o.0) (known-fits s o.0) t in
      let f = filled o.0 k.0 (usual s) in
      let chosen = filled-chosen s (usual s) (usual-chosen s) o.0 k.0 k.1 k.2 in
      let named = subst (λ j. NamesThings P j) same (free.names.things p.actor.0 p.pc i is) in
      let content : content_of (drawn s f) o.0 ≡ k.0 = drawn-content s f o.0 named.1 ∙ instead-same o.0 k.0 (usual s).content in
      breaks-drawn LifeInOrder (subst (λ j. IsTrue (is_own j LifeInOrder)) (sym same) refl) f chosen (subst (λ j. LifeOutOfOrder P (drawn s f) p.actor.0 j p.side) (sym same) (subst (λ t. LifeOutOfOrder P (drawn s f) p.actor.0 (Calls (Create kind o e)) t) (sym at) (λ dead. k.3 (sym content ∙ dead))))
  life-broken j side t same at = absurd (false≢true t)

  pub creates-decides : Decides P p n LifeInOrder (creates_live (alone n) i p.side)
  creates-decides = decide P p n LifeInOrder (creates_live (alone n) i p.side) (λ t. life-broken i p.side t refl refl) (λ f. keeps-here LifeInOrder (λ own S noted b. life-kept i p.side f own S noted b))

  -- rule 12
  not-sent-out : (o : ℕ) (act : Act) → SendsIn (alone n) act (kind_of P o) → (S : State) → NotedBy P p n S → SendsOut P S o act → ⊥
  not-sent-out o (Try (QueueSend value) e) sends S noted b =
      queue-stays (alone n) value e (kind_of P o) (operand_of S value) sends (can-be-known s value S (here S noted)) b
  not-sent-out o act sends S noted b = absurd b

  no-out : (side : Side) (j : Instr) → StaysIn P (alone n) side j → (S : State) → NotedBy P p n S → PutsOut P S side j → ⊥
  no-out Before (Set x l op r) stays S noted b =
      let k = stays (operand_of S l) (operand_of S r) (can-be-known s l S (here S noted)) (can-be-known s r S (here S noted)) in
      ⊎_elim (λ lt. omega (arith, ints, k.0, lt)) (λ lt. omega (arith, ints, k.1, lt)) b
  no-out Inside (Calls (On call)) stays S noted b = not-sent-out call.object.0 call.act stays S noted b
  no-out side j stays S noted b = absurd b

  pub stays-kept : StaysIn P (alone n) p.side i → KeepsRuleBy P p n InRange
  stays-kept stays = keeps-here InRange (λ own S noted b. no-out p.side i stays S noted b)

  operand-order : (o : Operand) → (operand_in (joint_range (alone n)) o).0 ≤ℤ (operand_in (joint_range (alone n)) o).1
  operand-order (Number z) = omega (arith, ints)
  operand-order (Variable x) = fits.order x.0

  shown-set : (x : VarId) (l : Operand) (op : Operator) (r : Operand) → i ≡ Set x l op r → p.side ≡ Before → (u v : ℤ) → CanBeIn (joint_range (alone n)) l u → CanBeIn (joint_range (alone n)) r v → IsOutside (variable_at P x.0).lo (variable_at P x.0).hi (result_of op u v) → BreaksRuleBy P p n InRange
  shown-set x l op r e at u v can_u can_v out =
      let g = chosen_for r v (usual s) in
      let f = chosen_for l u g in
      let chosen = for-chosen s l u g can_u (for-chosen s r v (usual s) can_v (usual-chosen s)) in
      let named = set-named P x l r op (subst (λ j. NamesThings P j) e (free.names.things p.actor.0 p.pc i is)) in
      let apart_lr = set-apart x l r op (subst (λ j. OperandsFit j) e (free.operands p.actor.0 p.pc i is)) in
      let S = drawn s f in
      let left : operand_of S l ≡ u = number-drawn s l f named.0 ∙ first-number s l u g can_u in
      let right : operand_of S r ≡ v = number-drawn s r f named.1 ∙ second-number s l r u v (usual s) apart_lr can_v in
      let puts : PutsOut P S Before (Set x l op r) = rw (left, right) out in
      breaks-drawn InRange refl f chosen (subst (λ t. PutsOut P S t i) (sym at) (subst (λ j. PutsOut P S Before j) (sym e) puts))

  shown-send : (o : ObjId) (timing : Timing) (act : Act) → i ≡ Calls (On (record { object = o; timing = timing; act = act })) → p.side ≡ Inside → SendsOutBy (alone n) act (kind_of P o.0) → BreaksRuleBy P p n InRange
  shown-send o timing (Try (QueueSend value) to) e at h =
      let k = queue-leaves (alone n) value to (kind_of P o.0) (operand-order value) h in
      let f = chosen_for value k.0 (usual s) in
      let chosen = for-chosen s value k.0 (usual s) k.1 (usual-chosen s) in
      let S = drawn s f in
      let is_k : operand_of S value ≡ k.0 = number-drawn s value f (sent-named value (subst (λ j. NamesThings P j) e (free.names.things p.actor.0 p.pc i is))) ∙ first-number s value k.0 (usual s) k.1 in
      let puts : PutsOut P S Inside (Calls (On (record { object = o; timing = timing; act = Try (QueueSend value) to }))) = subst (λ z. IsOutOfQueue (kind_of P o.0) z) (sym is_k) k.2 in
      breaks-drawn InRange refl f chosen (subst (λ t. PutsOut P S t i) (sym at) (subst (λ j. PutsOut P S Inside j) (sym e) puts))
    where
      sent-named : (value : Operand) → NamesThings P (Calls (On (record { object = o; timing = timing; act = Try (QueueSend value) to }))) → IsNamed P value
      sent-named (Number z) h = tt
      sent-named (Variable x) h = h.0 0 x (omega arith)
  shown-send o timing act e at h = absurd h

  out-broken : (side : Side) (j : Instr) → p.side ≡ side → i ≡ j → IsOutBy P (alone n) side j → BreaksRuleBy P p n InRange
  out-broken Before (Set x l op r) at e h = shown-set x l op r e at h.0 h.1 h.2 h.3 h.4
  out-broken Inside (Calls (On call)) at e h = shown-send call.object call.timing call.act e at h
  out-broken side j at e h = absurd h

  pub out-breaks : IsOutBy P (alone n) p.side i → BreaksRuleBy P p n InRange
  out-breaks h = out-broken p.side i refl refl h

  -- all of the rules that no condition decides
  kept-each : (C : Rule → Type 0) → (C GivenByHolder → KeepsRuleBy P p n GivenByHolder) → (C IsLive → KeepsRuleBy P p n IsLive) → (C LifeInOrder → KeepsRuleBy P p n LifeInOrder) → (C InRange → KeepsRuleBy P p n InRange) → (other : Rule) → IsUndecided other → C other → KeepsRuleBy P p n other
  kept-each C given live life range OneWriter d c = keeps-here OneWriter (λ own S noted b. absurd (false≢true own))
  kept-each C given live life range OneReader d c = keeps-here OneReader (λ own S noted b. absurd (false≢true own))
  kept-each C given live life range GivenByHolder d c = given c
  kept-each C given live life range IsLive d c = live c
  kept-each C given live life range LifeInOrder d c = life c
  kept-each C given live life range InRange d c = range c
  kept-each C given live life range other d c = absurd (false≢true (sym d))

  module _ (given : gives_unheld P (alone n) i ≡ false) where
    keeps-given : KeepsRuleBy P p n GivenByHolder
    keeps-given = subst (λ t. Decides P p n GivenByHolder t) given given-decides

    pub uses-first : uses_dead (alone n) i p.side ≡ true → RuleOutcome P p n IsUndecided (Some IsLive)
    uses-first t = (subst (λ b. Decides P p n IsLive b) t uses-decides, λ other d lt. kept-each (λ r. number_of r < 7) (λ l. keeps-given) (λ l. absurd (omega (arith, l))) (λ l. absurd (omega (arith, l))) (λ l. absurd (omega (arith, l))) other d lt)

    module _ (uses : uses_dead (alone n) i p.side ≡ false) where
      keeps-live : KeepsRuleBy P p n IsLive
      keeps-live = subst (λ t. Decides P p n IsLive t) uses uses-decides

      pub creates-first : creates_live (alone n) i p.side ≡ true → RuleOutcome P p n IsUndecided (Some LifeInOrder)
      creates-first t = (subst (λ b. Decides P p n LifeInOrder b) t creates-decides, λ other d lt. kept-each (λ r. number_of r < 8) (λ l. keeps-given) (λ l. keeps-live) (λ l. absurd (omega (arith, l))) (λ l. absurd (omega (arith, l))) other d lt)

      module _ (creates : creates_live (alone n) i p.side ≡ false) where
        keeps-life : KeepsRuleBy P p n LifeInOrder
        keeps-life = subst (λ t. Decides P p n LifeInOrder t) creates creates-decides

        pub out-first : IsOutBy P (alone n) p.side i → RuleOutcome P p n IsUndecided (Some InRange)
        out-first out = (out-breaks out, λ other d lt. kept-each (λ r. number_of r < 12) (λ l. keeps-given) (λ l. keeps-live) (λ l. keeps-life) (λ l. absurd (omega (arith, l))) other d lt)

        pub none-broken : StaysIn P (alone n) p.side i → RuleOutcome P p n IsUndecided None
        none-broken stays = λ other d. kept-each (λ r. Unit {0}) (λ l. keeps-given) (λ l. keeps-live) (λ l. keeps-life) (λ l. stays-kept stays) other d tt

  pub given-first : gives_unheld P (alone n) i ≡ true → RuleOutcome P p n IsUndecided (Some GivenByHolder)
  given-first t = (subst (λ b. Decides P p n GivenByHolder b) t given-decides, λ other d lt. kept-each (λ r. number_of r < 3) (λ l. absurd (omega (arith, l))) (λ l. absurd (omega (arith, l))) (λ l. absurd (omega (arith, l))) (λ l. absurd (omega (arith, l))) other d lt)

-- the least of the rules that the condition decides, and the least of the others
module _ (P : Program) (p : Point) (n : Alternative) where
  either : (rule : Rule) → (IsDecided rule → KeepsRuleBy P p n rule) → (IsUndecided rule → KeepsRuleBy P p n rule) → KeepsRuleBy P p n rule
  either rule decided undecided = go (is_decided rule) refl
    where
      go : (t : Bool) → is_decided rule ≡ t → KeepsRuleBy P p n rule
      go true e = decided e
      go false e = undecided e

  pub both-outcomes : (one other : Option Rule) → RuleOutcome P p n IsDecided one → RuleOutcome P p n IsUndecided other → RuleOutcome P p n AnyRule (lesser_of one other)
  both-outcomes None None a b = λ rule any. either rule (a rule) (b rule)
  both-outcomes None (Some j) a b = (b.0, λ o any lt. either o (a o) (λ k. b.1 o k lt))
  both-outcomes (Some i) None a b = (a.0, λ o any lt. either o (λ k. a.1 o k lt) (b o))
  both-outcomes (Some i) (Some j) a b = go (nat_le (number_of i) (number_of j)) refl
    where
      go : (t : Bool) → nat_le (number_of i) (number_of j) ≡ t → RuleOutcome P p n AnyRule (if t then Some i else Some j)
      go true e =
          let le = leb-true (number_of i) (number_of j) e in
          (a.0, λ o any lt. either o (λ k. a.1 o k lt) (λ k. b.1 o k (omega (arith, le, lt))))
      go false e =
          let gt = leb-false (number_of i) (number_of j) e in
          (b.0, λ o any lt. either o (λ k. a.1 o k (omega (arith, gt, lt))) (λ k. b.1 o k lt))

-- every range lies in a declared one, whose ends have 64 bits
pub has-numbers : (P : Program) (n : Alternative) → IsFaultless P → AlternativeFits P n → HasNumbersIn (joint_range (alone n))
has-numbers P n free fits x = ⊎_elim (λ l. inside l) (λ l. past l) (cases_lt x (length P.variables))
  where
    inside : x < length P.variables → IsNumber (range_of n x).0 × IsNumber (range_of n x).1
    inside l =
        let v = free.limits.variables x no_variable l in
        let f = fits.ranges.1 x in
        let o = fits.order x in
        let lo = v.lo in
        let hi = v.hi in (omega (arith, ints), omega (arith, ints))

    past : length P.variables ≤ x → IsNumber (range_of n x).0 × IsNumber (range_of n x).1
    past l = subst (λ r. IsNumber r.0 × IsNumber r.1) (sym (get_or_past n.ranges x (pos 0, pos 0) (omega (arith, fits.ranges.0)))) (omega (arith, ints), omega (arith, ints))

-- What a witness shows of a part refutes it: a step that it shows is one that the part speaks of, and for whatever
-- alternative the part promises, one of the steps undoes it.
use Rattle.std.proofs.Common.{◌≡◌, ◌<◌, ℕ, List, [], ◌∷◌, length, get_or, Option, None, Some, false, refl, sym, ap, subst, ◌∙◌, arith, All, ⊎_elim}
use Rattle.std.specs.Prelude.{ℤ, pos, IsTrue, Contains}
use Rattle.std.proofs.lemmas.Bool.{cases_lt}
use Rattle.std.proofs.lemmas.Int.{ints}
use Rattle.std.proofs.lemmas.List.{get_or_past, get_or-set_same}
use Rattle.fr_program.specs.declared.ids.ActorId.{ActorId}
use Rattle.fr_program.specs.declared.ids.Point.{Point}
use Rattle.fr_program.specs.declared.ids.Side.{Side}
use Rattle.fr_program.specs.declared.ids.Side.TheVariants.{Before, Inside}
use Rattle.fr_program.specs.declared.ids.VarId.{VarId}
use Rattle.fr_program.specs.declared.instr.Instr.{Instr}
use Rattle.fr_program.specs.declared.instr.Instr.TheVariants.{Set}
use Rattle.fr_program.specs.declared.instr.Operand.{Operand}
use Rattle.fr_program.specs.declared.instr.Operator.{Operator}
use Rattle.fr_program.specs.Program.{Program}
use Rattle.fr_program.specs.Lookup.{instr_at, variable_at}
use Rattle.fr_program.specs.Points.{point_number}
use Rattle.fr_program.specs.declared.instr.End.{End}
use Rattle.fr_program.specs.Fault.{IsFaultless}
use Rattle.fr_rules.specs.State.{State, Place, At, Done, IsWellFormed, place_of, value_of, write, goes_to}
use Rattle.fr_rules.specs.declared.rules.Rule.{Rule}
use Rattle.fr_rules.specs.declared.rules.Rule.TheVariants.{OneWriter, OneReader, GivenByHolder, IsLive, LifeInOrder, InRange}
use Rattle.fr_rules.specs.Rule.{Breaches, PutsOut, IsOutside, operand_of, result_of}
use Rattle.fr_rules.specs.declared.way.Way.{Way}
use Rattle.fr_rules.specs.declared.way.Way.TheVariants.{Then}
use Rattle.fr_rules.specs.Step.{StepBy, IsFree, CanStep, AlwaysLeaves, Anywhere, landing, stops}
use Rattle.fr_notes.specs.Note.{Alternative, Note, HoldsOne, Holds, Within, range_of}
use Rattle.fr_notes.specs.Noted.{note_at, IsAt, Noted, NotedBy}
use Rattle.fr_notes.specs.Fits.{AlternativeFits, NoteFits}
use Rattle.fr_ends.specs.Certificate.{Certificate}
use Rattle.fr_ends.specs.Fits.{CertificateFits}
use Rattle.fr_judge.specs.Part.{EntryPart, RulePart, GoesPart, GuardPart, NearPart, SpoiledPart, IsKept}
use Rattle.fr_judge.specs.Owed.{IsOwed}
use Rattle.fr_witness.specs.declared.evidence.Witness.TheVariants.{Start, Breaks, Leaves, Unguarded, Both}
use Rattle.fr_witness.specs.Shown.{Taken, IsTaken, Undoes, UndoesNote}
use Rattle.fr_witness.specs.Witness.{ShowsGoes, ShowsSpoiled, ShowsOutOfRange, ShowsGuard}
use Rattle.fr_witness.specs.Refutes.{ShownIsNotKept}

-- a step of this actor, from such a state, by this row, to such a state
abbrev IsStep : Program → ActorId → (State → Type 0) → Way → (State → Type 0) → Taken → Type 0
IsStep P mover From way To t = (t.actor ≡ mover) × From t.before × IsTaken P way t × To t.after

-- some alternative is left for the actor by each such step
abbrev LeavesOne : Program → ℕ → ActorId → (State → Type 0) → Way → (State → Type 0) → Note → Type 0
LeavesOne P a mover From way To note =
    (m : Alternative) × Contains note m × AlwaysLeaves P From mover.0 way (λ S'. To S' → HoldsOne m a S')

module _ (P : Program) (a : ℕ) (mover : ActorId) (From : State → Type 0) (way : Way) (To : State → Type 0) where
  by-mover : (t : Taken) → IsStep P mover From way To t → StepBy P way t.before mover.0 t.choice t.after
  by-mover t (same, from, taken, to) = subst (λ m. StepBy P way t.before m.0 t.choice t.after) same taken.step

  can : (steps : List Taken) → (steps ≡ [] → ⊥) → All (IsStep P mover From way To) steps → CanStep P From mover.0 way To
  can [] some made = absurd (some refl)
  can (t ∷ ts) some made = let m : IsStep P mover From way To t = made 0 t (omega arith) in (t.before, t.choice, t.after, m.1, by-mover t m, m.3)

  undone-by : (note : Note) (steps : List Taken) → All (IsStep P mover From way To) steps → UndoesNote a note steps → (CanStep P From mover.0 way To → LeavesOne P a mover From way To note) → ⊥
  undone-by note steps made (some, undone) kept = left (kept (can steps some made))
    where
      refuted : (m : Alternative) → AlwaysLeaves P From mover.0 way (λ S'. To S' → HoldsOne m a S') → (t : Taken) → IsStep P mover From way To t → Undoes a m t → ⊥
      refuted m always t step undoes = undoes (always t.before t.choice t.after step.1 (by-mover t step) step.3)

      left : LeavesOne P a mover From way To note → ⊥
      left (m, (k, b, is), always) =
          let any = undone k m b in
          let t = any.1 in
          let step : IsStep P mover From way To t = subst (IsStep P mover From way To) any.3 (made any.0 t any.2) in
          let undoes : Undoes a m t = subst (λ n. Undoes a n t) is any.4 in
          refuted m always t step undoes

goes : (P : Program) (C : Certificate) (p t : Point) (steps : List Taken) → IsOwed P p (GoesPart t) → ShowsGoes P C p t steps → IsKept P C p (GoesPart t) → ⊥
goes P C p t steps (there, own) (n, way, said, made, undone) kept =
    undone-by P p.actor.0 p.actor (NotedBy P p n) way (λ S'. IsAt S' t) (note_at P C.notes t) steps made undone (kept there own n said way)

-- before a `set` alone is rule 12 breached before an instruction
puts-out : (P : Program) (S : State) (side : Side) (i : Instr) → side ≡ Before → PutsOut P S side i →
    (x : VarId) × (l r : Operand) × (op : Operator) × (i ≡ Set x l op r)
    × IsOutside (variable_at P x.0).lo (variable_at P x.0).hi (result_of op (operand_of S l) (operand_of S r))
puts-out P S Inside i e out = let no : Inside ≡ Before = e in cc
puts-out P S Before (Set x l op r) e out = (x, l, r, op, refl, out)
puts-out P S Before i e out = absurd out

-- an actor before a `set` breaches no rule that would stop it
set-free : (P : Program) (S : State) (a : ℕ) (x : VarId) (l r : Operand) (op : Operator) → IsFree P S a Before (Set x l op r)
set-free P S a x l r op = (rules, tt)
  where
    rules : (rule : Rule) → IsTrue (stops rule) → Breaches P S a Before (Set x l op r) rule → ⊥
    rules OneWriter s b = cc
    rules OneReader s b = cc
    rules GivenByHolder s b = b
    rules IsLive s b = let no : None ≡ Some b.0 = b.1 in cc
    rules LifeInOrder s b = cc
    rules InRange s b = cc
    rules rule s b = let no : IsTrue false = b in cc

fits-at : (P : Program) (notes : List Note) (k : ℕ) → All (NoteFits P) notes → NoteFits P (get_or notes k [])
fits-at P notes k fit =
    ⊎_elim (λ l. fit k [] l) (λ past. subst (NoteFits P) (sym (get_or_past notes k [] past)) (omega arith, λ j d b. absurd (omega arith))) (cases_lt k (length notes))

abbrev side_in : Place → Side
side_in (At pc side) = side
side_in Done = Before

module _ (P : Program) (C : Certificate) (p q : Point) (S : State) (free : IsFaultless P) (fits : CertificateFits P C) where
  -- the range of an alternative has no number that is out of the declared range
  past-range : (k : Alternative) (x : ℕ) (v w : ℤ) → Contains (note_at P C.notes p) k → IsOutside (variable_at P x).lo (variable_at P x).hi v → w ≡ v → Within (range_of k x) w → ⊥
  past-range k x v w (j, b, is) out same within =
      let fit : AlternativeFits P k = subst (AlternativeFits P) is ((fits-at P C.notes (point_number P p) fits.0.1).1 j k b) in
      let declared = fit.ranges.1 x in
      let has : Within (range_of k x) v = subst (Within (range_of k x)) same within in
      ⊎_elim (λ low. omega (arith, ints, low, has.0, declared.0)) (λ high. omega (arith, ints, high, has.1, declared.1)) out

  module _ (pc : ℕ) (x : VarId) (l r : Operand) (op : Operator) (at : place_of S q.actor.0 ≡ At pc Before) (is : instr_at P q.actor.0 pc ≡ Some (Set x l op r)) where
    abbrev put : ℤ
    put = result_of op (operand_of S l) (operand_of S r)

    abbrev after : State
    after = goes_to q.actor.0 (landing pc Before (Set x l op r) Then) (write x.0 put S)

    set-step : StepBy P Then S q.actor.0 (pos 0) after
    set-step = record {
      pc = pc;
      side = Before;
      instr = Set x l op r;
      at = at;
      is = is;
      free = set-free P S q.actor.0 x l r op;
      mid = write x.0 put S;
      row = (refl, refl);
      moved = refl;
    }

    has-put : IsWellFormed P S → value_of after x.0 ≡ put
    has-put formed =
        let named : x.0 < length P.variables = (free.names.things q.actor.0 pc (Set x l op r) is).0 0 x (omega arith) in
        let long = formed.variables in
        get_or-set_same S.values x.0 put (pos 0) (omega (arith, long, named))

    undisturbed-not : IsOwed P p (SpoiledPart q) → Noted P C.notes p S → Noted P C.notes q S → IsOutside (variable_at P x.0).lo (variable_at P x.0).hi put → IsKept P C p (SpoiledPart q) → ⊥
    undisturbed-not (there, apart) noted other out kept =
        let n = noted.holds.0 in
        let m = other.holds.0 in
        let one : NotedBy P p n S = record { formed = noted.formed; at = noted.at; holds = noted.holds.2 } in
        let two : NotedBy P q m S = record { formed = other.formed; at = other.at; holds = other.holds.2 } in
        let left = kept there apart n m noted.holds.1 other.holds.1 Then (S, pos 0, after, (one, two), set-step, tt) in
        past-range left.0 x.0 put (value_of after x.0) left.1 out (has-put noted.formed) ((left.2 S (pos 0) after (one, two) set-step).variables x.0)

  out-of-range : IsOwed P p (SpoiledPart q) → ShowsOutOfRange P C p q S → IsKept P C p (SpoiledPart q) → ⊥
  out-of-range owed (before, noted, other, breach) kept =
      let here : At breach.stands.pc breach.side ≡ At q.pc q.side = sym breach.stands.at ∙ other.at in
      let side : breach.side ≡ Before = ap side_in here ∙ before in
      let (x, l, r, op, same, out) = puts-out P S breach.side breach.instr side breach.breaches in
      let at : place_of S q.actor.0 ≡ At breach.stands.pc Before = subst (λ s. place_of S q.actor.0 ≡ At breach.stands.pc s) side breach.stands.at in
      let is : instr_at P q.actor.0 breach.stands.pc ≡ Some (Set x l op r) = breach.stands.is ∙ ap (λ i. Some i) same in
      undisturbed-not breach.stands.pc x l r op at is owed noted other out kept

spoiled : (P : Program) (C : Certificate) (p q : Point) (steps : List Taken) → IsOwed P p (SpoiledPart q) → ShowsSpoiled P C p q steps → IsKept P C p (SpoiledPart q) → ⊥
spoiled P C p q steps (there, apart) (n, m, way, said, told, made, undone) kept =
    undone-by P p.actor.0 q.actor (λ S. NotedBy P p n S × NotedBy P q m S) way Anywhere (note_at P C.notes p) steps
    (λ k d b. let s = made k d b in (s.0, (s.1, s.2), s.3, tt)) undone
    (λ can. let left = kept there apart n m said told way can in (left.0, left.1, λ S c S' from step to. left.2 S c S' from step))

guard : (P : Program) (C : Certificate) (p : Point) (b : ℕ) (end : End) (S : Option State) → IsOwed P p (GuardPart b end) → ShowsGuard P C p b end S → IsKept P C p (GuardPart b end) → ⊥
guard P C p b end None (call, inside, at) none kept =
    let g = kept call inside at in let no : None ≡ Some g.0 = sym none ∙ g.1 in cc
guard P C p b end (Some S) (call, inside, at) (noted, lacks) kept =
    let g = kept call inside at in lacks g.0 g.1 (g.2 S noted)

pub shown-not-kept : ShownIsNotKept
shown-not-kept P C free fits p EntryPart (Start S) owed shows kept =
    shows.1 (subst (λ T. Holds (note_at P C.notes p) p.actor.0 T) (sym shows.0) (kept owed.0 owed.1))
shown-not-kept P C free fits p (RulePart rule) (Breaks S) owed shows kept = kept owed.0 owed.1 owed.2 S shows.0 shows.1
shown-not-kept P C free fits p (GoesPart t) (Leaves steps) owed shows kept = goes P C p t steps.items owed shows kept
shown-not-kept P C free fits p (GuardPart b end) (Unguarded S) owed shows kept = guard P C p b end S owed shows kept
shown-not-kept P C free fits p (NearPart q) (Both S) (there, apart, near) shows kept =
    kept there apart near.0 near.1 near.2 near.3 S shows.0 shows.1
shown-not-kept P C free fits p (SpoiledPart q) (Leaves steps) owed shows kept = spoiled P C p q steps.items owed shows kept
shown-not-kept P C free fits p (SpoiledPart q) (Breaks S) owed shows kept = out-of-range P C p q S free fits owed shows kept
shown-not-kept P C free fits p part w owed shows kept = shows

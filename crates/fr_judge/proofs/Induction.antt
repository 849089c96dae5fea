-- Every state of every run keeps the notes of all actors at once: the entries give the start, the mover's landing its
-- own new note, and undisturbed notes those of all others. Such a state has no breach: none of the rules 1 and 2 by the
-- guards, none of rule 8's deletes by what is near, none of the others by the points' own rules.
use Rattle.std.proofs.Common.{◌≡◌, ◌≢◌, ℕ, zero, suc, ◌<◌, List, [], ◌∷◌, length, get_or, Some, refl, sym, ap, ◌∙◌, subst, ⊎_elim, arith}
use Rattle.std.specs.Prelude.{ℤ, IsTrue, Contains}
use Rattle.fr_judge.proofs.Terms.{same_Some, eqb_tells, Instr, Calls, Create, Delete, ObjectCall, ActorId, Point, Side, Before, Inside, Program, no_actor, IsPoint, State, At, Done, Exists, start, End}
use Rattle.fr_judge.proofs.Terms.{Writer, Reader, Rule, OneWriter, OneReader, LifeInOrder, InRange, Breach, SharesEnd, LifeOutOfOrder, Stands, is_at_end, IsInside, Step, Follows, IsRun, HoldsOne}
use Rattle.fr_judge.proofs.Terms.{Holds, note_at, IsAt, Noted, NotedBy, is_own, Guard, Certificate, HasGuard, guard_for, called_inside, deleted_before, EntryPart, RulePart, GoesPart, GuardPart}
use Rattle.fr_judge.proofs.Terms.{NearPart, SpoiledPart, KeepsNotes, Certified, StartKeepsNotes, StepKeepsNotes, NotesExcludeBreaches, IsSound}
use Rattle.fr_rules.proofs.Built.{is-built}
use Rattle.fr_rules.proofs.Formed.{map_case, start-formed, step-formed}
use Rattle.fr_judge.proofs.Turns.{guard-alone, distinct-listed}

abbrev point : ℕ → ℕ → Side → Point
point a pc side = record { actor = record { 0 = a }; pc = pc; side = side }

module _ (P : Program) (C : Certificate) (certified : Certified P C) where
  is_point : (S : State) (p : Point) → KeepsNotes P C S → IsAt S p → IsPoint P p
  is_point S p keeps e = subst (λ q. Exists P p.actor.0 q) e (keeps.formed.places p.actor.0)

  noted : (S : State) (p : Point) → KeepsNotes P C S → IsAt S p → Noted P C.notes p S
  noted S p keeps e = record { formed = keeps.formed; at = e; holds = keeps.notes p e }

  start-at : (p : Point) → IsAt (start P) p → (p.pc ≡ 0) × (p.side ≡ Before)
  start-at p e =
      map_case (λ _. At 0 Before) P.actors p.actor.0 no_actor Done (λ q. q ≡ At p.pc p.side → (p.pc ≡ 0) × (p.side ≡ Before)) (λ l h. (cc, cc)) (λ h. cc) e

  start-keeps : KeepsNotes P C (start P)
  start-keeps =
      let w = start-formed P (is-built P certified.faultless) in
      record {
        formed = w;
        notes = λ p e.
            let at = start-at p e in
            certified.kept p (subst (λ q. Exists P p.actor.0 q) e (w.places p.actor.0)) EntryPart at.0 at.1;
      }

  step-keeps : (S : State) (a : ℕ) (c : ℤ) (S' : State) → KeepsNotes P C S → Step P S a c S' → KeepsNotes P C S'
  step-keeps S a c S' keeps (way, t) =
      let p0 = point a t.pc t.side in
      let n0 = keeps.notes p0 t.at in
      let by0 : NotedBy P p0 n0.0 S = record { formed = keeps.formed; at = t.at; holds = n0.2 } in
      let in_range : Breach P S InRange a → ⊥ =
      certified.kept p0 (is_point S p0 keeps t.at) (RulePart InRange) t.instr t.is refl S (noted S p0 keeps t.at) in
      let moved = step-formed P way S a c S' (is-built P certified.faultless) keeps.formed in_range t in
      let other : (p : Point) → IsAt S' p → p.actor.0 ≢ a → Holds (note_at P C.notes p) p.actor.0 S' = λ p e ne.
      let was : IsAt S p = sym (moved.others p.actor.0 ne) ∙ e in
      let n = keeps.notes p was in
      let by : NotedBy P p n.0 S = record { formed = keeps.formed; at = was; holds = n.2 } in
      let k = certified.kept p (is_point S p keeps was) (SpoiledPart p0) (is_point S p0 keeps t.at) (λ q. ne (sym (ap (λ i. i.0) q))) n.0 n0.0 n.1 n0.1 way (S, c, S', (by, by0), t, tt) in
      (k.0, k.1, k.2 S c S' (by, by0) t) in
      let mover : (p : Point) → IsAt S' p → p.actor.0 ≡ a → Holds (note_at P C.notes p) p.actor.0 S' = λ p e q.
      let m = certified.kept p0 (is_point S p0 keeps t.at) (GoesPart p) (subst (λ s. Exists P p.actor.0 s) e (moved.formed.places p.actor.0)) (same_actor p a q) n0.0 n0.1 way (S, c, S', by0, t, e) in
      (m.0, m.1, subst (λ b. HoldsOne m.0 b S') (sym q) (m.2 S c S' by0 t e)) in
      record {
        formed = moved.formed;
        notes = λ p e. ⊎_elim (λ h. mover p e h.1) (λ h. other p e h.1) (eqb_tells p.actor.0 a);
      }
    where
      same_actor : (p : Point) (a : ℕ) → p.actor.0 ≡ a → p.actor ≡ record { 0 = a }
      same_actor p a q = let f : ℕ → ActorId = λ n. record { 0 = n } in ap f q

  -- the end's guard holds of an actor inside a call there
  guarded : (S : State) (a o : ℕ) (end : End) (call : ObjectCall) → KeepsNotes P C S → IsInside P S a o call → IsTrue (is_at_end end call.act) → (g : Guard) × (guard_for C.ends o end ≡ Some g) × HasGuard g a S
  guarded S a o end call keeps (same, stands) at =
      let p = point a stands.pc Inside in
      let g = certified.kept p (is_point S p keeps stands.at) (GuardPart o end) call (same, ap (λ i. called_inside Inside i) stands.is) at in
      (g.0, g.1, g.2 S (noted S p keeps stands.at))

  no-sharing : (S : State) (a : ℕ) (end : End) → KeepsNotes P C S → SharesEnd P S a end → ⊥
  no-sharing S a end keeps (o, one, two, b, ne, ia, ib, ea, eb) =
      let g = guarded S a o end one keeps ia ea in
      let h = guarded S b o end two keeps ib eb in
      let same = same_Some _ _ (sym h.1 ∙ g.1) in
      ne (sym (guard-alone g.0 S a b (distinct-listed C.ends o end g.0 certified.turns g.1) g.2 (subst (λ k. HasGuard k b S) same h.2)))

  no-own : (S : State) (rule : Rule) (a : ℕ) → KeepsNotes P C S → (breach : Breach P S rule a) → IsTrue (is_own breach.instr rule) → ⊥
  no-own S rule a keeps breach own =
      let p = point a breach.stands.pc breach.side in
      certified.kept p (is_point S p keeps breach.stands.at) (RulePart rule) breach.instr breach.stands.is own S (noted S p keeps breach.stands.at) breach

  no-life : (S : State) (a : ℕ) (i : Instr) (side : Side) → KeepsNotes P C S → Stands P S a side i → LifeOutOfOrder P S a i side → ⊥
  no-life S a (Calls (Delete kind o)) Before keeps stands (b, ne, call, (same, inside)) =
      let p = point b inside.pc Inside in
      let q = point a stands.pc Before in
      let at_q = is_point S q keeps stands.at in
      certified.kept p (is_point S p keeps inside.at) (NearPart q) at_q (λ e. ne (sym (ap (λ i. i.0) e))) o.0 call (same, ap (λ i. called_inside Inside i) inside.is)
      (o, refl, ap (λ i. deleted_before Before i) stands.is) S (noted S p keeps inside.at) (noted S q keeps stands.at)
  no-life S a (Calls (Create kind o e)) Before keeps stands h =
      no-own S LifeInOrder a keeps (record { side = Before; instr = Calls (Create kind o e); stands = stands; breaches = h }) refl
  no-life S a i side keeps stands h = elim h [ ]

  no-breach : (S : State) → KeepsNotes P C S → (rule : Rule) (a : ℕ) → Breach P S rule a → ⊥
  no-breach S keeps OneWriter a breach = no-sharing S a Writer keeps breach.breaches
  no-breach S keeps OneReader a breach = no-sharing S a Reader keeps breach.breaches
  no-breach S keeps LifeInOrder a breach = no-life S a breach.instr breach.side keeps breach.stands breach.breaches
  no-breach S keeps rule a breach = no-own S _ a keeps breach refl

  run-keeps : (S : State) (rest : List State) → KeepsNotes P C S → Follows P S rest → (k : ℕ) (d : State) → k < length (S ∷ rest) → KeepsNotes P C (get_or (S ∷ rest) k d)
  run-keeps S rest keeps f zero d l = keeps
  run-keeps S [] keeps f (suc k) d l = absurd (omega arith)
  run-keeps S (T ∷ rest) keeps f (suc k) d l =
      let step = f.0 in run-keeps T rest (step-keeps S step.0 step.1 T keeps step.2) f.1 k d (omega arith)

  each-keeps : (run : List State) → IsRun P run → (S : State) → Contains run S → KeepsNotes P C S
  each-keeps [] h S k = elim h [ ]
  each-keeps (T ∷ rest) h S k =
      let first = subst (λ U. KeepsNotes P C U) (sym h.0) start-keeps in
      subst (λ U. KeepsNotes P C U) k.2 (run-keeps T rest first h.1 k.0 S k.1)

pub the-start-keeps : StartKeepsNotes
the-start-keeps P C certified = start-keeps P C certified

pub a-step-keeps : StepKeepsNotes
a-step-keeps P C certified S a c S' keeps t = step-keeps P C certified S a c S' keeps t

pub no-breaches : NotesExcludeBreaches
no-breaches P C certified S keeps rule a breach = no-breach P C certified S keeps rule a breach

pub certified-safe : IsSound
certified-safe P C certified =
    (λ run h S k rule a. no-breach P C certified S (each-keeps P C certified run h S k) rule a, each-keeps P C certified)

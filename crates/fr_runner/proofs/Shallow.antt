-- Where a note of a certificate that fits holds of an actor, the actor's depths and counts of mutexes are at most 255.
use Rattle.std.proofs.Common.{◌≤◌, ℕ, List, [], length, get_or, refl, sym, subst, arith, ⊎_elim}
use Rattle.std.specs.Prelude.{ℤ, All, Contains}
use Rattle.std.proofs.lemmas.List.{get_or_past}
use Rattle.std.proofs.lemmas.List.Elements.{All-contains}
use Rattle.std.proofs.lemmas.Bool.{cases_lt, eq-eqb}
use Rattle.fr_program.specs.declared.parts.Kind.{Kind}
use Rattle.fr_program.specs.declared.parts.Kind.TheVariants.{Mutex, Recursive}
use Rattle.fr_program.specs.declared.ids.Point.{Point}
use Rattle.fr_program.specs.Program.{Program}
use Rattle.fr_program.specs.Points.{point_number}
use Rattle.fr_rules.specs.State.{State, Content, Held, count_held, kind_of, content_of}
use Rattle.fr_rules.specs.Choices.{CanChoose, IsShallow}
use Rattle.fr_program.specs.declared.ids.ActorId.{ActorId}
use Rattle.fr_notes.specs.declared.claim.Claim.{Claim}
use Rattle.fr_notes.specs.declared.claim.Claim.TheVariants.{NotHeld, Alive, Gone, HeldTimes}
use Rattle.fr_notes.specs.Note.{Alternative, Note, Meets, claim_of}
use Rattle.fr_notes.specs.Noted.{IsAt}
use Rattle.fr_notes.specs.Fits.{CanClaim, AlternativeFits, NoteFits}
use Rattle.fr_ends.specs.Certificate.{Certificate}
use Rattle.fr_ends.specs.Fits.{CertificateFits}
use Rattle.fr_judge.specs.Sound.{KeepsNotes}

claimed : (kind : Kind) (count : ℕ) → CanClaim kind (HeldTimes count) → count ≤ 255
claimed Mutex count h = omega arith
claimed Recursive count h = h.1
claimed kind count h = elim h [ ]

own_count : (a count : ℕ) → count_held a (Held a count) ≤ count
own_count a count = let e = eq-eqb a a refl in rw e (omega arith)

held-small : (a : ℕ) (kind : Kind) (claim : Claim) (content : Content) → CanClaim kind claim → Meets a claim content → count_held a content ≤ 255
held-small a kind NotHeld content fits h = omega (arith, h)
held-small a kind Alive content fits h = omega (arith, h.1)
held-small a kind Gone content fits h = subst (λ c. count_held a c ≤ 255) (sym h) (omega arith)
held-small a kind (HeldTimes count) content fits h =
    let most = claimed kind count fits in
    let own = own_count a count in
    subst (λ c. count_held a c ≤ 255) (sym h) (omega arith)

alternative-fits : (P : Program) (notes : List Note) (k : ℕ) (n : Alternative) → All (λ note. NoteFits P note) notes → Contains (get_or notes k []) n → AlternativeFits P n
alternative-fits P notes k n fits has =
    ⊎_elim (λ l. All-contains (AlternativeFits P) (get_or notes k []) n (fits k [] l).1 has)
    (λ past. let none : Contains [] n = subst (λ note. Contains note n) (get_or_past notes k [] past) has in absurd (omega (arith, none.1)))
    (cases_lt k (length notes))

pub shallow : (P : Program) (C : Certificate) (S : State) (p : Point) → CertificateFits P C → KeepsNotes P C S → IsAt S p → IsShallow S p.actor.0
shallow P C S p fits keeps at =
    let h = keeps.notes p at in
    let n = h.0 in
    let holds = h.2 in
    let small = alternative-fits P C.notes (point_number P p) n fits.0.1 h.1 in
    record {
      critical = omega (arith, holds.critical, small.critical);
      suspended = omega (arith, holds.suspended, small.suspended);
      counts = λ o. held-small p.actor.0 (kind_of P o) (claim_of n o) (content_of S o) (small.claims.1 o) (holds.objects o);
    }

-- the same of an actor that has a step
pub shallow-stepper : (P : Program) (C : Certificate) (S : State) (a : ActorId) (c : ℤ) → CertificateFits P C → KeepsNotes P C S → CanChoose P S a.0 c → IsShallow S a.0
shallow-stepper P C S a c fits keeps (T, (way, t)) = shallow P C S (record { actor = a; pc = t.pc; side = t.side }) fits keeps t.at

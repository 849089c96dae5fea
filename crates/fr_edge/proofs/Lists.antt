-- The first alternatives of a note, one more at a time.
use Rattle.std.proofs.Common.{◌≡◌, ℕ, ◌+◌, ◌<◌, length, get_or, Option, Some, None, refl, sym, ap, subst, arith, Bool, true, false}
use Rattle.fr_edge.proofs.Terms.{leb-true, leb-false, Point, Program, Rule, number_of, AlternativeFits, Alternative, Note, KeepsRuleBy, RuleOutcome, AnyRule, IsAmong, NoteOutcome, lesser_of}
use Rattle.std.specs.Prelude.{All, Contains, nat_le, if◌then◌else◌}
use Rattle.fr_notes.proofs.AlternativesLemmas.{among-case}

pub among-more : (note : Note) (k : ℕ) (n : Alternative) → IsAmong note k n → IsAmong note (k + 1) n
among-more note k n m = (m.0, (let lt = m.1 in omega arith), m.2)

module _ (P : Program) (p : Point) (note : Note) (k : ℕ) (x : Alternative) (l : k < length note) (is : x ≡ get_or note k x) where
  keeps-more : (rule : Rule) → ((n : Alternative) → IsAmong note k n → KeepsRuleBy P p n rule) → KeepsRuleBy P p x rule → (n : Alternative) → IsAmong note (k + 1) n → KeepsRuleBy P p n rule
  keeps-more rule before now n m =
      among-case (KeepsRuleBy P p n rule) note k x n l is m (λ old. before n old) (λ e. subst (λ q. KeepsRuleBy P p q rule) e now)

  now-least : (j : Rule) → RuleOutcome P p x AnyRule (Some j) → ((other : Rule) → number_of other < number_of j → (n : Alternative) → IsAmong note k n → KeepsRuleBy P p n other) → NoteOutcome P p note (k + 1) (Some j)
  now-least j now before =
      ((x, (k, omega arith, sym is), now.0), λ other lt n m. keeps-more other (before other lt) (now.1 other tt lt) n m)

  still-least : (j : Rule) → NoteOutcome P p note k (Some j) → ((other : Rule) → number_of other < number_of j → KeepsRuleBy P p x other) → NoteOutcome P p note (k + 1) (Some j)
  still-least j before now =
      ((before.0.0, among-more note k before.0.0 before.0.1, before.0.2), λ other lt n m. keeps-more other (before.1 other lt) (now other lt) n m)

  pub note-step : (least now : Option Rule) → NoteOutcome P p note k least → RuleOutcome P p x AnyRule now → NoteOutcome P p note (k + 1) (lesser_of least now)
  note-step None None before now = λ n m rule. keeps-more rule (λ q o. before q o rule) (now rule tt) n m
  note-step None (Some j) before now = now-least j now (λ other lt n m. before n m other)
  note-step (Some i) None before now = still-least i before (λ other lt. now other tt)
  note-step (Some i) (Some j) before now = go (nat_le (number_of i) (number_of j)) refl
    where
      go : (b : Bool) → nat_le (number_of i) (number_of j) ≡ b → NoteOutcome P p note (k + 1) (if b then Some i else Some j)
      go true e = let le = leb-true (number_of i) (number_of j) e in still-least i before (λ other less. now.1 other tt (omega (arith, le, less)))
      go false e = let lt = leb-false (number_of i) (number_of j) e in now-least j now (λ other less n m. before.1 other (omega (arith, lt, less)) n m)

-- an alternative that the code meets in a note fits
pub item-fits : (P : Program) (items note : Note) (k : ℕ) (x : Alternative) → items ≡ note → k < length items → x ≡ get_or items k x → All (λ n. AlternativeFits P n) note → AlternativeFits P x
item-fits P items note k x same l is all =
    subst (λ n. AlternativeFits P n) (sym is) (subst (λ xs. AlternativeFits P (get_or xs k x)) (sym same) (all k x (omega (arith, ap length same))))

pub contained : (note : Note) (n : Alternative) (Q : Alternative → Type 0) → Contains note n → All Q note → Q n
contained note n Q m all = subst Q m.2 (all m.0 n m.1)

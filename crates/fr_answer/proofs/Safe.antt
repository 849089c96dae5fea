-- The exit status 0 is that of safe applications, and where it is asked of ones that are never deadlocked.
use Rattle.std.proofs.Common.{◌≡◌, ◌≤◌, inl, inr, ℕ, List, [], ◌∷◌, All, Bool, Option, None, Some, Result, Ok, Err, IfOk, refl, sym, subst, arith, map, ◌∙◌}
use Rattle.fr_answer.proofs.Terms.{All-head, All-tail, Program, TellsYes, TellsNo, TellsVerdict, Entry, beside, Format, Reading, What, Judged, Searched, Refused, kind_of_judged, kind_of_finding}
use Rattle.fr_answer.proofs.Terms.{what_status, IsAnsweredFor, IsProofOf, IsSettledIn, IsSearchOf, IsVerdictOn, AreAnswered, AreEachSafe, AreLinesPrinted, AreNamedSafe, IsAnswerBy, IsCheckAnswered}
use Rattle.fr_answer.proofs.Terms.{IsCheckOf, IsLineAnswer, IsProofAt, IsSafeAt, IsSearchAt, IsShown, LineAnswer, greater_status}
use Rattle.std.specs.Prelude.{fold, true, false, IfSome, IsSome, IsTrue}
use Rattle.fr_rules.specs.Run.{IsSafe}
use Rattle.fr_waits.specs.Waits.{HasNoDeadlock}
use Rattle.fr_ends.specs.Certificate.{Certificate, AllHaveDistinctTurns}
use Rattle.fr_ends.specs.Fits.{EndFits}
use Rattle.fr_reader.specs.Meaning.{Means as AppMeans}
use Rattle.fr_cert.specs.Keys.{names_in}
use Rattle.fr_cert.specs.Meaning.{IsEnd, Means as CertMeans}
use Rattle.fr_cert.specs.Shapes.{IsObject}
use Rattle.fr_cert.proofs.EntryLemmas.{each_both}
use Rattle.fr_judge.specs.declared.part.Verdict.{Verdict}
use Rattle.fr_judge.specs.Sound.{Certified}
use Rattle.fr_judge.proofs.Induction.{certified-safe}
use Rattle.fr_judge.proofs.Points.{yes-certified}
use Rattle.fr_judge.proofs.Telling.{fitting-distinct}
use Rattle.fr_order.specs.declared.order.Order.{Order}
use Rattle.fr_order.specs.declared.order.Order.TheVariants.{Upwards, Cycle}
use Rattle.fr_order.specs.Order.{IsOrderOf}
use Rattle.fr_order.proofs.DeadlockLaw.{order-excludes}
use Rattle.fr_found.specs.declared.finding.Finding.{Finding}
use Rattle.fr_found.specs.declared.finding.Finding.TheVariants.{Breach as FoundBreach, Deadlock as FoundDeadlock, Safe, Free, Unknown}
use Rattle.fr_found.specs.Refutes.{IsFound, Suits}
use Rattle.fr_formats.specs.Answers.{status_of as kind_status}
use Rattle.fr_request.specs.declared.request.CheckedFiles.{CheckedFiles as Named}
use Rattle.fr_request.specs.declared.request.CheckedFiles.TheVariants.{One, Listed}
use Rattle.fr_outcome.specs.Checked.{IsFreeText, IsSafeText}
use Rattle.fr_outcome.specs.Judged.{JudgedOf}

-- the status 0 is that of a yes
pub zero-yes : (v : Verdict) (waits : Option Order) → kind_status (kind_of_judged v waits) ≡ 0 → v ≡ TellsYes
zero-yes TellsYes waits e = refl
zero-yes (TellsNo p part) waits e = absurd (omega (arith, e))

-- an application and a certificate that bytes mean are certified by a yes
meant-distinct : (P : Program) (bytes : List ℕ) (C : Certificate) → CertMeans P bytes C → AllHaveDistinctTurns C.ends
meant-distinct P bytes C h =
    let ends = h.means.2.ends in
    fitting-distinct P C.ends (each_both (IsObject (IsEnd (names_in P))) (EndFits P) ends.2.0 C.ends ends.2.2.0).1

meant-certified : (a c : List ℕ) (P : Program) (C : Certificate) → AppMeans a P → CertMeans P c C → TellsVerdict P C TellsYes → Certified P C
meant-certified a c P C h k told = record { faultless = h.faultless; turns = meant-distinct P c C k; kept = yes-certified P C told }

-- it is that of an order of the mutexes, where there is an answer
zero-free : (P : Program) (C : Certificate) (v : Verdict) (waits : Option Order) → Certified P C → IfSome waits (IsOrderOf P C) → IsSome waits
    → kind_status (kind_of_judged v waits) ≡ 0 → HasNoDeadlock P
zero-free P C (TellsNo p part) waits certified order some e = absurd (omega (arith, e))
zero-free P C TellsYes None certified order some e = let no : ⊥ = cc in absurd no
zero-free P C TellsYes (Some (Upwards mutexes)) certified order some e = order-excludes certified-safe P C certified mutexes.items order
zero-free P C TellsYes (Some (Cycle edges)) certified order some e = absurd (omega (arith, e))

-- so is the status 0 of what was found that of a safe application, which is never deadlocked where that is asked
pub zero-safe : (P : Program) (found : Finding) → IsFound P found → kind_status (kind_of_finding found) ≡ 0 → IsSafe P
zero-safe P (FoundBreach r) is e = absurd (omega (arith, e))
zero-safe P (FoundDeadlock d) is e = absurd (omega (arith, e))
zero-safe P (Safe states) is e = is
zero-safe P (Free states) is e = is.0
zero-safe P (Unknown states left) is e = absurd (omega (arith, e))

zero-never : (P : Program) (found : Finding) → IsFound P found → Suits true found → kind_status (kind_of_finding found) ≡ 0 → HasNoDeadlock P
zero-never P (FoundBreach r) is suits e = absurd (omega (arith, e))
zero-never P (FoundDeadlock d) is suits e = absurd (omega (arith, e))
zero-never P (Safe states) is suits e = let no : ⊥ = cc in absurd no
zero-never P (Free states) is suits e = is.1
zero-never P (Unknown states left) is suits e = absurd (omega (arith, e))

-- what an answer with that status says of the application that bytes mean
abbrev pub IsGood : Bool → List ℕ → Type 0
IsGood asks a = IsSafeText a × (IsTrue asks → IsFreeText a)

-- a verdict, a proof and a search with that status
judged-free : (asks : Bool) (a c : List ℕ) (j : JudgedOf) → IsVerdictOn asks a c (Judged j) → Certified j.app j.certificate → j.verdict ≡ TellsYes
    → what_status (Judged j) ≡ 0 → IsTrue asks → IsFreeText a
judged-free true a c j h certified is e t = (j.app, h.0, zero-free j.app j.certificate j.verdict j.waits certified h.3 (subst (λ v. IsAnsweredFor true v j.waits) is h.4) e)
judged-free false a c j h certified is e t = let no : ⊥ = cc in absurd no

pub verdict-safe : (asks : Bool) (a c : List ℕ) (what : What) → IsVerdictOn asks a c what → what_status what ≡ 0 → IsGood asks a
verdict-safe asks a c (Judged j) h e =
    let is = zero-yes j.verdict j.waits e in
    let yes = subst (λ v. TellsVerdict j.app j.certificate v) is h.2 in
    let certified = meant-certified a c j.app j.certificate h.0 h.1 yes in
    ((j.app, h.0, (certified-safe j.app j.certificate certified).0), judged-free asks a c j h certified is e)
verdict-safe asks a c (Searched s) h e = absurd h
verdict-safe asks a c (Refused r) h e = absurd h

found-free : (asks : Bool) (a : List ℕ) (P : Program) (found : Finding) → AppMeans a P → IsFound P found → Suits asks found → kind_status (kind_of_finding found) ≡ 0
    → IsTrue asks → IsFreeText a
found-free true a P found means is suits e t = (P, means, zero-never P found is suits e)
found-free false a P found means is suits e t = let no : ⊥ = cc in absurd no

pub search-safe : (asks : Bool) (a : List ℕ) (what : What) → IsSearchOf asks a what → what_status what ≡ 0 → IsGood asks a
search-safe asks a (Judged j) h e = absurd h
search-safe asks a (Searched s) h e = ((s.app, h.0, zero-safe s.app s.found h.1 e), found-free asks a s.app s.found h.0 h.1 h.2 e)
search-safe asks a (Refused r) h e = absurd h

-- what settles the matter was found
pub settled-found : (asks : Bool) (a : List ℕ) (what : What) → IsSettledIn asks a what → IsSearchOf asks a what
settled-found asks a (Judged j) h = absurd h
settled-found asks a (Searched s) h = (h.0, h.1, h.2)
settled-found asks a (Refused r) h = absurd h

pub proof-safe : (asks : Bool) (a : List ℕ) (searches : Bool) (c : List ℕ) (what : What) → IsProofOf asks a searches c what → what_status what ≡ 0 → IsGood asks a
proof-safe asks a searches c what (inl h) e = verdict-safe asks a c what h e
proof-safe asks a searches c what (inr h) e = search-safe asks a what (settled-found asks a what h.4) e

-- what holds of an answer with the status 0 holds of what is answered so
pub safe-by : {Y : Type 0} (A : ℕ → Type 0) (B : Type 0) (r : Result ℕ Y) → IfOk r A → ((s : ℕ) → s ≡ 0 → A s → B) → IfOk r (λ s. s ≡ 0 → B)
safe-by A B (Ok s) h f = λ e. f s e h
safe-by A B (Err y) h f = tt

module _ (reads : Reading → List ℕ → List ℕ → Type 0) (asks : Bool) where
  -- the same of files
  pub check-safe : (app certificate : List ℕ) (what : What) → IsCheckOf reads asks app certificate what → what_status what ≡ 0 → IsSafeAt reads asks app
  check-safe app certificate what h e = let good = verdict-safe asks h.0 h.1 what h.4 e in (h.0, h.2, good.0, good.1)

  pub proof-at-safe : (app : List ℕ) (searches : Bool) (c : List ℕ) (what : What) → IsProofAt reads asks app searches c what → what_status what ≡ 0 → IsSafeAt reads asks app
  proof-at-safe app searches c what h e = let good = proof-safe asks h.0 searches c what h.2 e in (h.0, h.1, good.0, good.1)

  pub search-at-safe : (app : List ℕ) (what : What) → IsSearchAt reads asks app what → what_status what ≡ 0 → IsSafeAt reads asks app
  search-at-safe app what h e = let good = search-safe asks h.0 what h.2 e in (h.0, h.1, good.0, good.1)

  -- the same of lines of a list
  answer-by-safe : (list app : List ℕ) (certificate : Option (List ℕ)) (what : What) → IsAnswerBy reads asks list app certificate what → what_status what ≡ 0 → IsSafeAt reads asks app
  answer-by-safe list app (Some path) what h e = check-safe app (beside list path) what h e
  answer-by-safe list app None what h e = proof-at-safe app _ h.0 what h.1 e

  line-safe : (list : List ℕ) (line : LineAnswer) → IsLineAnswer reads asks list line → what_status line.what ≡ 0 → IsSafeAt reads asks (beside list line.entry.application)
  line-safe list line h e =
      let le : what_status line.what ≤ 1 = omega (arith, e) in
      answer-by-safe list (beside list line.entry.application) line.entry.certificate line.what (h.by le) e

  -- so it is of lines of which the greatest exit status is 0
  from-start : (start : ℕ) (lines : List LineAnswer) → start ≤ fold greater_status start lines
  from-start start [] = omega arith
  from-start start (line ∷ lines) = let rest = from-start (greater_status start line) lines in omega (arith, rest)

  lines-safe : (list : List ℕ) (start : ℕ) (lines : List LineAnswer) → All (IsLineAnswer reads asks list) lines → fold greater_status start lines ≡ 0
      → AreEachSafe reads asks list (map (λ line. line.entry) lines)
  lines-safe list start [] h e = tt
  lines-safe list start (line ∷ lines) h e =
      let least = from-start (greater_status start line) lines in
      let zero : what_status line.what ≡ 0 = omega (arith, e, least) in
      (line-safe list line (All-head (IsLineAnswer reads asks list) line lines h) zero, lines-safe list (greater_status start line) lines (All-tail (IsLineAnswer reads asks list) line lines h) e)

  answered-safe : (list : List ℕ) (entries : List Entry) (s : ℕ) (Is : List LineAnswer → Type 0) → s ≡ 0 → AreAnswered reads asks list entries s Is → AreEachSafe reads asks list entries
  answered-safe list entries s Is e h = subst (λ es. AreEachSafe reads asks list es) h.1 (lines-safe list 0 h.0 h.2 (sym h.3 ∙ e))

  -- the same of what a request asks for
  pub named-safe : (named : Named) (format : Option Format) (explains : Bool) (s : ℕ) (old new : Option (List ℕ)) → s ≡ 0 → IsCheckAnswered reads asks named format explains s old new
      → AreNamedSafe reads asks named
  named-safe (One app certificate) format explains s old new e h =
      let zero = sym h.2 ∙ e in
      check-safe app.now certificate.now h.0 (h.1 (omega (arith, zero))) zero
  named-safe (Listed list) format explains s old new e h =
      (h.0, h.1, h.2, h.3, answered-safe list.now h.2 s (λ lines. AreLinesPrinted format explains list.now lines old new) e h.4)

  pub proof-shown-safe : (app : List ℕ) (searches : Bool) (format : Option Format) (path : List ℕ) (s : ℕ) (old new : Option (List ℕ)) → s ≡ 0
      → IsShown (λ what. (certificate : List ℕ) × IsProofAt reads asks app searches certificate what) format path s old new → IsSafeAt reads asks app
  proof-shown-safe app searches format path s old new e h =
      let zero = sym h.2 ∙ e in
      let proof = h.1 (omega (arith, zero)) in
      proof-at-safe app searches proof.0 h.0 proof.1 zero

  pub search-shown-safe : (app : List ℕ) (format : Option Format) (path : List ℕ) (s : ℕ) (old new : Option (List ℕ)) → s ≡ 0 → IsShown (IsSearchAt reads asks app) format path s old new → IsSafeAt reads asks app
  search-shown-safe app format path s old new e h =
      let zero = sym h.2 ∙ e in
      search-at-safe app h.0 (h.1 (omega (arith, zero))) zero

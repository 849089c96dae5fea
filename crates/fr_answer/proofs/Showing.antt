-- What a command shows is what it found.
use Rattle.std.proofs.Common.{◌≡◌, ◌≤◌, ◌∙◌, ap, arith, inl, inr, ℕ, List, Bool, Option, None, Some, Result, Ok, Err, IfOk, IfErr, String, string_bytes, refl, sym, subst}
use Rattle.std.proofs.lemmas.Bool.{false≢true}
use Rattle.std.proofs.lemmas.Option.{same_Some}
use Rattle.std.specs.Prelude.{IsErr}
use Rattle.fr_answer.proofs.Terms.{Global, TellsVerdict, Yes, Program, beside, Format, Reading, What, Judged, Searched, Refused, HasFound, IsProofOf, IsSettledIn, IsVerdictOn, IsYes, what_status}
use Rattle.fr_answer.proofs.Terms.{IsAnswerBy, IsGiven, IsKept, IsLineAnswer, IsPaged, IsPrinted, IsProofAt, IsShown, PutsYes}
use Rattle.fr_text.specs.Texts.{IsJudged}
use Rattle.fr_outcome.specs.declared.answer.Answer.{Answer}
use Rattle.fr_outcome.specs.declared.answer.Refusal.{Refusal}
use Rattle.fr_printing.specs.Printing.{PutsPage}
use Rattle.fr_printing.proofs.Showing.{page-as, paged-as}

-- what holds of all that is found holds of what was
pub from-found : {X E : Type 0} (Is : What → Type 0) (found : Result (X × What) E) (what : What) → IfOk found (λ r. Is r.1) → HasFound found what → Is what
from-found Is (Ok r) what h is = subst Is (sym is) h
from-found Is (Err e) what h is = absurd is

-- what is printed in one form with one name is printed in another that is the same
printed-as : {named path : List ℕ} {shown format : Option Format} (what : What) (old new : Option (List ℕ)) → named ≡ path → shown ≡ format → IsPrinted shown named what old new → IsPrinted format path what old new
printed-as {path = path} {shown = shown} what old new is same s = subst (λ f. IsPrinted f path what old new) same (subst (λ p. IsPrinted shown p what old new) is s)

-- so it does of what is shown
pub shown-of : {X E Y : Type 0} (Is : What → Type 0) (found : Result (X × What) E) (shown format : Option Format) (named path : List ℕ) (old new : Option (List ℕ)) (r : Result ℕ Y) → named ≡ path → shown ≡ format → IfOk found (λ x. Is x.1)
    → IfOk r (λ status. IsShown (HasFound found) shown named status old new) → IfOk r (λ status. IsShown Is format path status old new)
shown-of Is found shown format named path old new (Ok status) is same h s = (s.0, (λ le. from-found Is found s.0 h (s.1 le)), s.2, printed-as s.0 old new is same s.3)
shown-of Is found shown format named path old new (Err e) is same h s = tt

-- so it does of an answer that is refused
pub shown-none : {Y : Type 0} (Is : What → Type 0) (shown format : Option Format) (named path : List ℕ) (old new : Option (List ℕ)) (r : Result ℕ Y) → named ≡ path → shown ≡ format
    → IfOk r (λ status. IsShown (λ _. ⊥) shown named status old new) → IfOk r (λ status. IsShown Is format path status old new)
shown-none Is shown format named path old new (Ok status) is same s = (s.0, (λ le. absurd (s.1 le)), s.2, printed-as s.0 old new is same s.3)
shown-none Is shown format named path old new (Err e) is same s = tt

-- the answer to a line is what was found
pub line-found : {X E Y : Type 0} (Is : What → Type 0) (found : Result (X × What) E) (r : Result Answer Y) → IfOk r (λ a. what_status a.what ≤ 1 → HasFound found a.what)
    → IfOk found (λ x. Is x.1) → IfOk r (λ a. what_status a.what ≤ 1 → Is a.what)
line-found Is found (Ok a) has h = λ le. from-found Is found a.what h (has le)
line-found Is found (Err e) has h = tt

-- files that are as they were
pub paged-same : {Z : Type 0} (puts : Z → List ℕ → List ℕ → Z → Type 0) (Is : What → Type 0) (path : Option (List ℕ)) (old new : Z) → new ≡ old → IsPaged puts Is path old new
paged-same puts Is path old new same = inl same

-- the page of an answer that is shown is that of what was found
pub paged-found : {X E Z : Type 0} (puts : Z → List ℕ → List ℕ → Z → Type 0) (Is : What → Type 0) (found : Result (X × What) E) (shown path : Option (List ℕ)) (old new : Z)
    → shown ≡ path → IfOk found (λ x. Is x.1) → IsPaged puts (HasFound found) shown old new → IsPaged puts Is path old new
paged-found puts Is found shown path old new same h paged =
    subst (λ p. IsPaged puts Is p old new) same (paged-as puts (HasFound found) Is shown old new (λ w le has. from-found Is found w h has) paged)

-- it was written where there is a verdict
pub page-found : {X E Y Z : Type 0} (puts : Z → List ℕ → List ℕ → Z → Type 0) (Is : What → Type 0) (found : Result (X × What) E) (shown path : Option (List ℕ)) (old new : Z)
    (r : Result ℕ Y) → shown ≡ path → IfOk found (λ x. Is x.1) → IfOk r (λ s. s ≤ 2 → PutsPage puts (HasFound found) s shown old new)
    → IfOk r (λ s. s ≤ 1 → PutsPage puts Is s path old new)
page-found puts Is found shown path old new (Ok s) same h written =
    λ le. subst (λ p. PutsPage puts Is s p old new) same (page-as puts (HasFound found) Is s shown old new (λ w low has. from-found Is found w h has) (written (omega (arith, le))))
page-found puts Is found shown path old new (Err e) same h written = tt

-- where there is none, nothing is promised
pub none-done : {Y : Type 0} (A : ℕ → Type 0) (r : Result ℕ Y) → IfOk r (λ s. 2 ≤ s) → IfOk r (λ s. s ≤ 1 → A s)
none-done A (Ok s) least = λ le. absurd (omega (arith, least, le))
none-done A (Err e) least = tt

module _ (reads : Reading → List ℕ → List ℕ → Type 0) (asks : Bool) where
  -- a line of a list
  pub line-by : {Y : Type 0} (list app : List ℕ) (certificate : Option (List ℕ)) (r : Result Answer Y) → IfOk r (λ a. what_status a.what ≤ 1 → IsAnswerBy reads asks list (beside list app) certificate a.what)
      → IfOk r (λ a. IsLineAnswer reads asks list (record { entry = record { application = app; certificate = certificate }; what = a.what }))
  line-by list app certificate (Ok a) h = record { by = h }
  line-by list app certificate (Err e) h = tt

  -- a certificate that is kept has a yes
  pub kept-yes : {Z : Type 0} (puts : Z → List ℕ → List ℕ → Z → Type 0) (app : List ℕ) (searches : Bool) (path : Option (List ℕ)) (what : What) (text : List ℕ) (old new : Z)
      → IsProofAt reads asks app searches text what → IsGiven puts path what text old new → IsKept reads puts app path old new
  kept-yes puts app searches None what text old new proof (inl same) = same
  kept-yes puts app searches None what text old new proof (inr given) = let no : ⊥ = (let e = given.1 in cc) in absurd no
  kept-yes puts app searches (Some path) what text old new proof (inl same) = inl same
  kept-yes puts app searches (Some path) what text old new proof (inr given) =
      let same : path ≡ given.0 = same_Some path given.0 given.1 in
      inr (proof.0, text, proof.1, yes proof.0 what proof.2 given.2, subst (λ p. puts old p text new) (sym same) given.3)
    where
      by-verdict : (a : List ℕ) (what : What) → IsVerdictOn asks a text what → IsYes what → (P : Program) × IsJudged a text P Yes
      by-verdict a (Judged j) h e = (j.app, (h.0, j.certificate, h.1, subst (λ v. TellsVerdict j.app j.certificate v) e h.2))
      by-verdict a (Searched s) h e = absurd h
      by-verdict a (Refused r) h e = absurd h

      settled : (a : List ℕ) (what : What) → IsSettledIn asks a what → IsYes what → ⊥
      settled a (Judged j) h e = h
      settled a (Searched s) h e = e
      settled a (Refused r) h e = h

      yes : (a : List ℕ) (what : What) → IsProofOf asks a searches text what → IsYes what → (P : Program) × IsJudged a text P Yes
      yes a what (inl h) e = by-verdict a what h e
      yes a what (inr h) e = absurd (settled a what h.4 e)

  pub kept-same : {Z : Type 0} (puts : Z → List ℕ → List ℕ → Z → Type 0) (app : List ℕ) (path : Option (List ℕ)) (old : Z) → IsKept reads puts app path old old
  kept-same puts app None old = refl
  kept-same puts app (Some p) old = inl refl

  pub kept-by : {Z V : Type 0} (puts : Z → List ℕ → List ℕ → Z → Type 0) (app : List ℕ) (searches : Bool) (path : Option (List ℕ)) (proof : Result (V × What × String Global) Refusal) (old new : Z)
      → IfOk proof (λ all. IsProofAt reads asks app searches (string_bytes all.2) all.1) → IfOk proof (λ all. IsGiven puts path all.1 (string_bytes all.2) old new)
      → IfErr proof (λ _. new ≡ old) → IsKept reads puts app path old new
  kept-by puts app searches path (Ok all) old new h given same = kept-yes puts app searches path all.1 (string_bytes all.2) old new h given
  kept-by puts app searches path (Err e) old new h given same = subst (λ z. IsKept reads puts app path old z) (sym same) (kept-same puts app path old)

  -- what is found of a proof is what was proved, with or without the certificate's text
  pub proof-found : {V : Type 0} (app : List ℕ) (searches : Bool) (proof : Result (V × What × String Global) Refusal) (found : Result (V × What) Refusal)
      → IfOk proof (λ all. IsProofAt reads asks app searches (string_bytes all.2) all.1) → IfOk found (λ r. IfOk proof (λ all. r.1 ≡ all.1)) → IfErr proof (λ refusal. IsErr found)
      → IfOk found (λ r. (certificate : List ℕ) × IsProofAt reads asks app searches certificate r.1)
  proof-found app searches (Ok all) (Ok r) h same none = (string_bytes all.2, subst (λ w. IsProofAt reads asks app searches (string_bytes all.2) w) (sym same) h)
  proof-found app searches (Err e) (Ok r) h same none = absurd (false≢true none)
  proof-found app searches proof (Err e) h same none = tt

  -- what is shown of a proof has the exit status of the answer, and the certificate and the page that were written are its own
  pub prove-done : {V Z : Type 0} (puts : Z → List ℕ → List ℕ → Z → Type 0) (app : List ℕ) (searches : Bool) (out shown path : Option (List ℕ)) (proof : Result (V × What × String Global) Refusal)
      (found : Result (V × What) Refusal) (format : Option Format) (named : List ℕ) (r : Result ℕ Refusal) (old mid new : Z) (before after : Option (List ℕ)) → shown ≡ path
      → IfOk proof (λ all. IsProofAt reads asks app searches (string_bytes all.2) all.1) → IfOk found (λ r. IfOk proof (λ all. r.1 ≡ all.1)) → IfErr proof (λ refusal. IsErr found)
      → IfOk found (λ _. IfOk proof (λ all. PutsYes puts out all.1 (string_bytes all.2) old mid)) → IfOk r (λ s. IsShown (HasFound found) format named s before after)
      → IfOk r (λ s. s ≤ 2 → PutsPage puts (HasFound found) s shown mid new)
      → IfOk r (λ s. s ≤ 1 → (what : What) × (certificate : List ℕ) × IsProofAt reads asks app searches certificate what × (s ≡ what_status what)
      × (between : Z) × PutsYes puts out what certificate old between × PutsPage puts (λ w. w ≡ what) s path between new)
  prove-done puts app searches out shown path (Ok all) (Ok f) format named (Ok s) old mid new before after is h same none given shows written = λ le. (
      let what = shows.0 in
      let found-is : what ≡ f.1 = shows.1 (subst (λ m. m ≤ 1) shows.2 le) in
      let page = page-as puts (λ w. w ≡ f.1) (λ w. w ≡ all.1) s shown mid new (λ w low has. has ∙ same) (written (omega (arith, le))) in
      (all.1, string_bytes all.2, h, shows.2 ∙ ap what_status (found-is ∙ same), mid, given, subst (λ p. PutsPage puts (λ w. w ≡ all.1) s p mid new) is page))
  prove-done puts app searches out shown path (Err e) (Ok f) format named (Ok s) old mid new before after is h same none given shows written = absurd (false≢true none)
  prove-done puts app searches out shown path proof (Err e) format named (Ok s) old mid new before after is h same none given shows written =
      λ le. absurd (shows.1 (subst (λ m. m ≤ 1) shows.2 le))
  prove-done puts app searches out shown path proof found format named (Err e) old mid new before after is h same none given shows written = tt

-- The answers to traces: to one alone, to one more, and what is written of them.
use Rattle.std.proofs.Common.{◌≡◌, ◌≤◌, ◌++◌, ◌∙◌, ℕ, List, [], ◌∷◌, Bool, true, false, Option, Some, None, Result, Ok, Err, IfNone, IfOk, IfSome, append-nil, ap, arith, inl, inr, length, map, max, refl, subst, sym}
use Rattle.std.proofs.lemmas.Bool.{false≢true}
use Rattle.fr_traces.proofs.Terms.{map-append, Appends-trans, kind_status, TraceAnswer, Each, Reading, AreTraces, AreTracesPrinted, IsAnswerAt, IsFollowDone, IsFollowWritten, IsReadAs}
use Rattle.fr_traces.proofs.Terms.{PutsAnswerOf, PutsSomeOf, ShowsTrace, TraceAnswerAt, answered_at, greater_of, is_several, text_at, each-more}
use Rattle.std.proofs.lemmas.List.Elements.{All-append, All-cons, All-nil}
use Rattle.std.proofs.lemmas.List.Folds.{concat-append}
use Rattle.std.proofs.lemmas.List.Sums.{fold-append}
use Rattle.std.specs.Io.KnownBytes.{Appends}
use Rattle.std.specs.List.{concat}
use Rattle.std.specs.Prelude.{if◌then◌else◌}
use Rattle.fr_program.specs.Program.{Program}
use Rattle.fr_formats.specs.declared.answer.AnswerKind.TheVariants.{Refused, Machine}
use Rattle.fr_formats.specs.declared.answer.AnswerShown.{AnswerShown}
use Rattle.fr_formats.specs.Reports.{IsReport}
use Rattle.fr_request.specs.declared.format.Format.{Format}
use Rattle.fr_request.specs.declared.request.FollowRequest.{FollowRequest}

-- the status of a refusal
pub refused-least : (b : Bool) → 2 ≤ kind_status (if b then Refused else Machine)
refused-least true = omega arith
refused-least false = omega arith

-- what holds where all went well holds of more
pub ok-map : {X Y : Type 0} (A B : Type 0) (r : Result X Y) → (A → B) → IfOk r (λ _. A) → IfOk r (λ _. B)
ok-map A B (Ok x) on h = on h
ok-map A B (Err y) on h = tt

pub max-none : (n : ℕ) → max 0 n ≡ n
max-none n = omega arith

-- one answer more is printed
pub printed-more : (app : List ℕ) (several : Bool) (old mid new : Option (List ℕ)) (t : TraceAnswerAt) (answers : List TraceAnswerAt) → AreTracesPrinted None app several old mid answers
    → Appends mid new (text_at several t) → AreTracesPrinted None app several old new (answers ++ t ∷ [])
printed-more app several old mid new t answers h now =
    let before = concat (map (text_at several) answers) in
    let whole : concat (map (text_at several) (answers ++ t ∷ [])) ≡ before ++ text_at several t =
    ap concat (map-append (text_at several) answers (t ∷ [])) ∙ concat-append (map (text_at several) answers) (text_at several t ∷ []) ∙ ap (λ x. before ++ x) (append-nil (text_at several t)) in
    subst (Appends old new) (sym whole) (Appends-trans old mid new before (text_at several t) h now)

-- the one answer is shown by a report
pub reported-of : {X Y : Type 0} (format : Format) (app : List ℕ) (old new : Option (List ℕ)) (t : TraceAnswerAt) (shown : AnswerShown) (all : List AnswerShown) (r : Result X Y) → all ≡ shown ∷ [] → ShowsTrace app t shown
    → IfOk r (λ _. (text : List ℕ) × IsReport format all text × Appends old new text) → IfOk r (λ _. AreTracesPrinted (Some format) app false old new (t ∷ []))
reported-of format app old new t shown all (Ok x) is shows h = (shown ∷ [], h.0, (shows, tt), subst (λ answers. IsReport format answers h.0) is h.1, h.2)
reported-of format app old new t shown all (Err y) is shows h = tt

module _ (reads : Reading → List ℕ → List ℕ → Type 0) (asked : FollowRequest) (P : Program) where
  -- what is said of an answer is said of the same one
  pub of-same : (path : List ℕ) (one other : TraceAnswer) → other ≡ one → IsAnswerAt reads asked P (answered_at path one) → IsAnswerAt reads asked P (answered_at path other)
  of-same path one other same h = subst (λ answer. IsAnswerAt reads asked P (answered_at path answer)) (sym same) h

  -- the answers to no traces
  pub none-yet : (Is : List TraceAnswerAt → Type 0) → Is [] → AreTraces reads asked P [] 0 Is
  none-yet Is own = ([], refl, All-nil (IsAnswerAt reads asked P), refl, own)

  -- the answer to one trace alone
  pub one-alone : (t : TraceAnswerAt) (Is : List TraceAnswerAt → Type 0) → IsAnswerAt reads asked P t → Is (t ∷ []) → AreTraces reads asked P (t.path ∷ []) (kind_status t.kind) Is
  one-alone t Is own has =
      (t ∷ [], refl, All-cons (IsAnswerAt reads asked P) t [] own (All-nil (IsAnswerAt reads asked P)), sym (max-none (kind_status t.kind)), has)

  -- the answer to one trace more
  pub one-more : (paths : List (List ℕ)) (status : ℕ) (t : TraceAnswerAt) (Was Is : List TraceAnswerAt → Type 0) → AreTraces reads asked P paths status Was
      → IsAnswerAt reads asked P t → ((answers : List TraceAnswerAt) → Was answers → Is (answers ++ t ∷ []))
      → AreTraces reads asked P (paths ++ t.path ∷ []) (max status (kind_status t.kind)) Is
  one-more paths status t Was Is h own on = (
    h.0 ++ t ∷ [],
    map-append (λ a. a.path) h.0 (t ∷ []) ∙ ap (λ ps. ps ++ t.path ∷ []) h.1,
    All-append (IsAnswerAt reads asked P) h.0 (t ∷ []) h.2 (All-cons (IsAnswerAt reads asked P) t [] own (All-nil (IsAnswerAt reads asked P))),
    ap (λ s. max s (kind_status t.kind)) h.3 ∙ sym (fold-append greater_of 0 h.0 (t ∷ [])),
    on h.0 h.4,
  )

  -- one trace more whose answer is printed
  pub printed-trace : (several : Bool) (paths : List (List ℕ)) (status : ℕ) (t : TraceAnswerAt) (old mid new : Option (List ℕ))
      → AreTraces reads asked P paths status (AreTracesPrinted None asked.app.now several old mid) → IsAnswerAt reads asked P t → Appends mid new (text_at several t)
      → AreTraces reads asked P (paths ++ t.path ∷ []) (max status (kind_status t.kind)) (AreTracesPrinted None asked.app.now several old new)
  printed-trace several paths status t old mid new h own now =
      one-more paths status t (AreTracesPrinted None asked.app.now several old mid) (AreTracesPrinted None asked.app.now several old new) h own
      (λ answers was. printed-more asked.app.now several old mid new t answers was now)

  -- one trace more whose answer a report shows
  pub shown-trace : (paths : List (List ℕ)) (status : ℕ) (t : TraceAnswerAt) (shown new : List AnswerShown) (s : AnswerShown) → new ≡ shown ++ s ∷ []
      → AreTraces reads asked P paths status (λ answers. Each (ShowsTrace asked.app.now) answers shown) → IsAnswerAt reads asked P t → ShowsTrace asked.app.now t s
      → AreTraces reads asked P (paths ++ t.path ∷ []) (max status (kind_status t.kind)) (λ answers. Each (ShowsTrace asked.app.now) answers new)
  shown-trace paths status t shown new s pushed h own shows =
      one-more paths status t (λ answers. Each (ShowsTrace asked.app.now) answers shown) (λ answers. Each (ShowsTrace asked.app.now) answers new) h own
      (λ answers was. subst (Each (ShowsTrace asked.app.now) (answers ++ t ∷ [])) (sym pushed) (each-more (ShowsTrace asked.app.now) answers shown t s was shows))

  -- the same answers, of other traces and with another status that are the same
  pub answers-at : (one other : List (List ℕ)) (s t : ℕ) (Is : List TraceAnswerAt → Type 0) → other ≡ one → t ≡ s → AreTraces reads asked P one s Is
      → AreTraces reads asked P other t Is
  answers-at one other s t Is same next h = (h.0, h.1 ∙ sym same, h.2, next ∙ h.3, h.4)

  -- what a command knows of the answer, where one trace is named
  abbrev pub IsNamed : ℕ → TraceAnswer → Type 0
  IsNamed status a = (path : List ℕ) × (map (λ s. s.now) asked.traces.now ≡ path ∷ []) × IsAnswerAt reads asked P (answered_at path a) × (status ≡ kind_status a.kind)

  -- what was put into the files is of that answer
  pub written-of : {Z : Type 0} (puts : Z → List ℕ → List ℕ → Z → Type 0) (answer : Option TraceAnswer) (status : ℕ) (old new : Z) → IsReadAs reads asked.app.now P
      → IfSome answer (IsNamed status) → PutsSomeOf puts asked answer old new → IsFollowWritten reads puts asked old new
  written-of puts None status old new read by same = inl same
  written-of puts (Some a) status old new read by put = inr (P, read, answered_at by.0 a, by.1, by.2, put)

  -- so it is where all was put
  pub done-of : {Z : Type 0} (puts : Z → List ℕ → List ℕ → Z → Type 0) (answer : Option TraceAnswer) (status : ℕ) (old new : Z) → IsReadAs reads asked.app.now P
      → IfSome answer (IsNamed status) → IfNone answer (is_several (length asked.traces.now) ≡ true) → PutsAnswerOf puts asked answer old new
      → IsFollowDone reads puts asked status old new
  done-of puts None status old new read by several same = λ one. absurd (false≢true (sym one ∙ several))
  done-of puts (Some a) status old new read by several put = λ one. (P, read, answered_at by.0 a, by.1, by.2, by.3, put)

-- One line more of a list is answered and printed.
use Rattle.std.proofs.Common.{◌≡◌, ◌++◌, ◌∙◌, ℕ, List, [], ◌∷◌, Bool, Option, None, Result, Ok, Err, IfOk, ap, append-nil, max, subst, sym}
use Rattle.fr_answer.proofs.Terms.{map-append, All-append, All-cons, All-nil, Appends-trans, Appends, AnswerShown, Entry, beside, Reading, What, what_status, AreAnswered, AreLinesPrinted, IsLineAdded}
use Rattle.fr_answer.proofs.Terms.{IsLineAnswer, IsLinePrinted, IsLineText, LineAnswer, Shows, greater_status, Each, IsAdded, each-more}
use Rattle.std.proofs.lemmas.List.Folds.{concat-append}
use Rattle.std.proofs.lemmas.List.Sums.{fold-append}
use Rattle.std.specs.List.{concat}

-- the text of one line more
pub printed-more : (explains : Bool) (list : List ℕ) (lines : List LineAnswer) (line : LineAnswer) (text : List ℕ) (old mid new : Option (List ℕ)) → AreLinesPrinted None explains list lines old mid
    → IsLineText explains (beside list line.entry.application) line.what text → Appends mid new text → AreLinesPrinted None explains list (lines ++ line ∷ []) old new
printed-more explains list lines line text old mid new h own now =
    let whole : concat (h.0 ++ text ∷ []) ≡ concat h.0 ++ text = concat-append h.0 (text ∷ []) ∙ ap (λ t. concat h.0 ++ t) (append-nil text) in (
      h.0 ++ text ∷ [],
      each-more (λ l t. IsLineText explains (beside list l.entry.application) l.what t) lines h.0 line text h.1 own,
      subst (Appends old new) (sym whole) (Appends-trans old mid new (concat h.0) text h.2 now),
    )

module _ (reads : Reading → List ℕ → List ℕ → Type 0) (asks : Bool) where
  -- the answer to one line more
  pub answered-more : (list : List ℕ) (entries : List Entry) (status : ℕ) (line : LineAnswer) (Was Is : List LineAnswer → Type 0) → AreAnswered reads asks list entries status Was
      → IsLineAnswer reads asks list line → ((lines : List LineAnswer) → Was lines → Is (lines ++ line ∷ []))
      → AreAnswered reads asks list (entries ++ line.entry ∷ []) (max status (what_status line.what)) Is
  answered-more list entries status line Was Is h own on = (
    h.0 ++ line ∷ [],
    map-append (λ l. l.entry) h.0 (line ∷ []) ∙ ap (λ es. es ++ line.entry ∷ []) h.1,
    All-append (IsLineAnswer reads asks list) h.0 (line ∷ []) h.2 (All-cons (IsLineAnswer reads asks list) line [] own (All-nil (IsLineAnswer reads asks list))),
    ap (λ s. max s (what_status line.what)) h.3 ∙ sym (fold-append greater_status 0 h.0 (line ∷ [])),
    on h.0 h.4,
  )

  -- both of one line more that is printed
  pub printed-line : (explains : Bool) (list : List ℕ) (entries : List Entry) (status : ℕ) (line : LineAnswer) (text : List ℕ) (old mid new : Option (List ℕ))
      → AreAnswered reads asks list entries status (λ lines. AreLinesPrinted None explains list lines old mid) → IsLineAnswer reads asks list line
      → IsLineText explains (beside list line.entry.application) line.what text → Appends mid new text
      → AreAnswered reads asks list (entries ++ line.entry ∷ []) (max status (what_status line.what)) (λ lines. AreLinesPrinted None explains list lines old new)
  printed-line explains list entries status line text old mid new h own told now =
      answered-more list entries status line (λ lines. AreLinesPrinted None explains list lines old mid) (λ lines. AreLinesPrinted None explains list lines old new) h own
      (λ lines was. printed-more explains list lines line text old mid new was told now)

  -- both of one line more whose answer a report shows
  pub shown-line : (list : List ℕ) (entries : List Entry) (status : ℕ) (line : LineAnswer) (shown new : List AnswerShown) (s : AnswerShown) → new ≡ shown ++ s ∷ []
      → AreAnswered reads asks list entries status (λ lines. Each (λ l a. Shows (beside list l.entry.application) l.what a) lines shown) → IsLineAnswer reads asks list line → Shows (beside list line.entry.application) line.what s
      → AreAnswered reads asks list (entries ++ line.entry ∷ []) (max status (what_status line.what)) (λ lines. Each (λ l a. Shows (beside list l.entry.application) l.what a) lines new)
  shown-line list entries status line shown new s pushed h own shows =
      answered-more list entries status line (λ lines. Each (λ l a. Shows (beside list l.entry.application) l.what a) lines shown) (λ lines. Each (λ l a. Shows (beside list l.entry.application) l.what a) lines new) h own
      (λ lines was. subst (λ answers. Each (λ l a. Shows (beside list l.entry.application) l.what a) (lines ++ line ∷ []) answers) (sym pushed) (each-more (λ l a. Shows (beside list l.entry.application) l.what a) lines shown line s was shows))

  -- the answers, of other lines and with another status that are the same
  pub answered-at : (list : List ℕ) (one other : List Entry) (s t : ℕ) (Is : List LineAnswer → Type 0) → other ≡ one → t ≡ s → AreAnswered reads asks list one s Is → AreAnswered reads asks list other t Is
  answered-at list one other s t Is same next h = (h.0, h.1 ∙ sym same, h.2, next ∙ h.3, h.4)

  -- the line with this entry is answered and printed, where that is so of its path
  pub line-printed : {E : Type 0} (list : List ℕ) (entry : Entry) (what : What) (e explains : Bool) (path : List ℕ) (old new : Option (List ℕ)) (r : Result ℕ E)
      → IsLineAnswer reads asks list (record { entry = entry; what = what }) → path ≡ beside list entry.application → e ≡ explains
      → IfOk r (λ _. (text : List ℕ) × IsLineText e path what text × Appends old new text) → IfOk r (λ status. status ≡ what_status what)
      → IfOk r (IsLinePrinted reads asks explains list entry old new)
  line-printed list entry what e explains path old new (Ok status) own is same h by =
      (what, h.0, own, subst (λ b. IsLineText b (beside list entry.application) what h.0) same (subst (λ p. IsLineText e p what h.0) is h.1), h.2, by)
  line-printed list entry what e explains path old new (Err f) own is same h by = tt

  -- so it is of one that is added
  pub line-added : {E : Type 0} (list : List ℕ) (entry : Entry) (what : What) (path : List ℕ) (old new : List AnswerShown) (r : Result ℕ E)
      → IsLineAnswer reads asks list (record { entry = entry; what = what }) → path ≡ beside list entry.application
      → IfOk r (λ _. IsAdded (Shows path what) old new) → IfOk r (λ status. status ≡ what_status what)
      → IfOk r (IsLineAdded reads asks list entry old new)
  line-added list entry what path old new (Ok status) own is h by = (what, own, (h.0, subst (λ p. Shows p what h.0) is h.1, h.2), by)
  line-added list entry what path old new (Err f) own is h by = tt

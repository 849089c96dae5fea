-- What one more item adds to a list that is written with what lies before it.
use Rattle.std.proofs.Common.{◌≡◌, ℕ, ◌+◌, ◌<◌, List, [], ◌∷◌, ◌++◌, ◌∙◌, ap, sym, length, take, get_or, map, append_assoc, append-nil, arith}
use Rattle.std.proofs.lemmas.List.{length-map, length-take-le, map-append, take_more}
use Rattle.fr_formats.specs.declared.answer.AnswerShown.{AnswerShown}
use Rattle.fr_formats.specs.Sarif.{Stop, added, artifacts, numbered, stop_tokens}

numbered_more : (path : List ℕ) (n : ℕ) (stops : List Stop) (stop : Stop)
    → numbered path n (stops ++ stop ∷ []) ≡ numbered path n stops ++ stop_tokens path (n + length stops) stop
numbered_more path n [] stop = append-nil (stop_tokens path n stop) ∙ ap (λ k. stop_tokens path k stop) (omega arith)
numbered_more path n (s ∷ stops) stop =
    ap (λ l. stop_tokens path n s ++ l) (numbered_more path (n + 1) stops stop)
    ∙ sym (append_assoc (stop_tokens path n s) (numbered path (n + 1) stops) (stop_tokens path (n + 1 + length stops) stop))
    ∙ ap (λ k. numbered path n (s ∷ stops) ++ stop_tokens path k stop) (omega arith)

pub numbered_next : {S : Type 0} (f : S → Stop) (path : List ℕ) (stops : List S) (i : ℕ) (stop : S) → i < length stops → stop ≡ get_or stops i stop
    → numbered path 1 (map f (take (i + 1) stops)) ≡ numbered path 1 (map f (take i stops)) ++ stop_tokens path (i + 1) (f stop)
numbered_next f path stops i stop within is =
    ap (λ l. numbered path 1 (map f l)) (take_more stops i stop within ∙ ap (λ x. take i stops ++ x ∷ []) (sym is))
    ∙ ap (numbered path 1) (map-append f (take i stops) (stop ∷ []))
    ∙ numbered_more path 1 (map f (take i stops)) (f stop)
    ∙ ap (λ k. numbered path 1 (map f (take i stops)) ++ stop_tokens path k (f stop))
    (ap (λ k. 1 + k) (length-map (take i stops) f ∙ length-take-le i stops (omega arith)) ∙ omega arith)

artifacts_more : (before answers : List AnswerShown) (a : AnswerShown)
    → artifacts before (answers ++ a ∷ []) ≡ artifacts before answers ++ added (before ++ answers) a
artifacts_more before [] a = append-nil (added before a) ∙ ap (λ b. added b a) (sym (append-nil before))
artifacts_more before (b ∷ answers) a =
    ap (λ l. added before b ++ l) (artifacts_more (before ++ b ∷ []) answers a)
    ∙ sym (append_assoc (added before b) (artifacts (before ++ b ∷ []) answers) (added (before ++ b ∷ [] ++ answers) a))
    ∙ ap (λ l. artifacts before (b ∷ answers) ++ added l a) (append_assoc before (b ∷ []) answers)

pub artifacts_next : (answers : List AnswerShown) (i : ℕ) (a : AnswerShown) → i < length answers → a ≡ get_or answers i a
    → artifacts [] (take (i + 1) answers) ≡ artifacts [] (take i answers) ++ added (take i answers) a
artifacts_next answers i a within is =
    ap (artifacts []) (take_more answers i a within ∙ ap (λ x. take i answers ++ x ∷ []) (sym is))
    ∙ artifacts_more [] (take i answers) a

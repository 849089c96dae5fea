-- Entries that lead from one state to another, and one more.
use Rattle.std.proofs.Common.{◌≡◌, ◌<◌, ◌+◌, ◌-◌, ℕ, suc, List, [], ◌∷◌, ◌++◌, length, refl, sym, ap, ◌∙◌, subst, arith}
use Rattle.std.proofs.lemmas.List.{length-append}
use Rattle.fr_program.specs.Program.{Program}
use Rattle.fr_rules.specs.State.{State}
use Rattle.fr_runner.specs.Trace.{Entry, IsEntry, Replays, word_at}

pub replays-push : (P : Program) (words : List ℕ) (before : ℕ) (S : State) (es : List Entry) (mid : State) (e : Entry) (T : State) → Replays P words before S es mid → IsEntry P (word_at words (before + length es)) mid e T → Replays P words before S (es ++ e ∷ []) T
replays-push P words before S [] mid e T h last =
    let at : before + 0 ≡ before = omega arith in
    (T, subst (λ U. IsEntry P (word_at words before) U e T) h (subst (λ n. IsEntry P (word_at words n) mid e T) at last), refl)
replays-push P words before S (x ∷ es) mid e T h last =
    let at : before + suc (length es) ≡ (before + 1) + length es = omega arith in
    (h.0, h.1, replays-push P words (before + 1) h.0 es mid e T h.2 (subst (λ n. IsEntry P (word_at words n) mid e T) at last))

-- with no entry every poll is left
pub polls-at-first : (es : List Entry) (polls : ℕ) → es ≡ [] → length es + (polls - length es) ≡ polls
polls-at-first es polls none = subst (λ xs. length xs + (polls - length xs) ≡ polls) (sym none) (omega arith)

-- one entry more takes one of the polls that are left
pub polls-add-up : (es more : List Entry) (e : Entry) (polls : ℕ) → more ≡ es ++ e ∷ [] → length es < polls → length more + (polls - length more) ≡ polls
polls-add-up es more e polls is left =
    let one : length more ≡ length es + 1 = ap length is ∙ length-append es (e ∷ []) in
    omega arith

-- The lines of steps, with those of one more.
use Rattle.std.proofs.Common.{◌≡◌, ◌+◌, ◌<◌, ℕ, Bool, List, [], ◌∷◌, ◌++◌, take, length, get_or, map, refl, ap, ◌∙◌, subst, sym}
use Rattle.std.specs.declared.string.String.{String}
use Rattle.std.proofs.lemmas.List.{append_assoc, append-nil, map-append, take_more}
use Rattle.std.proofs.lemmas.Grind.{flat_map-append}
use Rattle.fr_program.specs.Program.{Program}
use Rattle.fr_states.specs.declared.step.StepTaken.{StepTaken}
use Rattle.fr_changes.specs.declared.changes.ExplainedStep.{ExplainedStep}
use Rattle.fr_changes.specs.Explained.{steps_in}
use Rattle.fr_wording.specs.Lines.{lines_text}
use Rattle.fr_report.specs.Refuted.{AreStepLines, IsStepTold}

alone : (a e : List ℕ) → a ≡ [] → a ++ e ≡ e ++ []
alone a e h = rw (h, append-nil e) refl

joined : (a b c e : List ℕ) → a ≡ b ++ c → a ++ e ≡ b ++ (c ++ e)
joined a b c e h = simp (h, append_assoc) refl

told-more : (explains : Bool) (P : Program) (steps : List StepTaken) (step : StepTaken) (text own : List ℕ) → AreStepLines explains P steps text →
    IsStepTold explains P step own → AreStepLines explains P (steps ++ step ∷ []) (text ++ own)
told-more explains P [] step text own done told = (own, [], told, alone text own done, refl)
told-more explains P (x ∷ steps) step text own (first, others, its, e, rest) told =
    (first, others ++ own, its, joined text first others own e, told-more explains P steps step others own rest told)

one-step : (steps : List ExplainedStep) (k : ℕ) (step : ExplainedStep) → k < length steps → step ≡ get_or steps k step →
    steps_in (take (k + 1) steps) ≡ steps_in (take k steps) ++ step.taken ∷ []
one-step steps k step below is =
    let more = take_more steps k step below ∙ ap (λ x. take k steps ++ x ∷ []) (sym is) in
    ap steps_in more ∙ map-append (λ (s : ExplainedStep). s.taken) (take k steps) (step ∷ [])

-- the lines of one more step
pub lines-more : {Z : Type 0} (explains : Bool) (P : Program) (steps : List ExplainedStep) (k : ℕ) (step : ExplainedStep) (was more : List (String Z)) →
    k < length steps → step ≡ get_or steps k step → AreStepLines explains P (steps_in (take k steps)) (lines_text was) →
    IsStepTold explains P step.taken (lines_text more) → AreStepLines explains P (steps_in (take (k + 1) steps)) (lines_text (was ++ more))
lines-more {Z} explains P steps k step was more below is done told =
    let bytes : lines_text (was ++ more) ≡ lines_text was ++ lines_text more = flat_map-append _ was more in
    subst (λ xs. AreStepLines explains P xs (lines_text (was ++ more))) (sym (one-step steps k step below is))
    (subst (AreStepLines explains P (steps_in (take k steps) ++ step.taken ∷ [])) (sym bytes)
    (told-more explains P (steps_in (take k steps)) step.taken (lines_text was) (lines_text more) done told))

use Rattle.std.proofs.Common.{◌≡◌, ◌≢◌, ◌∙◌, subst, inl, inr, refl, true≢false}
use Rattle.fr_cert.proofs.Terms.{err_from_is_err_and, Members, members_view, Program, NoteFault, Memory, Count, Lives, Span, NoteParts, Alternative, said, HasFault, names_in, IsNoteText}
use Rattle.fr_cert.proofs.Terms.{IsAlternative, Standing, InAlternative, text_of, refused_as}
use Rattle.fr_cert.proofs.NoteLemmas.{said_same, fits_from, unfit}
use Rattle.fr_cert.proofs.note.alternative_of.Goals as goal

refused : (P : Program) (ms : Members) (parts : NoteParts) (f : NoteFault) → IsNoteText (names_in P) ms (text_of parts) → (f ≢ Memory → HasFault P parts f) → Standing (InAlternative P ms) (refused_as f)
refused P ms parts Memory text h named = absurd (true≢false named)
refused P ms parts Count text h named = inr (text_of parts, text, unfit P parts Count (h (λ e. cc)), refl)
refused P ms parts Lives text h named = inr (text_of parts, text, unfit P parts Lives (h (λ e. cc)), refl)
refused P ms parts Span text h named = inr (text_of parts, text, unfit P parts Span (h (λ e. cc)), refl)

made : (P : Program) (ms : Members) (parts : NoteParts) (n : Alternative) → IsNoteText (names_in P) ms (text_of parts) → ((f : NoteFault) → HasFault P parts f → ⊥) → n ≡ said P parts → IsAlternative P ms n
made P ms parts n text free says = (text_of parts, text, fits_from P parts free, says ∙ said_same P parts)

pub returns-in_err-parts_of-clause-err : goal.returns-in_err-parts_of-clause-err
returns-in_err-parts_of-clause-err c =
    let p = err_from_is_err_and c.from_residual.result c.from_residual.ensures.1 in
    rw (p.1, p.2) (λ named. inl (c.in_err-parts_of.ensures.err named))

pub returns-in-Ok-clause-ok : goal.returns-in-Ok-clause-ok
returns-in-Ok-clause-ok c =
    let ms = members_view c.args.object.now.entries in
    let parts = c.in_ok-parts_of.field-0 in
    let n = c.in-Ok.alternative in
    subst (λ P. IsNoteText (names_in P) ms (text_of parts) → IsAlternative P ms n) c.scope.view_is (λ text. made _ ms parts n text c.in-Ok.ensures.free c.in-Ok.ensures.says) c.in_ok-parts_of.ensures.ok

pub returns-in-Err-clause-err : goal.returns-in-Err-clause-err
returns-in-Err-clause-err c =
    let ms = members_view c.args.object.now.entries in
    let parts = c.in_ok-parts_of.field-0 in
    let f = c.in-Err.fault in
    rw c.refused_as.ensures
    (subst (λ P. IsNoteText (names_in P) ms (text_of parts) → Standing (InAlternative P ms) (refused_as f)) c.scope.view_is (λ text. refused _ ms parts f text c.in-Err.ensures.stands) c.in_ok-parts_of.ensures.ok)

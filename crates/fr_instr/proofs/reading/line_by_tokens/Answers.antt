use Rattle.std.proofs.Common.{◌∙◌, sym, ap, subst, List, ℕ, option_map}
use Rattle.std.specs.List.{list_all}
use Rattle.std.specs.Result.{result_ok}
use Rattle.fr_instr.specs.Tokens.{Spells, is_space}
use Rattle.fr_instr.specs.Faults.{Stands}
use Rattle.fr_instr.specs.ShapeReading.{shape_at}
use Rattle.fr_instr.specs.Views.{toks, shape_view}
use Rattle.fr_instr.proofs.LineLaws.{line_ok, line_err, no_shape}
use Rattle.fr_instr.proofs.reading.line_by_tokens.Goals as goal

pub returns-in-Ok-line_of-clause-ok : goal.returns-in-Ok-line_of-clause-ok
returns-in-Ok-line_of-clause-ok c =
    let P : List ℕ → Type 0 = λ t. Spells t (toks c.in_ok-tokens.tokens.items) in
    line_ok c.args.names.now c.args.text.now (toks c.in_ok-tokens.tokens.items) (shape_view c.in-Ok.shape) c.in-Ok-line_of.line
    (subst P c.as_bytes-bytes.ensures.value (c.in_ok-tokens.ensures.whole (sym c.is_blank.ensures ∙ c.if-is_blank.true)))
    (ap (λ r. option_map shape_view (result_ok r)) (sym c.in-Ok.is) ∙ c.in_ok-shape.ensures ∙ ap (λ ts. shape_at (toks ts)) c.as_slice.ensures.value) c.in-Ok-line_of.ensures.ok

pub returns-in-Ok-clause-err : goal.returns-in-Ok-clause-err
returns-in-Ok-clause-err c _ =
    let P : List ℕ → Type 0 = λ t. Spells t (toks c.in_ok-tokens.tokens.items) in
    subst (Stands c.args.names.now c.args.text.now) (sym c.placed.ensures.fault)
    (line_err c.args.names.now c.args.text.now (toks c.in_ok-tokens.tokens.items) (shape_view c.in-Ok.shape) c.in-Err-line_of.fault.fault
    (subst P c.as_bytes-bytes.ensures.value (c.in_ok-tokens.ensures.whole (sym c.is_blank.ensures ∙ c.if-is_blank.true)))
    (ap (λ r. option_map shape_view (result_ok r)) (sym c.in-Ok.is) ∙ c.in_ok-shape.ensures ∙ ap (λ ts. shape_at (toks ts)) c.as_slice.ensures.value) c.in-Err-line_of.ensures.err)

pub returns-clause-err : goal.returns-clause-err
returns-clause-err c _ =
    let P : List ℕ → Type 0 = λ t. Spells t (toks c.in_ok-tokens.tokens.items) in
    let same = c.as_bytes-bytes.ensures.value in
    subst (Stands c.args.names.now c.args.text.now) (sym (c.placed-in-Err.ensures.fault ∙ c.at-in-Err.ensures))
    (no_shape c.args.names.now c.args.text.now (toks c.in_ok-tokens.tokens.items) (list_all is_space c.in_ok-tokens.rest.now)
    (λ whole. subst P same (c.in_ok-tokens.ensures.whole whole))
    (λ broken us h. c.in_ok-tokens.ensures.broken broken us (subst (λ t. Spells t us) (sym same) h))
    (ap (λ r. option_map shape_view (result_ok r)) (sym c.in-Err.is) ∙ c.in_ok-shape.ensures ∙ ap (λ ts. shape_at (toks ts)) c.as_slice.ensures.value))

use Rattle.std.proofs.Common.{◌∷◌, [], ◌∙◌, ap, drop, Some, None}
use Rattle.std.proofs.lemmas.List.{map-append, take_rest}
use Rattle.fr_instr.specs.Views.{toks, words, word_of}
use Rattle.fr_instr.specs.ShapeReading.{arg_before_close}
use Rattle.fr_instr.proofs.ArgsLaws.{args_end}
use Rattle.fr_instr.proofs.shape.args_at.Goals as goal

pub returns-in-Ok : goal.returns-in-Ok
returns-in-Ok c =
    let rest = take_rest c.args.tokens.now c.in_ok-args.last in
    ap (λ x. Some (x, toks c.in-Ok.rest.now)) (ap words c.in_ok-push-in-Ok.ensures.items ∙ map-append word_of c.in_ok-args.args.items (c.in-Ok.value ∷ []))
    ∙ args_end (toks c.args.tokens.now) (toks (drop c.in_ok-args.last c.args.tokens.now)) (words c.in_ok-args.args.items) (Some (word_of c.in-Ok.value, toks c.in-Ok.rest.now)) c.in_default.ensures
    c.in_ok-args.ensures.before c.in_ok-args.ensures.last (c.in-Ok.ensures ∙ ap (λ t. arg_before_close (toks t)) rest)

pub returns : goal.returns
returns c =
    let rest = take_rest c.args.tokens.now c.in_ok-args.last in
    args_end (toks c.args.tokens.now) (toks (drop c.in_ok-args.last c.args.tokens.now)) (words c.in_ok-args.args.items) None c.in_default.ensures c.in_ok-args.ensures.before c.in_ok-args.ensures.last
    (c.in-Err.ensures ∙ ap (λ t. arg_before_close (toks t)) rest)

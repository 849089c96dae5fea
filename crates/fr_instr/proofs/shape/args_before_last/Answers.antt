use Rattle.std.proofs.Common.{◌∙◌, ap, sym, length, length-drop, arith}
use Rattle.std.proofs.lemmas.List.{take_rest}
use Rattle.fr_instr.specs.Views.{toks}
use Rattle.fr_instr.specs.ShapeReading.{arg_before_comma}
use Rattle.fr_instr.proofs.ArgsLaws.{loop_turn}
use Rattle.fr_instr.proofs.shape.args_before_last.Goals as goal

pub loop-value-preserved : goal.loop-value-preserved
loop-value-preserved c =
    let rest = take_rest c.args.tokens.now c.loop-value.i in (
      omega (arith, ap length rest, length-drop c.loop-value.i c.args.tokens.now, c.in-Ok.ensures.shorter, c.loop-value.invariant.0),
      loop_turn c.args.tokens.now c.loop-value.i c.loop-value.args.items c.push.new.self.items c.in-Ok.value (toks c.in-Ok._rest.now) c.in_ok-push.ensures.items c.loop-value.invariant.1
          (c.in-Ok.ensures.value ∙ ap (λ t. arg_before_comma (toks t)) rest),
    )

pub returns-clause-last : goal.returns-clause-last
returns-clause-last c = ap (λ t. arg_before_comma (toks t)) (sym (take_rest c.args.tokens.now c.loop-value.i)) ∙ sym c.in_default.ensures.value

use Rattle.std.proofs.Common.{◌++◌, ◌∙◌, ap, string_bytes}
use Rattle.std.proofs.lemmas.List.{take_all}
use Rattle.fr_instr.specs.Views.{texts}
use Rattle.fr_instr.specs.WrittenLine.{joined}
use Rattle.fr_instr.proofs.WrittenLineLaws.{joined_turn}
use Rattle.fr_instr.proofs.writing.push_all.Goals as goal

pub loop-piece-preserved : goal.loop-piece-preserved
loop-piece-preserved c =
    joined_turn c.args.pieces.now c.loop-piece.piece-index _ (string_bytes c.args.out.now) (string_bytes c.loop-piece.out) (string_bytes c.push_str.new.self) c.loop-piece-test.true
    c.loop-piece.invariant c.in_ok-push_str.ensures.bytes

pub returns : goal.returns
returns c = c.loop-piece.invariant ∙ ap (λ l. string_bytes c.args.out.now ++ joined (texts l)) (take_all c.loop-piece.piece-index c.args.pieces.now c.loop-piece-test.false)

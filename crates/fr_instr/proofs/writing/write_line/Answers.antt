use Rattle.std.proofs.Common.{◌++◌, ◌∙◌, ap, sym, subst, List, ℕ}
use Rattle.fr_instr.specs.Lines.{IsLine}
use Rattle.fr_instr.specs.WrittenLine.{line_text}
use Rattle.fr_instr.proofs.WrittenLineLaws.{pieces_written}
use Rattle.fr_instr.proofs.RoundTrip.{written_is_read}
use Rattle.fr_instr.proofs.writing.write_line.Goals as goal

pub returns-clause-written : goal.returns-clause-written
returns-clause-written c = c.in_ok-push_line.ensures ∙ ap (λ x. x ++ line_text c.args.names.now c.args.line.now) c.new-out.ensures.bytes ∙ pieces_written c.args.names.now c.args.line.now

pub returns-clause-again : goal.returns-clause-again
returns-clause-again c =
    let P : List ℕ → Type 0 = λ t. IsLine c.args.names.now t c.args.line.now in
    subst P (sym (returns-clause-written c)) (written_is_read c.args.names.now c.args.line.now c.recall_names.ensures c.requires)

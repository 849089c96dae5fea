use Rattle.std.proofs.Common.{◌∙◌, sym}
use Rattle.fr_trace.proofs.Whys.{line-why, spell-why}
use Rattle.fr_trace.proofs.reading.read_line.Goals as goal

pub returns-in-Err-clause-err : goal.returns-in-Err-clause-err
returns-in-Err-clause-err c = spell-why c.args.names.now _ _ _ _ (sym c.begins_comment.ensures ∙ c.if-begins_comment.false) c.in-Err.ensures.err

pub returns-clause-err : goal.returns-clause-err
returns-clause-err c =
    line-why c.args.names.now _ _ _ _ _ _ (sym c.begins_comment.ensures ∙ c.if-begins_comment.false) (rw c.as_slice.ensures.value c.in-Ok.ensures.ok) c.no_trace.ensures
    c.in-Err-read_tokens.ensures.err

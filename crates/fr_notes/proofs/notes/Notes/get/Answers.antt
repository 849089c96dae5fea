use Rattle.std.proofs.Common.{◌<◌, ◌≤◌, ◌∙◌, [], Some, length, sym, ap, arith}
use Rattle.fr_notes.proofs.Terms.{slice_get-get_or, slice_get_past}
use Rattle.fr_notes.proofs.notes.Notes.get.Goals as goal

pub returns-then-number-len : goal.returns-then-number-len
returns-then-number-len c =
    let within : c.args.number < length c.args.self.now = omega arith in
    ap Some c.note.ensures ∙ sym (slice_get-get_or c.args.self.now c.args.number [] within)

pub returns-else-number-len : goal.returns-else-number-len
returns-else-number-len c =
    let past : length c.args.self.now ≤ c.args.number = omega arith in
    sym (slice_get_past c.args.self.now c.args.number past)

use Rattle.std.proofs.Common.{sym}
use Rattle.fr_instr.proofs.DirectLaws.{line_read}
use Rattle.fr_instr.proofs.direct.read_call.Goals as goal

pub returns : goal.returns
returns c =
    let name = c.in_ok-name in
    let args = c.in_ok-given in
    let behind = c.in_ok-or_else in
    line_read c.args.names.now c.args.text.now name.rest.now c.in_ok-inside.inside.now args.rest.now name.name.now args.ensures.0 behind.ensures.0 _ args.given behind.or_else c.made_beside.result name.ensures c.in_ok-inside.ensures
    args.ensures.2 behind.ensures.2 (sym c.in_ok-verb.ensures) behind.ensures.1 args.ensures.1 c.made_beside.ensures

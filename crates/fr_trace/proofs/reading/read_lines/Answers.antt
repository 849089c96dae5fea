use Rattle.std.proofs.Common.{length, refl, subst}
use Rattle.std.specs.Str.Lines.{lines}
use Rattle.std.proofs.lemmas.Iterator.Consumers.{YieldsList-end, YieldsList-from_enumerate, YieldsList-turn}
use Rattle.std.proofs.lemmas.Iterator.Splits.{YieldsList-from_lines}
use Rattle.std.proofs.lemmas.List.{length_push}
use Rattle.fr_trace.specs.Reads.{ReadsLines, start}
use Rattle.fr_trace.specs.Views.{so_far}
use Rattle.fr_trace.proofs.Lines.{all-lines, kept-more, next-line, text-why}
use Rattle.fr_trace.proofs.reading.read_lines.Goals as goal

pub loop-index-preserved : goal.loop-index-preserved
loop-index-preserved c =
    let road = YieldsList-from_enumerate (YieldsList-from_lines c.args.text.now cc) cc in
    let turn = YieldsList-turn road c.loop-index.yielded _ c.loop-index.yielded_by _ _ (c.in-Some.index, c.in-Some.line) c.in-Some.is c.next.ensures.steps in
    kept-more c.args.names.now c.args.from_anywhere _ _ _ _ (next-line _ _ _ _ turn.0 turn.1) _ _ _ (length_push c.loop-index.yielded (c.in-Some.index, c.in-Some.line)) c.loop-index.invariant
    c.in-Ok.ensures.ok c.read_at.ensures.bound

pub returns-in-Err-clause-err : goal.returns-in-Err-clause-err
returns-in-Err-clause-err c =
    let road = YieldsList-from_enumerate (YieldsList-from_lines c.args.text.now cc) cc in
    let turn = YieldsList-turn road c.loop-index.yielded _ c.loop-index.yielded_by _ _ (c.in-Some.index, c.in-Some.line) c.in-Some.is c.next.ensures.steps in
    text-why c.args.names.now c.args.from_anywhere _ _ _ _ (next-line _ _ _ _ turn.0 turn.1) _ _ _ refl c.loop-index.invariant c.in-Err.ensures.err

pub returns-clause-ok : goal.returns-clause-ok
returns-clause-ok c =
    let road = YieldsList-from_enumerate (YieldsList-from_lines c.args.text.now cc) cc in
    let end = YieldsList-end road c.loop-index.yielded _ c.loop-index.yielded_by _ _ c.in-None.is c.next.ensures.steps in
    subst (λ ls. ReadsLines c.args.names.now 0 ls (start c.args.from_anywhere (length c.args.names.now.actors)) (so_far c.loop-index.progress)) (all-lines (lines c.args.text.now) _ end.1)
    c.loop-index.invariant.reads

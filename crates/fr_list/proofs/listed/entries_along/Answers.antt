use Rattle.std.proofs.Common.{[], ◌∷◌, ap, sym, subst, ◌∙◌}
use Rattle.std.specs.Str.Lines.{lines}
use Rattle.std.proofs.lemmas.Iterator.Consumers.{YieldsList-end, YieldsList-from_enumerate, YieldsList-turn}
use Rattle.std.proofs.lemmas.Iterator.Splits.{YieldsList-from_lines}
use Rattle.std.proofs.lemmas.List.{append-nil, length_push}
use Rattle.fr_list.specs.Means.{AreFaultless, entries_in}
use Rattle.fr_list.proofs.LineLaws.{all-lines, first-faulty, kept-more, next-line}
use Rattle.fr_list.proofs.listed.entries_along.Goals as goal

pub loop-index-preserved-in-Continue-1 : goal.loop-index-preserved-in-Continue-1
loop-index-preserved-in-Continue-1 c =
    let road = YieldsList-from_enumerate (YieldsList-from_lines c.args.text.now cc) cc in
    let turn = YieldsList-turn road c.loop-index.yielded _ c.loop-index.yielded_by _ _ (c.in-Some.index, c.in-Some.line) c.in-Some.is c.next.ensures.steps in
    let says = rw c.in-Ok-Some.field-0-is at c.in-Ok-Some.ensures in
    kept-more _ _ _ _ (next-line _ _ _ _ turn.0 turn.1) _ c.loop-index.entries.items (c.in-Ok-Some.entry ∷ []) c.push.new.self.items
    (length_push c.loop-index.yielded (c.in-Some.index, c.in-Some.line)) c.in_ok-push-in-Ok-Some.ensures.items c.loop-index.invariant says.few says.named

pub loop-index-preserved : goal.loop-index-preserved
loop-index-preserved c =
    let road = YieldsList-from_enumerate (YieldsList-from_lines c.args.text.now cc) cc in
    let turn = YieldsList-turn road c.loop-index.yielded _ c.loop-index.yielded_by _ _ (c.in-Some.index, c.in-Some.line) c.in-Some.is c.next.ensures.steps in
    let says = rw c.in-Ok-None.field-0-is at c.in-Ok-None.ensures in
    kept-more _ _ _ _ (next-line _ _ _ _ turn.0 turn.1) _ c.loop-index.entries.items [] c.loop-index.entries.items
    (length_push c.loop-index.yielded (c.in-Some.index, c.in-Some.line)) (sym (append-nil c.loop-index.entries.items)) c.loop-index.invariant says.few says.named

pub returns-in-Err-clause-fault : goal.returns-in-Err-clause-fault
returns-in-Err-clause-fault c =
    let road = YieldsList-from_enumerate (YieldsList-from_lines c.args.text.now cc) cc in
    let turn = YieldsList-turn road c.loop-index.yielded _ c.loop-index.yielded_by _ _ (c.in-Some.index, c.in-Some.line) c.in-Some.is c.next.ensures.steps in
    first-faulty _ _ _ _ (next-line _ _ _ _ turn.0 turn.1) c.loop-index.invariant.few c.in-Err.ensures.many

pub returns-clause-few : goal.returns-clause-few
returns-clause-few c =
    let road = YieldsList-from_enumerate (YieldsList-from_lines c.args.text.now cc) cc in
    let end = YieldsList-end road c.loop-index.yielded _ c.loop-index.yielded_by _ _ c.in-None.is c.next.ensures.steps in
    subst AreFaultless (all-lines (lines c.args.text.now) _ end.1) c.loop-index.invariant.few

pub returns-clause-named : goal.returns-clause-named
returns-clause-named c =
    let road = YieldsList-from_enumerate (YieldsList-from_lines c.args.text.now cc) cc in
    let end = YieldsList-end road c.loop-index.yielded _ c.loop-index.yielded_by _ _ c.in-None.is c.next.ensures.steps in
    c.loop-index.invariant.named ∙ ap entries_in (all-lines (lines c.args.text.now) _ end.1)

use Rattle.std.proofs.Common.{◌+◌, ◌++◌, ◌∙◌, ap, sym, take, map}
use Rattle.fr_formats.specs.Sarif.{numbered, stop_of, stop_tokens}
use Rattle.fr_formats.proofs.Chains.{next}
use Rattle.fr_formats.proofs.SarifLaws.{numbered_next}
use Rattle.fr_formats.proofs.sarif.flow.put_stops.Goals as goal

pub loop-index-preserved : goal.loop-index-preserved
loop-index-preserved c =
    let stops = c.args.stops.now in
    let path = c.args.path.now in
    let i = c.loop-index.index in
    let stop = c.index-stops-index.result in
    next _ _ _ (numbered path 1 (map stop_of (take i stops))) (stop_tokens path (i + 1) (stop_of stop)) c.loop-index.invariant c.in_ok-put_stop.ensures
    ∙ ap (λ l. c.args.out.now.tokens ++ l) (sym (numbered_next stop_of path stops i stop c.loop-index-test.true c.index-stops-index.is))

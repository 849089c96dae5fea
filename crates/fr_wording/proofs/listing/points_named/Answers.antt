-- Each turn adds the line of the next point, and the last turn is at the last point.
use Rattle.std.proofs.Common.{◌∙◌}
use Rattle.fr_program.specs.Points.{points_of}
use Rattle.fr_wording.specs.Listing.{listed_text}
use Rattle.fr_wording.proofs.ListingLemmas.{one-more}
use Rattle.fr_wording.proofs.listing.points_named.Goals as goal

pub put_point-requires-clause-point : goal.put_point-requires-clause-point
put_point-requires-clause-point c = (c.recall_numbered.ensures.listed c.loop-number.number c.point.result c.point.ensures).0

pub loop-number-preserved : goal.loop-number-preserved
loop-number-preserved c =
    let P = c.args.app.now in
    c.in_ok-put_point.ensures ∙ one-more (listed_text c.args.sources.now P) (points_of P) c.loop-number.number c.point.result _ c.point.ensures c.loop-number.invariant

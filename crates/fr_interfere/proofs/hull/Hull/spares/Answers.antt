use Rattle.fr_interfere.proofs.HullLaws.{third-decides}
use Rattle.fr_interfere.proofs.hull.Hull.spares.Goals as goal

pub returns : goal.returns
returns c =
    third-decides c.is_of.result c.is_borne_by_each.result c.excludes_each.result c.is_of.ensures c.is_borne_by_each.ensures c.excludes_each.ensures c.if-is_of.false c.if-is_borne_by_each.false

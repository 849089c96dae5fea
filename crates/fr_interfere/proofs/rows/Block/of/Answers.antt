use Rattle.std.proofs.Common.{sym, subst}
use Rattle.fr_interfere.proofs.Terms.{AreUnder, AreListed}
use Rattle.fr_interfere.proofs.rows.Block.of.Goals as goal

pub returns-clause-block : goal.returns-clause-block
returns-clause-block c =
    let same = sym c.in_ok-numbers.ensures.items in
    record {
      listed = subst (AreListed c.args.app.now) same c.requires.listed;
      under = subst (AreUnder c.args.app.now c.args.notes.now c.in_ok-hull.hull) same c.in_ok-hull.ensures;
    }

use Rattle.std.proofs.Common.{refl, sym}
use Rattle.fr_cert.proofs.notes.place_of.Goals as goal

pub returns-then-is_same : goal.returns-then-is_same
returns-then-is_same c =
    (c.loop-other.other-index, c.loop-other-item.result, c.loop-other-test.true, sym c.loop-other-item.is, (sym (c.is_same.ensures c.if-is_same.true), refl))

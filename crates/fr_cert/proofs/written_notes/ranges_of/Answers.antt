use Rattle.std.proofs.Common.{All, sym, subst}
use Rattle.fr_cert.proofs.FitLemmas.{AreNumbers, fit_numbers, all_numbers}
use Rattle.fr_cert.proofs.written_notes.ranges_of.Goals as goal

pub ranges_value-requires-clause-numbers : goal.ranges_value-requires-clause-numbers
ranges_value-requires-clause-numbers c =
    let n = c.args.alternative.now in
    all_numbers c.ranges-2.result.now (subst (All AreNumbers) (sym c.ranges-2.ensures) (fit_numbers c.args.app.now n c.recall_faultless.ensures.limits c.requires))

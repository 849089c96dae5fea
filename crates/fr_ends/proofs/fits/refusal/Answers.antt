use Rattle.std.proofs.Common.{sym, ◌∙◌}
use Rattle.std.proofs.lemmas.Bool.{false≢true}
use Rattle.fr_ends.proofs.TwiceLemmas.{fit_to, fit_from, apart_to, apart_from}
use Rattle.fr_ends.proofs.fits.refusal.Goals as goal

pub returns-then-not-all_fit-clause-some : goal.returns-then-not-all_fit-clause-some
returns-then-not-all_fit-clause-some c fit = false≢true (sym c.if-not-all_fit.true ∙ c.all_fit.ensures.1 (fit_from c.args.app.now c.args.ends.now fit))

pub returns-then-not-are_apart-clause-some : goal.returns-then-not-are_apart-clause-some
returns-then-not-are_apart-clause-some c apart = false≢true (sym c.if-not-are_apart.true ∙ c.are_apart.ensures.1 (apart_from c.args.ends.now apart))

pub returns-clause-none : goal.returns-clause-none
returns-clause-none c = (fit_to c.args.app.now c.args.ends.now (c.all_fit.ensures.0 c.if-not-all_fit.false), apart_to c.args.ends.now (c.are_apart.ensures.0 c.if-not-are_apart.false))

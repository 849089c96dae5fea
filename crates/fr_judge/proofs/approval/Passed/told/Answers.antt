use Rattle.std.proofs.Common.{subst}
use Rattle.fr_judge.proofs.Terms.{TellsVerdict}
use Rattle.fr_judge.proofs.Points.{yes-certified}
use Rattle.fr_judge.proofs.approval.Passed.told.Goals as goal

pub invariant_of-result : goal.invariant_of-result
invariant_of-result c = record {
  fits = c.requires.fits;
  certified = yes-certified c.args.app c.args.certificate (subst (TellsVerdict c.args.app c.args.certificate) c.in-Yes.is c.requires.verdict);
}

pub returns-in-Yes-clause-certified : goal.returns-in-Yes-clause-certified
returns-in-Yes-clause-certified c = yes-certified c.args.app c.args.certificate (subst (TellsVerdict c.args.app c.args.certificate) c.in-Yes.is c.requires.verdict)

pub returns-in-Yes-clause-safe : goal.returns-in-Yes-clause-safe
returns-in-Yes-clause-safe c = c.requires.safe c.in-Yes.is

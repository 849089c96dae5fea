use Rattle.std.proofs.Common.{refl}
use Rattle.fr_notes.proofs.StepLaws.{are-possible}
use Rattle.fr_effects.proofs.DisturbanceLaws.{left-spares}
use Rattle.fr_effects.proofs.disturbance.is_spared_by_row.Goals as goal

pub some_spared-requires-clause-possible : goal.some_spared-requires-clause-possible
some_spared-requires-clause-possible c = are-possible c.args.mover.now.app.now c.args.known.now c.requires.fits

pub returns-in-Some : goal.returns-in-Some
returns-in-Some c = λ p other.
    let exactly = left-spares c.args.mover.now.app.now c.args.known.now c.args.alternative.now c.requires.other c.args.mover.now.point c.args.way c.in-Some.change c.in-Some.ensures.some p other c.args.note.now c.requires.note in
    (λ t. exactly.0 (c.some_spared.ensures.0 t), λ leaves. c.some_spared.ensures.1 (exactly.1 leaves))

pub returns-in-None : goal.returns-in-None
returns-in-None c = λ p other. (λ t can. absurd (c.in-None.ensures.none p other can), λ leaves. refl)

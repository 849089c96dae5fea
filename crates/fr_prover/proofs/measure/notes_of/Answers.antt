use Rattle.std.proofs.Common.{sym, subst}
use Rattle.std.specs.Prelude.{All}
use Rattle.fr_notes.specs.Fits.{NoteFits}
use Rattle.fr_finder.proofs.Items.{notes-push, one-longer}
use Rattle.fr_prover.proofs.measure.notes_of.Goals as goal

pub loop-number-preserved : goal.loop-number-preserved
loop-number-preserved c = record {
  count = one-longer c.loop-number.notes.items c.push.new.self.items c.in_ok-note_of.field-0 c.loop-number.number c.in_ok-push.ensures.items c.loop-number.invariant.count;
  fit = subst (λ notes. All (λ n. NoteFits c.args.pool.now.app.now n) notes) (sym c.in_ok-push.ensures.items) (notes-push c.args.pool.now.app.now c.loop-number.notes.items c.in_ok-note_of.field-0 c.loop-number.invariant.fit c.in_ok-note_of.ensures);
}

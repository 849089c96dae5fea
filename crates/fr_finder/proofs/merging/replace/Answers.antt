use Rattle.std.proofs.Common.{arith}
use Rattle.std.proofs.lemmas.List.{length-set}
use Rattle.std.proofs.lemmas.List.Elements.{All-set}
use Rattle.fr_notes.specs.Fits.{AlternativeFits}
use Rattle.fr_finder.proofs.merging.replace.Goals as goal

pub returns : goal.returns
returns c = (
  omega (arith, length-set c.args.note.now.items c.args.place c.args.one, c.requires.note.0),
  All-set (λ n. AlternativeFits c.args.app.now n) c.args.note.now.items c.args.place c.args.one c.requires.one c.requires.note.1,
)

-- Both files passed.
use Rattle.std.proofs.Common.{refl}
use Rattle.std.specs.Prelude.{option_copied}
use Rattle.fr_inputs.proofs.Looking.{may-of}
use Rattle.fr_traces.proofs.outputs.look_at_outputs.Goals as goal

pub returns-in-Ok-clause-run : goal.returns-in-Ok-clause-run
returns-in-Ok-clause-run g c =
    may-of (λ p. g.F.Files.May c.args.files.now p) c.output_at-run.result (option_copied c.args.asked.now.run) c.output_at-run.ensures.path (λ o is. c.in-Ok.ensures 0 o (rw is refl))

pub returns-in-Ok-clause-html : goal.returns-in-Ok-clause-html
returns-in-Ok-clause-html g c =
    may-of (λ p. g.F.Files.May c.args.files.now p) c.output_at-html.result (option_copied c.args.asked.now.html) c.output_at-html.ensures.path (λ o is. c.in-Ok.ensures 1 o (rw is refl))

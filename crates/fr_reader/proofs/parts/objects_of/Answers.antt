use Rattle.std.proofs.Common.{◌≡◌}
use Rattle.fr_program.specs.View as program
use Rattle.fr_reader.specs.Views.{object_text}
use Rattle.fr_reader.proofs.ZipLemmas.{zip_more}
use Rattle.fr_reader.proofs.parts.objects_of.Goals as goal

pub loop-text-preserved : goal.loop-text-preserved
loop-text-preserved c =
    zip_more (λ text o. o ≡ text) object_text program.object_of c.args.texts.now c.loop-text.text-index _ c.loop-text.objects.items c.push.new.self.items c.in_ok-object_of.field-0
    c.loop-text-test.true c.loop-text.invariant c.in_ok-object_of.ensures.ok c.in_ok-push.ensures.items

use Rattle.std.proofs.Common.{◌∙◌}
use Rattle.clap.specs.Matches.{found_of}
use Rattle.clap.proofs.WalkLemmas.{raw_values-rows}
use Rattle.fr_words.specs.Found.{texts_at}
use Rattle.fr_words.proofs.found.texts_at.Goals as goal

pub returns : goal.returns
unfolding texts_at
returns c = c.get_strs.ensures ∙ raw_values-rows (found_of c.args.words.now) c.args.id.now

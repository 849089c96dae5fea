use Rattle.std.proofs.Common.{◌∙◌}
use Rattle.clap.specs.Matches.{found_of}
use Rattle.clap.proofs.WalkLemmas.{first_value-rows}
use Rattle.fr_words.specs.Found.{text_at}
use Rattle.fr_words.proofs.found.text_at.Goals as goal

pub returns : goal.returns
unfolding text_at
returns c = c.get_str.ensures ∙ first_value-rows (found_of c.args.words.now) c.args.id.now

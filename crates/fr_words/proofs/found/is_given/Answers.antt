use Rattle.clap.specs.Matches.{found_of}
use Rattle.std.proofs.Common.{◌∙◌}
use Rattle.fr_words.proofs.FoundLemmas.{one_bool}
use Rattle.fr_words.proofs.found.is_given.Goals as goal

pub returns : goal.returns
returns c = c.unwrap_or.ensures ∙ one_bool _ (found_of c.args.words.now) c.args.id.now _ c.get_one.ensures.none c.get_one.ensures.value

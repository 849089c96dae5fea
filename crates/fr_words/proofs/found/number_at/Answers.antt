use Rattle.clap.specs.Matches.{found_of}
use Rattle.fr_words.proofs.FoundLemmas.{one_number}
use Rattle.fr_words.proofs.found.number_at.Goals as goal

pub returns : goal.returns
returns c = one_number 32 (found_of c.args.words.now) c.args.id.now _ c.get_one.ensures.none c.get_one.ensures.value

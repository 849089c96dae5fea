-- The text means the words so far and those of what is left; each turn takes a word and its comma away.
use Rattle.std.proofs.Common.{length, IsUtf8}
use Rattle.fr_findings.proofs.WordsLaws.{IsReadTo}
use Rattle.fr_findings.proofs.words.words_of.Given as goal

abbrev pub invariant-words : goal.invariant-words
invariant-words l = IsReadTo l.fn.text l.words.items l.rest × IsUtf8 l.rest

abbrev pub decreases-words : goal.decreases-words
decreases-words l = length l.rest

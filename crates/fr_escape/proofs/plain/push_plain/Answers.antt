use Rattle.fr_escape.specs.Plain.{plain}
use Rattle.fr_escape.proofs.PlainLaws.{harmless_plain}
use Rattle.fr_escape.proofs.plain.push_plain.Goals as goal

pub returns-clause-text : goal.returns-clause-text
unfolding plain
returns-clause-text c = c.push_text.ensures

pub returns-clause-harmless : goal.returns-clause-harmless
returns-clause-harmless c = harmless_plain c.args.text.now

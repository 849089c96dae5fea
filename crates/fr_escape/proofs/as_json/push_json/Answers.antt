use Rattle.fr_escape.specs.AsJson.{as_json}
use Rattle.fr_escape.proofs.AsJsonLaws.{harmless_json}
use Rattle.fr_escape.proofs.as_json.push_json.Goals as goal

pub returns-clause-text : goal.returns-clause-text
unfolding as_json
returns-clause-text c = c.push_text.ensures

pub returns-clause-harmless : goal.returns-clause-harmless
returns-clause-harmless c = harmless_json c.args.text.now

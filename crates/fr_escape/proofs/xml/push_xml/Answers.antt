use Rattle.fr_escape.specs.Xml.{xml}
use Rattle.fr_escape.proofs.XmlLaws.{harmless_xml, allowed_xml}
use Rattle.fr_escape.proofs.xml.push_xml.Goals as goal

pub returns-clause-text : goal.returns-clause-text
unfolding xml
returns-clause-text c = c.push_text.ensures

pub returns-clause-harmless : goal.returns-clause-harmless
returns-clause-harmless c = harmless_xml c.args.text.now

pub returns-clause-allowed : goal.returns-clause-allowed
returns-clause-allowed c = allowed_xml c.args.text.now

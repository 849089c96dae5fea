use Rattle.fr_escape.specs.Html.{html}
use Rattle.fr_escape.proofs.HtmlLaws.{harmless_html}
use Rattle.fr_escape.proofs.html.push_html.Goals as goal

pub returns-clause-text : goal.returns-clause-text
unfolding html
returns-clause-text c = c.push_text.ensures

pub returns-clause-harmless : goal.returns-clause-harmless
returns-clause-harmless c = harmless_html c.args.text.now

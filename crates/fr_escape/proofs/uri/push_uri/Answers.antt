use Rattle.std.proofs.Common.{rules, arith}
use Rattle.std.proofs.lemmas.Grind.{common_steps}
use Rattle.fr_escape.specs.Uri.{uri}
use Rattle.fr_escape.proofs.UriLaws.{harmless_uri, uri_more}
use Rattle.fr_escape.proofs.uri.push_uri.Goals as goal

pub loop-byte-init : goal.loop-byte-init
unfolding uri
loop-byte-init c = search rules

pub loop-byte-preserved : goal.loop-byte-preserved
loop-byte-preserved c = grind (arith, common_steps, uri_more)

pub returns-in_err-push_byte-clause-harmless : goal.returns-in_err-push_byte-clause-harmless
returns-in_err-push_byte-clause-harmless c = harmless_uri c.args.path.now

pub returns-clause-harmless : goal.returns-clause-harmless
returns-clause-harmless c = harmless_uri c.args.path.now

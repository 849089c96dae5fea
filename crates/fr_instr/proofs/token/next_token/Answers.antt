use Rattle.std.proofs.Common.{◌≡◌, ◌∙◌, ap}
use Rattle.fr_instr.specs.Reading.{token_at}
use Rattle.fr_instr.proofs.TokenLaws.{seen, next, found_by, none_by, shorter_by}
use Rattle.fr_instr.proofs.token.next_token.Goals as goal

pub returns-clause-found : goal.returns-clause-found
returns-clause-found c = let e : seen c.token_at.result ≡ next c.args.text.now = c.token_at.ensures ∙ ap token_at c.split_class.ensures.rest in found_by c.token_at.result c.args.text.now e

pub returns-clause-none : goal.returns-clause-none
returns-clause-none c = let e : seen c.token_at.result ≡ next c.args.text.now = c.token_at.ensures ∙ ap token_at c.split_class.ensures.rest in none_by c.token_at.result c.args.text.now e

pub returns-clause-shorter : goal.returns-clause-shorter
returns-clause-shorter c = let e : seen c.token_at.result ≡ next c.args.text.now = c.token_at.ensures ∙ ap token_at c.split_class.ensures.rest in shorter_by c.token_at.result c.args.text.now e

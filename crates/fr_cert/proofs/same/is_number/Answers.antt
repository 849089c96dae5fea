use Rattle.std.proofs.Common.{sym, ap, ◌∙◌}
use Rattle.fr_cert.proofs.Terms.{number, number_view}
use Rattle.fr_cert.proofs.SameLemmas.{num-unsigned}
use Rattle.fr_cert.proofs.same.is_number.Goals as goal

pub returns-in-Some : goal.returns-in-Some
returns-in-Some c = λ yes. c.is_unsigned.ensures yes ∙ ap number (sym (num-unsigned (number_view c.args.number.now) c.in-Some.whole (sym c.in-Some.ensures)))

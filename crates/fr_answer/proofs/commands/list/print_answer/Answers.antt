-- The answer that was found is the one that is printed.
use Rattle.std.proofs.Common.{string_bytes}
use Rattle.fr_answer.proofs.Terms.{shown, Reads}
use Rattle.fr_answer.proofs.Listing.{line-printed}
use Rattle.fr_answer.proofs.commands.list.print_answer.Goals as goal

pub returns-clause-printed : goal.returns-clause-printed
returns-clause-printed g c =
    line-printed (Reads (g.F.Files.Gives c.args.files.now) g.F.Files.Means) c.args.ways.deadlock c.args.list.now (shown c.args.listed) c.in_ok-answer.answer.what _ _
    (string_bytes c.in_ok-answer.answer.application) _ _ c.print_line.result c.in_ok-answer.ensures.by c.in_ok-answer.ensures.path c.is_some.ensures c.print_line.ensures.text c.print_line.ensures.status

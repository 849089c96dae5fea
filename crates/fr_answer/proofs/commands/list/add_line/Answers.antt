-- The answer that was found is the one that is added.
use Rattle.std.proofs.Common.{string_bytes}
use Rattle.fr_answer.proofs.Terms.{shown, Reads}
use Rattle.fr_answer.proofs.Listing.{line-added}
use Rattle.fr_answer.proofs.commands.list.add_line.Goals as goal

pub returns : goal.returns
returns g c =
    line-added (Reads (g.F.Files.Gives c.args.files.now) g.F.Files.Means) c.args.ways.deadlock c.args.list.now (shown c.args.listed) c.in_ok-answer.answer.what
    (string_bytes c.in_ok-answer.answer.application) _ _ c.add_answer.result c.in_ok-answer.ensures.by c.in_ok-answer.ensures.path c.add_answer.ensures.added c.add_answer.ensures.status

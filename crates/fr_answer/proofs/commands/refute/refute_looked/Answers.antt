-- What is shown is what the search found.
use Rattle.std.proofs.Common.{IfOk, ap, subst}
use Rattle.std.specs.Prelude.{option_copied}
use Rattle.fr_answer.proofs.Terms.{Reads, IsSearchAt}
use Rattle.fr_answer.proofs.Showing.{page-found, paged-found, shown-of}
use Rattle.fr_answer.proofs.commands.refute.refute_looked.Goals as goal

pub returns-clause-answered : goal.returns-clause-answered
returns-clause-answered g c =
    let reads = Reads (g.F.Files.Gives c.args.files.now) g.F.Files.Means in
    let found = c.searched_file-found.result in
    let search = subst (λ asks. IfOk found (λ r. IsSearchAt reads asks c.args.asked.now.app.now r.1)) c.ways_of-ways.ensures c.searched_file-found.ensures.found in
    shown-of (IsSearchAt reads c.args.asked.now.deadlock c.args.asked.now.app.now) found _ c.args.asked.now.format _ _ _ _ c.show_found.result c.source_of-source.ensures c.asked_of-shown.ensures.format search c.show_found.ensures.answered

pub returns-clause-files : goal.returns-clause-files
returns-clause-files g c =
    let reads = Reads (g.F.Files.Gives c.args.files.now) g.F.Files.Means in
    let found = c.searched_file-found.result in
    let search = subst (λ asks. IfOk found (λ r. IsSearchAt reads asks c.args.asked.now.app.now r.1)) c.ways_of-ways.ensures c.searched_file-found.ensures.found in
    paged-found g.F.Files.Puts (IsSearchAt reads c.args.asked.now.deadlock c.args.asked.now.app.now) found _ (option_copied c.args.asked.now.html) _ _ (ap option_copied c.asked_of-shown.ensures.html) search c.show_found.ensures.paged

pub returns-clause-done : goal.returns-clause-done
returns-clause-done g c =
    let reads = Reads (g.F.Files.Gives c.args.files.now) g.F.Files.Means in
    let found = c.searched_file-found.result in
    let search = subst (λ asks. IfOk found (λ r. IsSearchAt reads asks c.args.asked.now.app.now r.1)) c.ways_of-ways.ensures c.searched_file-found.ensures.found in
    page-found g.F.Files.Puts (IsSearchAt reads c.args.asked.now.deadlock c.args.asked.now.app.now) found _ (option_copied c.args.asked.now.html) _ _ c.show_found.result (ap option_copied c.asked_of-shown.ensures.html) search c.show_found.ensures.written

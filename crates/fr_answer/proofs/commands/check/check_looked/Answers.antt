-- What is shown is the verdict on both files.
use Rattle.std.proofs.Common.{IfOk, refl, ap, subst}
use Rattle.std.specs.Prelude.{option_copied}
use Rattle.fr_answer.proofs.Terms.{Reads, IsCheckOf}
use Rattle.fr_answer.proofs.Showing.{page-found, paged-found, shown-of}
use Rattle.fr_answer.proofs.commands.check.check_looked.Goals as goal

pub returns-clause-answered : goal.returns-clause-answered
returns-clause-answered g c =
    let reads = Reads (g.F.Files.Gives c.args.files.now) g.F.Files.Means in
    let found = c.checked_files-found.result in
    let verdict = subst (λ asks. IfOk found (λ r. IsCheckOf reads asks c.args.app.now c.args.certificate.now r.1)) c.ways_of-ways.ensures c.checked_files-found.ensures.verdict in
    shown-of (IsCheckOf reads c.args.asked.now.deadlock c.args.app.now c.args.certificate.now) found _ c.args.asked.now.format _ _ _ _ c.show_found.result refl c.asked_of-shown.ensures.format verdict c.show_found.ensures.answered

pub returns-clause-files : goal.returns-clause-files
returns-clause-files g c =
    let reads = Reads (g.F.Files.Gives c.args.files.now) g.F.Files.Means in
    let found = c.checked_files-found.result in
    let verdict = subst (λ asks. IfOk found (λ r. IsCheckOf reads asks c.args.app.now c.args.certificate.now r.1)) c.ways_of-ways.ensures c.checked_files-found.ensures.verdict in
    paged-found g.F.Files.Puts (IsCheckOf reads c.args.asked.now.deadlock c.args.app.now c.args.certificate.now) found _ (option_copied c.args.asked.now.html) _ _ (ap option_copied c.asked_of-shown.ensures.html) verdict c.show_found.ensures.paged

pub returns-clause-done : goal.returns-clause-done
returns-clause-done g c =
    let reads = Reads (g.F.Files.Gives c.args.files.now) g.F.Files.Means in
    let found = c.checked_files-found.result in
    let verdict = subst (λ asks. IfOk found (λ r. IsCheckOf reads asks c.args.app.now c.args.certificate.now r.1)) c.ways_of-ways.ensures c.checked_files-found.ensures.verdict in
    page-found g.F.Files.Puts (IsCheckOf reads c.args.asked.now.deadlock c.args.app.now c.args.certificate.now) found _ (option_copied c.args.asked.now.html) _ _ c.show_found.result (ap option_copied c.asked_of-shown.ensures.html) verdict c.show_found.ensures.written

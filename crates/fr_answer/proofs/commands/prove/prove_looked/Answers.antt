-- What is shown is what was proved, and a certificate is written where the verdict is yes.
use Rattle.std.proofs.Common.{IfOk, List, ℕ, string_bytes, ap, subst}
use Rattle.std.specs.Prelude.{option_copied}
use Rattle.fr_answer.proofs.Terms.{Reads, IsProofAt}
use Rattle.fr_answer.proofs.Showing.{kept-by, paged-found, proof-found, prove-done, shown-of}
use Rattle.fr_answer.proofs.commands.prove.prove_looked.Goals as goal

pub returns-clause-answered : goal.returns-clause-answered
returns-clause-answered g c =
    let reads = Reads (g.F.Files.Gives c.args.files.now) g.F.Files.Means in
    let app = c.args.asked.now.app.now in
    let asks = c.args.asked.now.deadlock in
    let searches = c.args.asked.now.searches in
    let all = c.proved_file-proof.result in
    let proof = subst (λ b. IfOk all (λ r. IsProofAt reads b app searches (string_bytes r.2) r.1)) c.ways_of-ways.ensures c.proved_file-proof.ensures.proof in
    shown-of (λ what. (certificate : List ℕ) × IsProofAt reads asks app searches certificate what) c.kept-found.result _ c.args.asked.now.format _ _ _ _ c.show_found.result c.source_of-source.ensures c.asked_of-shown.ensures.format
    (proof-found reads asks app searches all c.kept-found.result proof c.kept-found.ensures.found c.kept-found.ensures.none) c.show_found.ensures.answered

pub returns-clause-files : goal.returns-clause-files
returns-clause-files g c =
    let reads = Reads (g.F.Files.Gives c.args.files.now) g.F.Files.Means in
    let app = c.args.asked.now.app.now in
    let asks = c.args.asked.now.deadlock in
    let searches = c.args.asked.now.searches in
    let all = c.proved_file-proof.result in
    let proof = subst (λ b. IfOk all (λ r. IsProofAt reads b app searches (string_bytes r.2) r.1)) c.ways_of-ways.ensures c.proved_file-proof.ensures.proof in (
      _,
      kept-by reads asks g.F.Files.Puts app searches (option_copied c.args.asked.now.out) all c.args.files.now _ proof c.kept-found.ensures.files c.kept-found.ensures.same,
      paged-found g.F.Files.Puts (λ what. (certificate : List ℕ) × IsProofAt reads asks app searches certificate what) c.kept-found.result _ (option_copied c.args.asked.now.html) _ _ (ap option_copied c.asked_of-shown.ensures.html)
          (proof-found reads asks app searches all c.kept-found.result proof c.kept-found.ensures.found c.kept-found.ensures.none) c.show_found.ensures.paged,
    )

pub returns-clause-done : goal.returns-clause-done
returns-clause-done g c =
    let reads = Reads (g.F.Files.Gives c.args.files.now) g.F.Files.Means in
    let app = c.args.asked.now.app.now in
    let searches = c.args.asked.now.searches in
    let all = c.proved_file-proof.result in
    let proof = subst (λ b. IfOk all (λ r. IsProofAt reads b app searches (string_bytes r.2) r.1)) c.ways_of-ways.ensures c.proved_file-proof.ensures.proof in
    prove-done reads c.args.asked.now.deadlock g.F.Files.Puts app searches (option_copied c.args.asked.now.out) _ (option_copied c.args.asked.now.html) all c.kept-found.result _ _ c.show_found.result c.args.files.now _ _ _ _
    (ap option_copied c.asked_of-shown.ensures.html) proof c.kept-found.ensures.found c.kept-found.ensures.none c.kept-found.ensures.done c.show_found.ensures.answered c.show_found.ensures.written

-- Both outputs passed.
use Rattle.std.proofs.Common.{refl, rules}
use Rattle.std.specs.Prelude.{option_copied, ℕ, List}
use Rattle.fr_answer.proofs.Terms.{Reads, IsProofAt, may-of}
use Rattle.fr_answer.proofs.Showing.{kept-same, none-done, paged-same, shown-none}
use Rattle.fr_answer.proofs.commands.prove.prove.Goals as goal

pub prove_looked-requires : goal.prove_looked-requires
prove_looked-requires g c =
    let out = may-of (λ p. g.F.Files.May c.args.files.now p) c.output_at-certificate.result (option_copied c.args.asked.now.out) c.output_at-certificate.ensures.path (λ o is. c.in_default.ensures 0 o (rw is refl)) in
    let html = may-of (λ p. g.F.Files.May c.args.files.now p) c.output_at-html.result (option_copied c.args.asked.now.html) c.output_at-html.ensures.path (λ o is. c.in_default.ensures 1 o (rw is refl)) in
    search rules

pub returns-in-Err-clause-files : goal.returns-in-Err-clause-files
returns-in-Err-clause-files g c =
    let same = c.show_outputs_refused.ensures.same in (
      c.args.files.now,
      kept-same (Reads (g.F.Files.Gives c.args.files.now) g.F.Files.Means) c.args.asked.now.deadlock g.F.Files.Puts c.args.asked.now.app.now (option_copied c.args.asked.now.out) c.args.files.now,
      paged-same g.F.Files.Puts _ (option_copied c.args.asked.now.html) c.args.files.now _ same,
    )

pub returns-in-Err-clause-answered : goal.returns-in-Err-clause-answered
returns-in-Err-clause-answered g c =
    shown-none (λ what. (certificate : List ℕ) × IsProofAt (Reads (g.F.Files.Gives c.args.files.now) g.F.Files.Means) c.args.asked.now.deadlock c.args.asked.now.app.now c.args.asked.now.searches certificate what) _ c.args.asked.now.format _ _ _ _
    c.show_outputs_refused.result c.source_of-source.ensures c.asked_of-shown.ensures.format c.show_outputs_refused.ensures.answered

pub returns-in-Err-clause-done : goal.returns-in-Err-clause-done
returns-in-Err-clause-done g c = none-done _ c.show_outputs_refused.result c.show_outputs_refused.ensures.refused

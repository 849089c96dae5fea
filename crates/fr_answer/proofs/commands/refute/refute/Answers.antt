-- The page's file passed.
use Rattle.std.proofs.Common.{refl, rules}
use Rattle.std.specs.Prelude.{option_copied}
use Rattle.fr_answer.proofs.Terms.{Reads, IsSearchAt, may-of}
use Rattle.fr_answer.proofs.Showing.{none-done, shown-none}
use Rattle.fr_answer.proofs.commands.refute.refute.Goals as goal

pub refute_looked-requires : goal.refute_looked-requires
refute_looked-requires g c =
    let may = may-of (λ p. g.F.Files.May c.args.files.now p) c.output_at-html.result (option_copied c.args.asked.now.html) c.output_at-html.ensures.path (λ o is. c.in_default.ensures 0 o (rw is refl)) in
    search rules

pub returns-in-Err-clause-answered : goal.returns-in-Err-clause-answered
returns-in-Err-clause-answered g c =
    shown-none (IsSearchAt (Reads (g.F.Files.Gives c.args.files.now) g.F.Files.Means) c.args.asked.now.deadlock c.args.asked.now.app.now) _ c.args.asked.now.format _ _ _ _ c.show_outputs_refused.result c.source_of-source.ensures c.asked_of-shown.ensures.format c.show_outputs_refused.ensures.answered

pub returns-in-Err-clause-done : goal.returns-in-Err-clause-done
returns-in-Err-clause-done g c = none-done _ c.show_outputs_refused.result c.show_outputs_refused.ensures.refused

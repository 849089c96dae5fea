-- The page's file passed.
use Rattle.std.proofs.Common.{refl, rules}
use Rattle.std.specs.Prelude.{option_copied}
use Rattle.fr_answer.proofs.Terms.{Reads, IsCheckOf, may-of}
use Rattle.fr_answer.proofs.Showing.{none-done, shown-none}
use Rattle.fr_answer.proofs.commands.check.check_one.Goals as goal

pub check_looked-requires : goal.check_looked-requires
check_looked-requires g c =
    let may = may-of (λ p. g.F.Files.May c.args.files.now p) c.output_at-output.result (option_copied c.args.asked.now.html) c.output_at-output.ensures.path (λ o is. c.in_default.ensures 0 o (rw is refl)) in
    search rules

pub returns-in-Err-clause-answered : goal.returns-in-Err-clause-answered
returns-in-Err-clause-answered g c =
    shown-none (IsCheckOf (Reads (g.F.Files.Gives c.args.files.now) g.F.Files.Means) c.args.asked.now.deadlock c.args.app.now c.args.certificate.now) _ c.args.asked.now.format _ _ _ _ c.show_outputs_refused.result refl c.asked_of-shown.ensures.format c.show_outputs_refused.ensures.answered

pub returns-in-Err-clause-done : goal.returns-in-Err-clause-done
returns-in-Err-clause-done g c = none-done _ c.show_outputs_refused.result c.show_outputs_refused.ensures.refused

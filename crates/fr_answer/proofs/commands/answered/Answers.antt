-- The status 0 is that of safe applications.
use Rattle.std.proofs.Common.{List, ℕ}
use Rattle.fr_answer.proofs.Terms.{is_some, Reads, AreNamedSafe, IsCheckAnswered, IsProofAt, IsSafeAt, IsSearchAt, IsShown}
use Rattle.fr_answer.proofs.Safe.{named-safe, proof-shown-safe, safe-by, search-shown-safe}
use Rattle.fr_answer.proofs.commands.answered.Goals as goal

pub returns-in-Check-clause-safe : goal.returns-in-Check-clause-safe
returns-in-Check-clause-safe g c =
    let reads = Reads (g.F.Files.Gives c.args.files.now) g.F.Files.Means in
    let asked = c.in-Check.asked in
    rw c.in-Check.is (safe-by (λ s. IsCheckAnswered reads asked.deadlock asked.files asked.format (is_some asked.detail) s _ _) (AreNamedSafe reads asked.deadlock asked.files) c.check.result c.check.ensures.answered
    (λ s e h. named-safe reads asked.deadlock asked.files asked.format (is_some asked.detail) s _ _ e h))

pub returns-in-Prove-clause-safe : goal.returns-in-Prove-clause-safe
returns-in-Prove-clause-safe g c =
    let reads = Reads (g.F.Files.Gives c.args.files.now) g.F.Files.Means in
    let asked = c.in-Prove.asked in
    rw c.in-Prove.is (safe-by (λ s. IsShown (λ what. (certificate : List ℕ) × IsProofAt reads asked.deadlock asked.app.now asked.searches certificate what) asked.format asked.app.now s _ _) (IsSafeAt reads asked.deadlock asked.app.now) c.prove.result c.prove.ensures.answered
    (λ s e h. proof-shown-safe reads asked.deadlock asked.app.now asked.searches asked.format asked.app.now s _ _ e h))

pub returns-in-Refute-clause-safe : goal.returns-in-Refute-clause-safe
returns-in-Refute-clause-safe g c =
    let reads = Reads (g.F.Files.Gives c.args.files.now) g.F.Files.Means in
    let asked = c.in-Refute.asked in
    rw c.in-Refute.is (safe-by (λ s. IsShown (IsSearchAt reads asked.deadlock asked.app.now) asked.format asked.app.now s _ _) (IsSafeAt reads asked.deadlock asked.app.now) c.refute.result c.refute.ensures.answered
    (λ s e h. search-shown-safe reads asked.deadlock asked.app.now asked.format asked.app.now s _ _ e h))

pub returns-in-Points-clause-answered : goal.returns-in-Points-clause-answered
returns-in-Points-clause-answered g c = rw c.in-Points.is c.points.ensures.answered

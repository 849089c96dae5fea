use Rattle.fr_interfere.proofs.rows.writer_row.Goals as goal

pub returns-in-Some : goal.returns-in-Some
returns-in-Some c = λ P ns I are row is. (are c.in-Some.hulls c.in-Some.is).writers c.args.variable.0 row.now (c.writers.ensures row is)

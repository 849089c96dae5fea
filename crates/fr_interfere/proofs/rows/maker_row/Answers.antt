use Rattle.fr_interfere.proofs.rows.maker_row.Goals as goal

pub returns-in-Some : goal.returns-in-Some
returns-in-Some c = λ P ns I are row is. (are c.in-Some.hulls c.in-Some.is).lives c.args.object.0 row.now (c.lives.ensures row is)

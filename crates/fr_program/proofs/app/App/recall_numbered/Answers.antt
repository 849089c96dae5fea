use Rattle.fr_program.proofs.PointLaws.{points_are_numbered}
use Rattle.fr_program.proofs.app.App.recall_numbered.Goals as goal

pub returns : goal.returns
returns c = points_are_numbered c.args.self.now

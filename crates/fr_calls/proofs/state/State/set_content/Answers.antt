use Rattle.std.proofs.Common.{subst, rules}
use Rattle.fr_rules.specs.State.{CanHave}
use Rattle.fr_rules.proofs.Formed.{becomes-mid}
use Rattle.fr_calls.proofs.state.State.set_content.Goals as goal

pub returns-then-can-clause-formed : goal.returns-then-can-clause-formed
returns-then-can-clause-formed c =
    let P = c.args.app.now in
    let S = c.args.self.now in
    let can = subst (λ kind. CanHave P kind c.args.content) c.kind.ensures (c.can_have-can.ensures.0 c.if-can.true) in
    search (rules, (becomes-mid P S c.args.object.0 c.args.content c.requires.formed can).formed)

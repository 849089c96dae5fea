use Rattle.std.specs.Prelude.{FitsSigned}
use Rattle.fr_notes.proofs.Terms.{to_z-of_z, Plus, Minus, joint_range}
use mir.Syntax.{w64}
use Rattle.std.proofs.Common.{rules}
use Rattle.fr_notes.proofs.ReckoningLaws.{span-made, left-scaled, right-scaled}
use Rattle.fr_notes.proofs.known.Known.result.Goals as goal

pub returns-in-Plus-default-default : goal.returns-in-Plus-default-default
returns-in-Plus-default-default c =
    rw c.in-Plus-default-default.is-0 (span-made (joint_range c.args.self.now) Plus c.args.left c.args.right c.operand-one.result c.operand-other.result c.add.result c.operand-one.ensures c.operand-other.ensures c.add.ensures)

pub returns-in-Minus-default-default : goal.returns-in-Minus-default-default
returns-in-Minus-default-default c =
    rw c.in-Minus-default-default.is-0 (span-made (joint_range c.args.self.now) Minus c.args.left c.args.right c.operand-one.result c.operand-other.result c.sub.result c.operand-one.ensures c.operand-other.ensures c.sub.ensures)

pub returns-in-Times-Number-default : goal.returns-in-Times-Number-default
returns-in-Times-Number-default c =
    let h = c.in-Times-Number-default in
    rw (h.is-0, h.is-1) (left-scaled (joint_range c.args.self.now) c.args.right h.by c.operand-other.result c.scale.result c.operand-other.ensures (let f : FitsSigned w64 h.by = search rules in rw (to_z-of_z w64 h.by f) at c.scale.ensures))

pub returns-in-Times-default-Number : goal.returns-in-Times-default-Number
returns-in-Times-default-Number c =
    let h = c.in-Times-default-Number in
    let r = c.scale-in-Times-default-Number in
    rw (h.is-0, h.is-2) (right-scaled (joint_range c.args.self.now) c.args.left h.by c.operand-one.result r.result c.operand-one.ensures (let f : FitsSigned w64 h.by = search rules in rw (to_z-of_z w64 h.by f) at r.ensures))

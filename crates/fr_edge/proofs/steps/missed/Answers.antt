use Rattle.std.proofs.Common.{Contains, sym, ap, subst, arith}
use Rattle.fr_edge.proofs.Terms.{point_number}
use Rattle.fr_edge.proofs.Firsts.{pc-small, landed}
use Rattle.fr_edge.proofs.Targets.{no-target, others, all-go, missing}
use Rattle.fr_edge.proofs.steps.missed.Goals as goal

pub overflow_add-spot : goal.overflow_add-spot
overflow_add-spot c =
    let s = c.args.spot.now in
    let l = pc-small s.app.now s.point.actor.0 s.point.pc s.instr.now c.recall_faultless.ensures s.has_instr in omega arith

pub returns-in-None : goal.returns-in-None
returns-in-None c =
    let s = c.args.spot.now in
    let d = landed s.point.actor _ c.in-At.target c.in-At.ensures in
    no-target s.app.now s.notes.now s.point s.instr.now c.args.way s.has_instr c.in-At.target d.0 d.1 c.in-None.ensures.none

pub returns-then-all_go_well : goal.returns-then-all_go_well
returns-then-all_go_well c =
    let s = c.args.spot.now in
    let d = landed s.point.actor _ c.in-At.target c.in-At.ensures in
    let n = c.in-Some.ensures.some in
    let is = c.at.ensures.is c.in-At.target ((c.number.ensures.inverse c.in-Some.number).0 c.in-Some.is) in
    all-go s.app.now s.notes.now s.point s.instr.now c.args.way s.has_instr c.in-At.target d.0 d.1 c.at.result.now is (λ m k. c.all_go_well.ensures.0 c.if-all_go_well.true m (subst (λ note. Contains note m) (sym s.has_note) k))

pub returns-else-all_go_well : goal.returns-else-all_go_well
returns-else-all_go_well c =
    let s = c.args.spot.now in
    let d = landed s.point.actor _ c.in-At.target c.in-At.ensures in
    let n = c.in-Some.ensures.some in
    let is = c.at.ensures.is c.in-At.target ((c.number.ensures.inverse c.in-Some.number).0 c.in-Some.is) in (
      c.in-At.target,
      n.0,
      d.0,
      sym n.1,
      missing s.app.now s.notes.now s.point s.instr.now c.args.way s.has_instr c.in-At.target d.0 d.1 c.at.result.now is (λ all.
          let t = c.all_go_well.ensures.1 (λ m k. all m (subst (λ note. Contains note m) s.has_note k)) in
          let f = c.if-all_go_well.false in cc),
      λ other at lt.
          others s.app.now s.notes.now s.point s.instr.now c.args.way s.has_instr c.in-At.target d.0 d.1 other (λ e. let q = ap (λ t. point_number s.app.now t) e in omega (arith, n.1, lt)),
    )

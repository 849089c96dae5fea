-- What was found of the instruction that was read is said of the one at its line.
use Rattle.std.proofs.lemmas.Result.{err_from_is_err_and}
use Rattle.fr_program.specs.InstrFault.{IsInstrFaultless}
use Rattle.fr_program.specs.View.{actor_of, program_of}
use Rattle.fr_program.specs.declared.instr.Instr.{Instr}
use Rattle.fr_program.proofs.ListLemmas.{each_more}
use Rattle.fr_program.proofs.FaultLemmas.{has_fault_in}
use Rattle.fr_program.proofs.check.check_code_of.Goals as goal

pub returns-in_err-check_instr-clause-err : goal.returns-in_err-check_instr-clause-err
returns-in_err-check_instr-clause-err c =
    let p = err_from_is_err_and c.from_residual.result c.from_residual.ensures.1 in
    rw (p.1, p.2)
    (has_fault_in (program_of c.args.parts.now) c.args.a (actor_of c.args.actor.now) c.deref-instr-items.result.now c.loop-pc.pc _ _ c.deref-instr-items.ensures.value c.loop-pc-test.true c.in_err-check_instr.ensures.err)

pub loop-pc-preserved : goal.loop-pc-preserved
loop-pc-preserved c =
    let F = λ (i : Instr). IsInstrFaultless (program_of c.args.parts.now) c.args.a.0 (actor_of c.args.actor.now) i in
    each_more F c.args.actor.now.code.items c.deref-instr-items.result.now c.loop-pc.pc _ c.deref-instr-items.ensures.value c.loop-pc-test.true c.loop-pc.invariant c.in_ok-check_instr.ensures.ok

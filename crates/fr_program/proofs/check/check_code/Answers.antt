-- The actor that was read is the one with its number, so what holds along its code holds at its places.
use Rattle.std.proofs.Common.{◌≡◌, ℕ, Some, length, ap, arith, below_more}
use Rattle.std.proofs.lemmas.List.{length-map}
use Rattle.std.proofs.lemmas.Result.{err_from_is_err_and}
use Rattle.fr_program.specs.declared.instr.Instr.{Instr}
use Rattle.fr_program.specs.Lookup.{actor_at, instr_at}
use Rattle.fr_program.specs.InstrFault.{IsInstrFaultless}
use Rattle.fr_program.specs.View.{actor_of, program_of}
use Rattle.fr_program.proofs.ListLemmas.{read_same}
use Rattle.fr_program.proofs.FaultLemmas.{fault_at}
use Rattle.fr_program.proofs.InstrLemmas.{actor_at-read, instr_at-within, places-from_code}
use Rattle.fr_program.proofs.check.check_code.Goals as goal

pub returns-in_err-check_code_of-clause-err : goal.returns-in_err-check_code_of-clause-err
returns-in_err-check_code_of-clause-err c =
    let P = program_of c.args.parts.now in
    let actors = c.args.parts.now.actors.items in
    let actor = c.actor-item.result in
    let same = ap (λ xs. length xs) c.deref-actor-items.ensures.value in
    let is = actor_at-read actors c.loop-a.a actor (omega arith) (read_same actors _ c.loop-a.a actor c.deref-actor-items.ensures.value c.actor-item.is) in
    let p = err_from_is_err_and c.from_residual.result c.from_residual.ensures.1 in
    let has = c.in_err-check_code_of.ensures.err in
    rw (p.1, p.2) (fault_at P (record { actor = record { 0 = c.loop-a.a }; pc = has.0 }) (actor_of actor) has.1 c.in_err-check_code_of.field-0.0 is has.2 has.3)

pub loop-a-preserved : goal.loop-a-preserved
loop-a-preserved c =
    let P = program_of c.args.parts.now in
    let actors = c.args.parts.now.actors.items in
    let actor = c.actor-item.result in
    let a = c.loop-a.a in
    let same = ap (λ xs. length xs) c.deref-actor-items.ensures.value in
    let is = actor_at-read actors a actor (omega arith) (read_same actors _ a actor c.deref-actor-items.ensures.value c.actor-item.is) in
    below_more (λ n. (pc : ℕ) (i : Instr) → instr_at P n pc ≡ Some i → IsInstrFaultless P n (actor_at P n) i) a c.loop-a.invariant
    (places-from_code P (λ x i. IsInstrFaultless P a x i) a (actor_of actor) is c.in_ok-check_code_of.ensures.ok)

pub returns-clause-ok : goal.returns-clause-ok
returns-clause-ok c = λ a pc i at.
    let within = instr_at-within (program_of c.args.parts.now) a pc i at in
    let n = length-map c.args.parts.now.actors.items actor_of in
    let same = ap (λ xs. length xs) c.deref-actor-items.ensures.value in
    c.loop-a.invariant a (omega (arith, n, same)) pc i at

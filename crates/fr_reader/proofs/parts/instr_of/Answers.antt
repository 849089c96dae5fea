use Rattle.std.proofs.Common.{◌≡◌, refl, subst, sym, false}
use Rattle.std.proofs.lemmas.Bool.{false≢true}
use Rattle.fr_instr.specs.declared.fault.LineFault.{LineFault}
use Rattle.fr_reader.specs.Faults.{is_memory}
use Rattle.fr_reader.specs.declared.fault.ReadFault.TheVariants as fault
use Rattle.fr_reader.proofs.parts.instr_of.Goals as goal

pub returns-in_ok-from_str-in-Err-clause-err : goal.returns-in_ok-from_str-in-Err-clause-err
returns-in_ok-from_str-in-Err-clause-err c named =
    let P : LineFault → Type 0 = λ f. is_memory (fault.Line c.in_ok-from_str-in-Err.field-0 c.args.index f) ≡ false in
    (c.in_ok-from_str-in-Err.ensures.ok, refl, c.in-Err.ensures.err (λ e. false≢true (sym (subst P e named))))

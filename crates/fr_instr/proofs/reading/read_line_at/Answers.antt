use Rattle.std.proofs.Common.{List, ℕ, Ok, subst}
use Rattle.fr_program.specs.declared.instr.Instr.TheVariants as line
use Rattle.fr_instr.specs.Lines.{IsLine}
use Rattle.fr_instr.specs.declared.fault.LineFaultAt.{LineFaultAt}
use Rattle.fr_instr.proofs.LineLaws.{line_one, line_within, line_none}
use Rattle.fr_instr.proofs.reading.read_line_at.Goals as goal

pub returns-in-Some-clause-ok : goal.returns-in-Some-clause-ok
returns-in-Some-clause-ok c =
    let P : List ℕ → Type 0 = λ t. IsLine c.args.names.now t (line.Call c.in-Some.call) in
    subst P c.as_bytes.ensures.value c.in-Some.ensures

pub returns-in-Some-clause-one : goal.returns-in-Some-clause-one
returns-in-Some-clause-one c = line_one c.args.names.now c.args.text.now {E = LineFaultAt} (Ok (line.Call c.in-Some.call)) (returns-in-Some-clause-ok c)

pub returns-in-Some-clause-within : goal.returns-in-Some-clause-within
returns-in-Some-clause-within c = line_within c.args.names.now c.args.text.now {E = LineFaultAt} (Ok (line.Call c.in-Some.call)) (returns-in-Some-clause-ok c)

pub returns-clause-one : goal.returns-clause-one
returns-clause-one c = line_one c.args.names.now c.args.text.now c.line_by_tokens.result c.line_by_tokens.ensures.ok

pub returns-clause-within : goal.returns-clause-within
returns-clause-within c = line_within c.args.names.now c.args.text.now c.line_by_tokens.result c.line_by_tokens.ensures.ok

pub returns-clause-none : goal.returns-clause-none
returns-clause-none c = line_none c.args.names.now c.args.text.now c.line_by_tokens.result c.line_by_tokens.ensures.err

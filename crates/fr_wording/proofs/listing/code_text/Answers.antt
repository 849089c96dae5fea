-- The instruction at the point is one of the application's lines, so that it can be written.
use Rattle.std.proofs.Common.{◌≡◌, ◌∙◌, Some, None, [], refl, sym, subst}
use Rattle.std.proofs.lemmas.Result.{IfOk-weaker}
use Rattle.fr_program.specs.declared.ids.Point.{Point}
use Rattle.fr_program.specs.declared.instr.Instr.{Instr}
use Rattle.fr_program.specs.Lookup.{instr_of}
use Rattle.fr_program.specs.Program.{Program}
use Rattle.fr_instr.specs.AppNames.{names_in}
use Rattle.fr_instr.specs.Lines.{IsLineIn}
use Rattle.fr_instr.specs.Names.{NamesOf}
use Rattle.fr_instr.specs.WrittenLine.{written_line}
use Rattle.fr_instr.proofs.AppLines.{line-in}
use Rattle.fr_wording.specs.Listing.{code_text}
use Rattle.fr_wording.proofs.listing.code_text.Goals as goal

at-some : (P : Program) (p : Point) (i : Instr) → instr_of P p ≡ Some i → code_text P p ≡ written_line (names_in P) i
at-some P p i e = rw (e, code_text) refl

at-none : (P : Program) (p : Point) → instr_of P p ≡ None → code_text P p ≡ []
at-none P p e = rw (e, code_text) refl

pub write_line-requires : goal.write_line-requires
write_line-requires c =
    let P = c.args.app.now in
    let p = c.args.point in
    let i = c.in-Some.instr.now in
    subst (λ N. IsLineIn N i) (sym c.requires) (line-in P p.actor.0 p.pc i c.recall_faultless.ensures (sym c.in-Some.ensures))

pub returns-in-Some : goal.returns-in-Some
returns-in-Some c =
    let P = c.args.app.now in
    let i = c.in-Some.instr.now in
    let here = subst (λ (N : NamesOf). code_text P c.args.point ≡ written_line N i) (sym c.requires) (at-some P c.args.point i (sym c.in-Some.ensures)) in
    IfOk-weaker c.write_line.result _ _ (λ s e. e ∙ sym here) c.write_line.ensures.written

pub returns-in-None : goal.returns-in-None
returns-in-None c =
    let here = at-none c.args.app.now c.args.point (sym c.in-None.ensures) in
    c.new.ensures.bytes ∙ sym here

use Rattle.std.proofs.Common.{ℕ, ◌<◌, List, Some, length, map, get_or, ap, ◌∙◌, Bor, arith}
use Rattle.std.proofs.lemmas.List.{get_or-map, length-map}
use Rattle.std.proofs.lemmas.Option.{slice_get-get_or}
use Rattle.std.proofs.lemmas.Result.{err_from_is_err_and}
use Rattle.fr_instr.specs.Lines.{IsLine}
use Rattle.fr_instr.specs.Names.{NamesOf}
use Rattle.fr_reader.specs.Faults.{Standing}
use Rattle.fr_reader.specs.Stands.{InLine, InLines}
use Rattle.fr_reader.specs.Views.{line_text}
use Rattle.fr_reader.specs.declared.fault.ReadFault.{ReadFault}
use Rattle.fr_reader.proofs.ZipLemmas.{zip_line}
use Rattle.fr_reader.proofs.parts.code_of.Goals as goal

-- a fault of one line is a fault of the lines
line_wrong : (N : NamesOf) (actor : List ℕ) (lines : List (Bor (List ℕ))) (i : ℕ) (d : Bor (List ℕ)) (f : ReadFault) → i < length lines → Standing (InLine N actor i (line_text (get_or lines i d))) f
    → Standing (InLines N actor (map line_text lines)) f
line_wrong N actor lines i d f within standing named =
    let there : i < length (map line_text lines) = omega (arith, length-map lines line_text) in
    (i, line_text (get_or lines i d), slice_get-get_or (map line_text lines) i (line_text d) there ∙ ap Some (get_or-map line_text lines i d (line_text d) within), standing named)

pub returns-in_err-instr_once-clause-err : goal.returns-in_err-instr_once-clause-err
returns-in_err-instr_once-clause-err c =
    let p = err_from_is_err_and c.from_residual.result c.from_residual.ensures.1 in
    rw (p.1, p.2) (line_wrong c.args.names.now c.args.actor.now c.args.lines.now c.loop-index.index _ c.in_err-instr_once.field-0.0 c.loop-index-test.true c.in_err-instr_once.ensures.err)

pub loop-index-preserved : goal.loop-index-preserved
loop-index-preserved c = (
  zip_line (IsLine c.args.names.now) line_text c.args.lines.now c.loop-index.index _ c.loop-index.code.items c.push.new.self.items c.in_ok-instr_once.field-0
      c.loop-index-test.true c.loop-index.invariant.0 c.in_ok-instr_once.ensures.ok c.in_ok-push.ensures.items,
  c.in_ok-instr_once.ensures.recent,
)

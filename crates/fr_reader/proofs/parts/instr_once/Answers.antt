use Rattle.std.proofs.Common.{◌≡◌, ℕ, List, Bor, sym, subst}
use Rattle.std.specs.Prelude.{All, Any}
use Rattle.std.proofs.lemmas.List.Elements.{All-push}
use Rattle.fr_program.specs.declared.instr.Instr.{Instr}
use Rattle.fr_instr.specs.Lines.{IsLine}
use Rattle.fr_instr.specs.Names.{NamesOf}
use Rattle.fr_reader.proofs.parts.instr_once.Goals as goal

abbrev Entry : Type 0
Entry = Bor (List ℕ) × Instr

remembered : (N : NamesOf) (recent : List Entry) (line : List ℕ) (i : Instr) → All (λ e. IsLine N e.0.now e.1) recent → Any (λ e. (e.0.now ≡ line) × (e.1 ≡ i)) recent → IsLine N line i
remembered N recent line i all (k, e, within, is, (same, instr)) =
    let here : IsLine N e.0.now e.1 = subst (λ (x : Entry). IsLine N x.0.now x.1) is (all k e within) in
    subst (λ t. IsLine N t i) same (subst (λ j. IsLine N e.0.now j) instr here)

pub returns-in-Some-clause-ok : goal.returns-in-Some-clause-ok
returns-in-Some-clause-ok c =
    let found = subst (λ (es : List Entry). Any (λ e. (e.0.now ≡ c.args.line.now) × (e.1 ≡ c.in-Some.instr)) es) c.deref.ensures.value c.in-Some.ensures in
    remembered c.args.names.now c.args.recent.now.items c.args.line.now c.in-Some.instr c.requires found

pub returns-clause-recent : goal.returns-clause-recent
returns-clause-recent c =
    let N = c.args.names.now in
    let kept = c.make_room.ensures N c.requires in
    subst (λ (es : List Entry). All (λ e. IsLine N e.0.now e.1) es) (sym c.in_ok-push.ensures.items) (All-push (λ (e : Entry). IsLine N e.0.now e.1) c.make_room.new.recent.items (c.args.line, c.in_ok-instr.instr) kept c.in_ok-instr.ensures.ok)

use Rattle.std.proofs.Common.{◌≡◌, arith, map, ap, subst, sym, ◌∙◌}
use Rattle.std.specs.Str.Lines.{lines}
use Rattle.std.specs.Vec.{vec_len}
use Rattle.std.proofs.lemmas.Bool.Decides.{nat_tests}
use Rattle.std.proofs.lemmas.List.{nil_from_length}
use Rattle.fr_list.specs.Means.{entries_in, shown}
use Rattle.fr_list.proofs.LineLaws.{told-nothing}
use Rattle.fr_list.proofs.listed.listed_in.Goals as goal

pub returns-then-is_empty-clause-fault : goal.returns-then-is_empty-clause-fault
returns-then-is_empty-clause-fault c =
    let entries = c.in_ok-entries.entries in
    let none : vec_len entries ≡ 0 = grind (arith, nat_tests) in
    let named = subst (λ text. map shown entries.items ≡ entries_in (lines text)) c.in-Ok.ensures.cases.0 c.in_ok-entries.ensures.named in (
      (c.if-bytes-gt-MOST_LIST_BYTES.false, c.in-Ok.ensures.cases.1),
      told-nothing (lines c.args.bytes.now) (sym named ∙ ap (map shown) (nil_from_length entries.items (omega (arith, entries.ok.0)))),
    )

-- At each place is the row of its variable.
use Rattle.std.proofs.Common.{◌≡◌, ◌<◌, ℕ, Some, length, sym, ap, ◌∙◌, subst, arith}
use Rattle.std.specs.Prelude.{Option, IfOk, IfSome}
use Rattle.fr_interfere.proofs.Terms.{AllZip, range_with_len, length-map, IfOk-then, nat_range-All, variable_of, list_at, IsRow}
use Rattle.fr_interfere.specs.declared.rows.Row.{Row}
use Rattle.fr_interfere.proofs.RowLaws.{made-list}
use Rattle.fr_interfere.proofs.rows.writer_rows_by.Goals as goal

pub collect-requires-clause-ready : goal.collect-requires-clause-ready
collect-requires-clause-ready g c κs within =
    let ends = c.into_par_iter.ensures in
    let n = length c.args.app.now.variables in
    let inside = nat_range-All (λ i. i < n) 0 n (λ i low high. high) in
    let count : c.into_par_iter.result.end ≡ n = ends.1 ∙ (sym (length-map c.variables-variables.result.now variable_of) ∙ ap (λ xs. length xs) c.variables-variables.ensures) in
    rw (c.map.ensures.base, c.with_min_len.ensures.base, c.map.ensures.f, ends.0, count) (λ k d lt. ((inside k d lt, (c.requires.fit, c.requires.index)), λ y e. tt))

pub returns : goal.returns
returns g c =
    let h = c.in_ok-rows.ensures in
    let ends = c.into_par_iter.ensures in
    let P = c.args.app.now in
    let notes = c.args.notes.now in
    let lists = c.args.index.now.writers in
    let n = length P.variables in
    let count : c.into_par_iter.result.end ≡ n = ends.1 ∙ (sym (length-map c.variables-variables.result.now variable_of) ∙ ap (λ xs. length xs) c.variables-variables.ensures) in
    let list : h.1.0 ≡ range_with_len 0 n = rw (h.1.1, c.map.ensures.base, c.with_min_len.ensures.base, ends.0, count) (ap (λ m. range_with_len 0 m) (omega arith)) in
    let zip = rw c.map.ensures.f at h.1.2 in
    let each = subst (λ ns. AllZip (λ k r. IfOk r (λ row. IfSome row (λ r. IsRow P notes (list_at lists k) r))) ns h.0) list zip in
    let IsFor : ℕ → Option Row → Type 0 = λ k o. IfSome o (λ r. IsRow P notes (list_at lists k) r) in
    IfOk-then c.in_ok-rows.rows _ _ (made-list _ IsFor (λ v. v.items) c.in_ok-rows.rows h.0 n each h.2) (λ v made k row is. made.1 k (Some row) is)

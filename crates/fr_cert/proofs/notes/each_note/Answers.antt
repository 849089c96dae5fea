use Rattle.std.proofs.Common.{◌≡◌, ◌∙◌, [], ◌∷◌, ◌++◌, length, append_assoc, append-nil, sym, ap, subst, arith, rules}
use Rattle.fr_cert.proofs.Terms.{nil_from_length, view, items_view, get_item, AreReadBy, at, InNote}
use Rattle.fr_cert.proofs.FaultLemmas.{within_of}
use Rattle.fr_cert.proofs.ReadLemmas.{count_read, entry_behind}
use Rattle.fr_cert.proofs.notes.each_note.Goals as goal

pub loop-value-init : goal.loop-value-init
loop-value-init c =
    let all : c.into_iter-value-iterator.result.rest.items ≡ c.args.list.items = search rules in
    ([], sym all, c.none-notes.ensures c.args.scope.now c.args.version)

pub returns-in-Err-clause-err : goal.returns-in-Err-clause-err
returns-in-Err-clause-err c named =
    let inv = c.loop-value.invariant in
    let front = inv.0 in
    let v = c.in-Some.value in
    let rest = c.next.new.self.rest.items in
    let whole : c.args.list.items ≡ front ++ v ∷ rest = inv.1 ∙ ap (λ t. front ++ t) c.in-Some.ensures.steps.0 in
    let r = c.loop-value.notes in
    let count : c.len-index.result ≡ length r.places.items = search rules in
    let many = count ∙ count_read c.args.scope.now c.args.version front r.notes.items r.places.items r.recent.items inv.2 in (
      c.len-index.result,
      view v,
      ap (λ vs. get_item c.len-index.result (items_view vs)) whole ∙ (ap (λ i. get_item i (items_view (front ++ v ∷ rest))) many ∙ entry_behind front v rest),
      within_of (at c.len-index.result) (InNote c.args.scope.now c.args.version (view v)) c.in-Err.fault c.within_position.result c.in-Err.ensures.err named (c.within_position.ensures named),
    )

pub loop-value-preserved : goal.loop-value-preserved
loop-value-preserved c =
    let inv = c.loop-value.invariant in
    let front = inv.0 in
    let v = c.in-Some.value in
    let rest = c.next.new.self.rest.items in (
      front ++ v ∷ [],
      inv.1 ∙ ap (λ t. front ++ t) c.in-Some.ensures.steps.0 ∙ sym (append_assoc front (v ∷ []) rest),
      c.in-Ok.ensures.read front inv.2,
    )

pub returns-clause-read : goal.returns-clause-read
returns-clause-read c =
    let inv = c.loop-value.invariant in
    let left = c.loop-value.value-iterator.rest in
    let none : left.items ≡ [] = nil_from_length left.items (omega (arith, c.in-None.ensures.steps.0, left.ok)) in
    let all : c.args.list.items ≡ inv.0 = inv.1 ∙ ap (λ t. inv.0 ++ t) none ∙ append-nil inv.0 in
    subst (λ vs. AreReadBy c.args.scope.now c.args.version vs c.loop-value.notes) (sym all) inv.2

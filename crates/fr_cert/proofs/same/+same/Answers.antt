use Rattle.std.proofs.Common.{◌≡◌, ◌∙◌, ◌<◌, ◌≤◌, length, get_or, sym, ap, subst, arith, rules}
use Rattle.fr_cert.proofs.Terms.{drop_all, string, number, view, items_view, number_view, the_lemmas}
use Rattle.fr_cert.proofs.SameLemmas.{is-text, items-more}
use Rattle.fr_cert.proofs.same.+same.Goals as goal

pub is_same-returns-in-Number : goal.is_same-returns-in-Number
is_same-returns-in-Number t c = λ yes.
    let seen : number (number_view c.in-Number.number) ≡ view c.args.value.now = rw c.in-Number.is (search (rules, the_lemmas)) in
    sym seen ∙ sym (c.is_number.ensures yes)

pub is_same-returns-in-String : goal.is_same-returns-in-String
is_same-returns-in-String t c = λ yes.
    let text = c.as_str.result.now in
    let seen : string text ≡ view c.args.value.now = rw c.in-String.is (search (rules, the_lemmas)) in
    sym seen ∙ sym (is-text (view c.args.other.now) text (c.is_text.ensures.0 yes))

pub are_same_items-loop-index-preserved : goal.are_same_items-loop-index-preserved
are_same_items-loop-index-preserved t c = λ rest.
    let vs = c.args.items.now.items in
    let ws = c.args.others.now.items in
    let i = c.loop-index.index in
    let v = c.item-item.result in
    let w = c.index.result.now in
    let same = c.deref-item-items.ensures.value in
    let in_vs : i < length vs = subst (λ us. i < length us) same c.loop-index-test.true in
    let in_ws : i < length ws = omega arith in
    c.loop-index.invariant (items-more vs ws i v w in_vs in_ws (c.item-item.is ∙ ap (λ us. get_or us i v) same) c.index.ensures (c.is_same.ensures c.if-not-is_same.false) rest)

pub are_same_items-returns : goal.are_same_items-returns
are_same_items-returns t c = λ _.
    let vs = c.args.items.now.items in
    let ws = c.args.others.now.items in
    let i = c.loop-index.index in
    let past_vs : length vs ≤ i = omega arith in
    let past_ws : length ws ≤ i = omega arith in
    c.loop-index.invariant (ap items_view (drop_all i vs past_vs) ∙ sym (ap items_view (drop_all i ws past_ws)))

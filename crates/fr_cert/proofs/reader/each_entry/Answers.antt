use Rattle.std.proofs.Common.{◌≡◌, ◌<◌, ◌+◌, ◌++◌, ◌∷◌, [], Any, AllPairs, length, map, take, sym, ap, ◌∙◌, subst, inl, inr, arith}
use Rattle.std.proofs.lemmas.List.{map_push}
use Rattle.fr_cert.proofs.Terms.{get_or-map, length-map, items_view, view, at, EachEntry, deeper}
use Rattle.fr_cert.proofs.EntryLemmas.{entry_here, entries_more, earlier}
use Rattle.fr_cert.proofs.FaultLemmas.{within_of}
use Rattle.fr_cert.proofs.TwiceLemmas.{apart_more}
use Rattle.fr_cert.proofs.reader.each_entry.Goals as goal

pub returns-in-Some-clause-err : goal.returns-in-Some-clause-err
returns-in-Some-clause-err g c named =
    let M = g.E.Entry.Means c.args.reader.now c.args.scope.now in
    let seen = g.E.Entry.seen in
    let vs = c.args.list.now.items in
    let i = c.loop-index.index in
    let xs = c.loop-index.items.items in
    let x = c.in-Ok.item in
    let same = c.deref-value-items.ensures.value in
    let within = c.loop-index-test.true in
    let alike : Any (λ y. g.E.Entry.AreAlike (seen y) (seen x)) xs = subst (Any (λ y. g.E.Entry.AreAlike (seen y) (seen x))) c.deref.ensures.value c.in-Some.ensures.some.1 in
    let before : alike.0 < length (map seen xs) = omega (arith, alike.2, length-map xs seen) in
    let one = earlier M vs _ i (map seen xs) alike.0 c.value-item.result (seen x) same within c.loop-index.invariant.said before in
    inr (
      alike.0,
      i,
      one.entry,
      view c.value-item.result,
      seen alike.1,
      seen x,
      one.before,
      one.there,
      entry_here vs _ i c.value-item.result same within c.value-item.is,
      subst (M one.entry) (get_or-map seen xs alike.0 alike.1 (seen x) alike.2 ∙ ap seen alike.3) one.means,
      c.in-Ok.ensures.ok,
      alike.4,
      c.within_position.ensures named ∙ ap (deeper (at i)) c.in-Some.ensures.some.0,
    )

pub returns-in-Err-clause-err : goal.returns-in-Err-clause-err
returns-in-Err-clause-err g c named =
    let vs = c.args.list.now.items in
    let i = c.loop-index.index in
    let d = view c.value-item.result in
    let F = g.E.Entry.Faults c.args.reader.now c.args.scope.now d in
    inl (
      i,
      d,
      entry_here vs _ i c.value-item.result c.deref-value-items.ensures.value c.loop-index-test.true c.value-item.is,
      within_of (at i) F c.in-Err.fault c.within_position-in-Err.result c.in-Err.ensures.err named (c.within_position-in-Err.ensures named),
    )

pub loop-index-preserved : goal.loop-index-preserved
loop-index-preserved g c =
    let M = g.E.Entry.Means c.args.reader.now c.args.scope.now in
    let R = g.E.Entry.AreAlike in
    let seen = g.E.Entry.seen in
    let vs = c.args.list.now.items in
    let i = c.loop-index.index in
    let xs = c.loop-index.items.items in
    let x = c.in-Ok.item in
    let inv = c.loop-index.invariant in
    let more : map seen c.push.new.self.items ≡ map seen xs ++ seen x ∷ [] = ap (map seen) c.in_ok-push-in-None.ensures.items ∙ map_push seen xs x in
    let said = entries_more M vs _ i c.value-item.result (map seen xs) (seen x) c.deref-value-items.ensures.value c.loop-index-test.true c.value-item.is inv.said c.in-Ok.ensures.ok in
    let apart = apart_more R seen xs x inv.apart (subst (λ ys. Any (λ y. R (seen y) (seen x)) ys → ⊥) c.deref.ensures.value c.in-None.ensures.none) in
    record {
      said = subst (EachEntry M (items_view (take (i + 1) vs))) (sym more) said;
      apart = subst (AllPairs (λ y z. R y z → ⊥)) (sym more) apart;
    }

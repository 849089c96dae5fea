use Rattle.std.proofs.Common.{◌∷◌, [], ◌++◌, List, String, Global, string_bytes, append_assoc, append-nil, sym, ap, ◌∙◌, subst, rules, IsTrue}
use Rattle.fr_cert.proofs.Terms.{AllByRecursion, keys_of, deref, rest_more, rest_all, is_key_of}
use Rattle.fr_cert.proofs.KeyLemmas.{key_found, each_known, known_push}
use Rattle.fr_cert.proofs.tree.known_keys.Goals as goal

pub loop-name-init : goal.loop-name-init
loop-name-init c = ([], search rules, tt)

pub returns-then-not-is_key_of-clause-err : goal.returns-then-not-is_key_of-clause-err
returns-then-not-is_key_of-clause-err c named =
    let next = rest_more deref c.loop-name.name-iterator c.next.new.self c.next.result c.in-Some.name c.in-Some.is c.next.ensures.steps in
    let inv = c.loop-name.invariant in
    let found = key_found inv.0 c.next.new.self c.in-Some.name.now c.args.map.now.entries (inv.1 ∙ ap (λ t. inv.0 ++ t) next) in (
      c.as_str-then-not-is_key_of.result.now,
      found.0,
      rw c.as_str-then-not-is_key_of.ensures.value found.1,
      ap (is_key_of c.args.place) (c.as_str-then-not-is_key_of.ensures.value ∙ sym c.as_str.ensures.value) ∙ sym c.is_key_of.ensures ∙ c.if-not-is_key_of.true,
      c.departs_at.ensures named,
    )

pub loop-name-preserved : goal.loop-name-preserved
loop-name-preserved c =
    let next = rest_more deref c.loop-name.name-iterator c.next.new.self c.next.result c.in-Some.name c.in-Some.is c.next.ensures.steps in
    let inv = c.loop-name.invariant in (
      inv.0 ++ c.in-Some.name.now ∷ [],
      inv.1 ∙ ap (λ t. inv.0 ++ t) next ∙ sym (append_assoc inv.0 (c.in-Some.name.now ∷ []) c.next.new.self),
      known_push (λ k. IsTrue (is_key_of c.args.place (string_bytes k))) inv.0 c.in-Some.name.now inv.2 (ap (is_key_of c.args.place) (sym c.as_str.ensures.value) ∙ sym c.is_key_of.ensures ∙ c.if-not-is_key_of.false),
    )

pub returns-clause-ok : goal.returns-clause-ok
returns-clause-ok c =
    let end = rest_all deref c.loop-name.name-iterator c.next.new.self c.next.result c.in-None.is c.next.ensures.steps in
    let inv = c.loop-name.invariant in
    let P : List (String Global) → Type 0 = AllByRecursion (λ k. IsTrue (is_key_of c.args.place (string_bytes k))) in
    let all : P (keys_of c.args.map.now.entries) = subst P (sym (inv.1 ∙ ap (λ t. inv.0 ++ t) end ∙ append-nil inv.0)) inv.2 in
    each_known (λ k. IsTrue (is_key_of c.args.place k)) c.args.map.now.entries all

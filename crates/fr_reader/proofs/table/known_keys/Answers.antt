use Rattle.std.proofs.Common.{◌≡◌, ◌∷◌, [], ◌++◌, List, String, Global, string_bytes, append_assoc, append-nil, refl, sym, ap, ◌∙◌, subst, rules, IsTrue}
use Rattle.std.specs.List.{AllByRecursion}
use Rattle.std.specs.Map.{keys_of}
use Rattle.std.specs.Map.Iter.{deref}
use Rattle.std.proofs.lemmas.Map.Iter.{rest_more, rest_all}
use Rattle.fr_reader.specs.Keys.{is_key_of}
use Rattle.fr_reader.proofs.KeyLemmas.{key_found, each_known, known_push}
use Rattle.fr_reader.proofs.table.known_keys.Goals as goal

pub loop-text-init : goal.loop-text-init
loop-text-init c = ([], search rules, tt)

pub returns-then-not-is_key_of-clause-err : goal.returns-then-not-is_key_of-clause-err
returns-then-not-is_key_of-clause-err c _ =
    let next = rest_more deref c.loop-text.text-iterator c.next.new.self c.next.result c.in-Some.text c.in-Some.is c.next.ensures.steps in
    let inv = c.loop-text.invariant in
    let found = key_found inv.0 c.next.new.self c.in-Some.text.now c.args.table.now.entries (inv.1 ∙ ap (λ t. inv.0 ++ t) next) in
    let same : string_bytes c.in_ok-from_str.field-0 ≡ string_bytes c.in-Some.text.now =
    c.in_ok-from_str.ensures.ok ∙ c.as_str-then-not-is_key_of.ensures.value in (
      refl,
      found.0,
      rw same found.1,
      ap (is_key_of c.args.kind) (same ∙ sym c.as_str.ensures.value) ∙ sym c.is_key_of.ensures ∙ c.if-not-is_key_of.true,
    )

pub loop-text-preserved : goal.loop-text-preserved
loop-text-preserved c =
    let next = rest_more deref c.loop-text.text-iterator c.next.new.self c.next.result c.in-Some.text c.in-Some.is c.next.ensures.steps in
    let inv = c.loop-text.invariant in (
      inv.0 ++ c.in-Some.text.now ∷ [],
      inv.1 ∙ ap (λ t. inv.0 ++ t) next ∙ sym (append_assoc inv.0 (c.in-Some.text.now ∷ []) c.next.new.self),
      known_push (λ k. IsTrue (is_key_of c.args.kind (string_bytes k))) inv.0 c.in-Some.text.now inv.2 (ap (is_key_of c.args.kind) (sym c.as_str.ensures.value) ∙ sym c.is_key_of.ensures ∙ c.if-not-is_key_of.false),
    )

pub returns-clause-ok : goal.returns-clause-ok
returns-clause-ok c =
    let end = rest_all deref c.loop-text.text-iterator c.next.new.self c.next.result c.in-None.is c.next.ensures.steps in
    let inv = c.loop-text.invariant in
    let P : List (String Global) → Type 0 = AllByRecursion (λ k. IsTrue (is_key_of c.args.kind (string_bytes k))) in
    let all : P (keys_of c.args.table.now.entries) = subst P (sym (inv.1 ∙ ap (λ t. inv.0 ++ t) end ∙ append-nil inv.0)) inv.2 in
    each_known (λ k. IsTrue (is_key_of c.args.kind k)) c.args.table.now.entries all

use Rattle.std.proofs.Common.{◌≡◌, ◌∙◌, ◌<◌, ◌≤◌, ◌+◌, Vec, Global, drop, length, get_or, map, sym, ap, subst, arith}
use Rattle.fr_cert.proofs.Terms.{get_or_default, string, items_view, Value, object_of, NotHeld, says, names_where}
use Rattle.fr_cert.proofs.WrittenLemmas.{behind, name_more, name_less, names_end}
use Rattle.fr_cert.proofs.written_notes.names_value.Goals.{then-says+in_ok-name+in_ok-push, else-says}
use Rattle.fr_cert.proofs.written_notes.names_value.Goals as goal

pub loop-index-preserved : goal.loop-index-preserved
loop-index-preserved c =
    let i = c.loop-index.index in
    let in_cs : i < length c.args.claims.now = c.loop-index-test.true in
    let in_os : i < length c.args.objects.now = omega (arith, in_cs, c.requires) in
    let test = says c.args.life in
    let os = c.args.objects.now in
    let cs = c.args.claims.now in
    let claim = get_or cs i NotHeld in
    let is_claim : claim ≡ get_or cs i claim = get_or_default cs i NotHeld claim in_cs in
    let Left : Vec Value Global → Type 0 = λ names. behind (items_view names.items) (names_where test (map object_of (drop (i + 1) os)) (drop (i + 1) cs)) ≡ names_where test (map object_of os) cs in
    elim c.if-says.branch [
      | then-says+in_ok-name+in_ok-push w ↦
          subst Left (sym w.names-is)
          (name_more test os cs i w.index-objects-index.result claim c.loop-index.names.items w.push.new.self.items w.in_ok-name.name _ in_os in_cs w.index-objects-index.is is_claim
          (sym c.says.ensures ∙ w.if-says.true) (w.in_ok-name.ensures ∙ (ap string w.as_str.ensures.value ∙ ap (λ o. string (object_of o).name) (sym w.index-objects-index.is))) w.in_ok-push.ensures.items c.loop-index.invariant)
      | else-says w ↦
          subst Left (sym w.names-is) (name_less test os cs i claim c.loop-index.names.items _ in_os in_cs is_claim (sym c.says.ensures ∙ w.if-says.false) c.loop-index.invariant)
    ]

pub returns : goal.returns
returns c =
    let end : length c.args.claims.now ≤ c.loop-index.index = c.loop-index-test.false in
    let past : length c.args.objects.now ≤ c.loop-index.index = omega (arith, end, c.requires) in
    names_end (says c.args.life) c.args.objects.now c.args.claims.now c.loop-index.index c.loop-index.names.items _ past c.loop-index.invariant

use Rattle.std.proofs.Common.{◌≡◌, ◌<◌, ◌∙◌, sym, ℕ, List, [], Bor, string_bytes, length, get_or, arith}
use Rattle.std.proofs.lemmas.List.{get_or-map, length-map}
use Rattle.std.specs.List.{list_any}
use Rattle.std.specs.Str.{bytes_eq}
use Rattle.fr_instr.specs.Views.{texts}
use Rattle.fr_instr.proofs.NameLaws.{fresh, one_more}
use Rattle.fr_instr.proofs.names.numbered.Goals as goal

pub loop-name-preserved : goal.loop-name-preserved
loop-name-preserved c =
    let i = c.loop-name.name-index in
    let names = c.args.names.now in
    let value = c.in_ok-from_str.field-0 in
    let here : i < length names = omega arith in
    let within : i < length (texts names) = omega (arith, length-map names (λ (t : Bor (List ℕ)). t.now)) in
    let is : string_bytes value ≡ get_or (texts names) i [] = c.in_ok-from_str.ensures.ok ∙ sym (get_or-map (λ (t : Bor (List ℕ)). t.now) names i _ [] here) in
    one_more c.loop-name.set.keys c.insert.new.self.keys value (list_any (λ k. bytes_eq (string_bytes value) (string_bytes k)) c.loop-name.set.keys) (texts names) i c.in_ok-insert.ensures.keys
    (fresh c.loop-name.set.keys value (texts names) i c.requires c.loop-name.invariant within is) c.loop-name.invariant within is

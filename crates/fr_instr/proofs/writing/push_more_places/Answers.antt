use Rattle.std.proofs.Common.{◌++◌, ◌∷◌, ◌∙◌, ap, map, string_bytes}
use Rattle.std.proofs.lemmas.List.{take_all}
use Rattle.fr_instr.specs.WrittenLine.{place_word, more_text}
use Rattle.fr_instr.proofs.WrittenLineLaws.{more_turn}
use Rattle.fr_instr.proofs.writing.push_more_places.Goals as goal

pub loop-place-preserved : goal.loop-place-preserved
loop-place-preserved c =
    more_turn (place_word c.args.names.now c.args.given.now) c.args.places.now c.loop-place.place-index _ (string_bytes c.args.out.now) (string_bytes c.loop-place.out) (string_bytes c.push_all.new.out) c.loop-place-test.true
    c.loop-place.invariant (c.in_ok-push_all.ensures ∙ ap (λ x. string_bytes c.loop-place.out ++ (44 ∷ 32 ∷ x)) c.place_text-text.ensures)

pub returns : goal.returns
returns c = c.loop-place.invariant ∙ ap (λ l. string_bytes c.args.out.now ++ more_text (map (place_word c.args.names.now c.args.given.now) l)) (take_all c.loop-place.place-index c.args.places.now c.loop-place-test.false)

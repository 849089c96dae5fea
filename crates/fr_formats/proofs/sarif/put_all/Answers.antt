use Rattle.std.proofs.Common.{[], ◌∷◌, codes, flat_map}
use Rattle.std.proofs.lemmas.List.{take_all}
use Rattle.json.specs.Token.{end_array}
use Rattle.fr_formats.specs.Tokens.{array}
use Rattle.fr_formats.specs.Sarif.{all_notifications, notification_of}
use Rattle.fr_formats.proofs.Chains.{three}
use Rattle.fr_formats.proofs.sarif.put_all.Goals as goal

pub returns : goal.returns
unfolding all_notifications
returns c =
    let all = rw (take_all c.loop-answer.answer-index c.args.answers.now c.loop-answer-test.false) at c.loop-answer.invariant in
    three c.args.out.now.tokens _ _ _ (array (codes "toolExecutionNotifications")) (flat_map notification_of c.args.answers.now) (end_array ∷ []) c.in_ok-put_piece.ensures all c.in_ok-put_piece-2.ensures

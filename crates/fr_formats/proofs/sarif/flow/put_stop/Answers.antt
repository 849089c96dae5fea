use Rattle.std.proofs.Common.{[], ◌∷◌, ◌++◌, codes, string_bytes}
use Rattle.json.specs.Token.{begin_object, end_object, key}
use Rattle.fr_formats.specs.Tokens.{number}
use Rattle.fr_formats.specs.Sarif.{point_location, stop_tokens}
use Rattle.fr_formats.proofs.Chains.{three}
use Rattle.fr_formats.proofs.sarif.flow.put_stop.Goals as goal

pub returns : goal.returns
unfolding stop_tokens
returns c =
    let at = point_location c.args.path.now c.args.stop.now.place.now (string_bytes c.args.stop.now.text) in
    let opened = begin_object ∷ key (codes "location") ∷ [] in
    let placed = three c.args.out.now.tokens _ _ _ (begin_object ∷ []) (key (codes "location") ∷ []) at
    c.in_ok-put_piece.ensures c.in_ok-put_piece-2.ensures (rw c.deref.ensures at c.in_ok-put_point.ensures) in
    three c.args.out.now.tokens _ _ _ (opened ++ at) (number (codes "executionOrder") c.args.number) (end_object ∷ []) placed c.in_ok-put_piece-3.ensures c.in_ok-put_piece-4.ensures

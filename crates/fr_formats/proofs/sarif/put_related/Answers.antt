use Rattle.std.proofs.Common.{[], ◌∷◌, codes, string_bytes}
use Rattle.json.specs.Token.{end_array}
use Rattle.fr_formats.specs.Tokens.{array}
use Rattle.fr_formats.specs.Sarif.{point_location, related}
use Rattle.fr_formats.proofs.Chains.{three}
use Rattle.fr_formats.proofs.sarif.put_related.Goals as goal

pub returns : goal.returns
unfolding related
returns c =
    let at = point_location c.args.path.now c.in-Some.other (string_bytes c.args.failure.now.text) in
    let point = rw c.deref.ensures at c.in_ok-put_point.ensures in
    rw c.in-Some.is (three c.args.out.now.tokens _ _ _ (array (codes "relatedLocations")) at (end_array ∷ []) c.in_ok-put_piece.ensures point c.in_ok-put_piece-2.ensures)

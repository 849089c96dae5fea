-- The state with the usual choices.
use Rattle.fr_notes.proofs.Shown.{shown, done, least, usual, usual-shows, shown-formed, shown-holds}
use Rattle.fr_notes.proofs.laws.fitting_can_hold.Goals as goal

pub returns : goal.returns
returns c = λ P free n f a l.
    let s = usual-shows P free n f a l in
    (shown P n a done (least n) (usual P n a), shown-formed P n a done (least n) (usual P n a) s, shown-holds P n a done (least n) (usual P n a) s)

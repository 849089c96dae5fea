use Rattle.std.specs.Prelude.{Any, IsTrue, ◌↔◌}
use Rattle.fr_notes.proofs.Terms.{MeetsSome}
use Rattle.fr_notes.proofs.PairLaws.{together-both}
use Rattle.fr_notes.proofs.pairs.together.Goals as goal

pub returns : goal.returns
returns c =
    let some : IsTrue c.some_meet.result ↔ Any (MeetsSome c.args.other.now) c.args.note.now = rw (← c.alternatives.ensures, ← c.alternatives-2.ensures) c.some_meet.ensures in
    let both = together-both c.args.app.now c.recall_faultless.ensures c.args.actor c.args.other_actor c.requires.actor c.requires.other_actor c.requires.apart c.args.note.now c.args.other.now c.requires.note c.requires.other in
    (λ t. both.0 (some.0 t), λ h. some.1 (both.1 h))

-- What was found with these two alternatives is found with alternatives of the two notes.
use Rattle.std.proofs.Common.{◌≡◌, subst, All}
use Rattle.std.specs.Prelude.{List, IfSome}
use Rattle.fr_program.specs.Program.{Program}
use Rattle.fr_rules.specs.declared.way.Way.{Way}
use Rattle.fr_notes.specs.Note.{Alternative, Note}
use Rattle.fr_notes.specs.Noted.{NotedBy}
use Rattle.fr_notes.specs.declared.case.Spot.{Spot}
use Rattle.fr_witness.specs.Shown.{Taken, IsTaken, UndoesNote}
use Rattle.fr_witness.proofs.showing.spoiling.Goals as goal

-- what the steps show where the points have these alternatives, of this note
abbrev Spoil : Program → Spot → Spot → Alternative → Alternative → Note → List Taken → Type 0
Spoil P spot other n m note steps =
    (way : Way)
    × All (λ s. (s.actor ≡ other.point.actor) × (NotedBy P other.point m s.before × NotedBy P spot.point n s.before) × IsTaken P way s × Unit {0}) steps
    × UndoesNote spot.point.actor.0 note steps

pub returns-in-Some-2 : goal.returns-in-Some-2
returns-in-Some-2 c =
    let spot = c.args.spot.now in
    let n = c.in-Some.says.now in
    let m = c.in-Some.told.now in
    let steps = c.in-Some-2.steps in
    let found = subst (λ o. IfSome o (λ v. Spoil c.args.app.now spot c.args.other.now n m spot.note.now v.items)) c.in-Some-2.is c.in_ok-steps.ensures in
    let undone = subst (λ note. UndoesNote spot.point.actor.0 note steps.items) c.requires.spot.0.note found.2 in
    (n, m, found.0, c.in-Some.ensures.says.0, c.in-Some.ensures.told.0, (λ k d b. let f = found.1 k d b in (f.0, f.1.1, f.1.0, f.2)), undone)

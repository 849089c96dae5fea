-- What was found with this alternative is found with one of the note.
use Rattle.std.proofs.Common.{◌≡◌, ◌∙◌, get_or, subst, rules, All}
use Rattle.std.specs.Prelude.{List, IfSome, Contains}
use Rattle.fr_program.specs.Program.{Program}
use Rattle.fr_rules.specs.declared.way.Way.{Way}
use Rattle.fr_notes.specs.Note.{Alternative, Note}
use Rattle.fr_notes.specs.Noted.{IsAt, NotedBy}
use Rattle.fr_notes.specs.declared.case.Spot.{Spot}
use Rattle.fr_witness.specs.Shown.{Taken, IsTaken, UndoesNote}
use Rattle.fr_witness.proofs.showing.leaving.Goals as goal

-- what the steps show where the point has this alternative, of this note
abbrev Leave : Program → Spot → Spot → Alternative → Note → List Taken → Type 0
Leave P spot target n note steps =
    (way : Way)
    × All (λ s. (s.actor ≡ spot.point.actor) × (NotedBy P spot.point n s.before × Unit {0}) × IsTaken P way s × IsAt s.after target.point) steps
    × UndoesNote spot.point.actor.0 note steps

pub returns-in-Some : goal.returns-in-Some
returns-in-Some c =
    let P = c.args.app.now in
    let spot = c.args.spot.now in
    let target = c.args.target.now in
    let n = c.says-item.result in
    let steps = c.in-Some.steps in
    let found = subst (λ o. IfSome o (λ v. Leave P spot target n target.note.now v.items)) c.in-Some.is c.in_ok-steps.ensures in
    let at : get_or c.alternatives-says-items.result.now c.loop-says.says-index n ≡ n = search (rules, c.says-item.is) in
    let said = subst (λ note. Contains note n) (c.alternatives-says-items.ensures ∙ c.requires.spot.0.note) (c.loop-says.says-index, c.loop-says-test.true, at) in
    let undone = subst (λ note. UndoesNote spot.point.actor.0 note steps.items) c.requires.spot.1.note found.2 in
    (n, found.0, said, (λ k d b. let f = found.1 k d b in (f.0, f.1.0, f.2, f.3)), undone)

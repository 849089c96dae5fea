-- The instruction's row and start are those of the table, which count the points before it; its sides come after.
use Rattle.std.proofs.Common.{◌≡◌, None, length, map, sym, subst, ap, ◌∙◌, arith}
use Rattle.fr_program.specs.Points.{points_of}
use Rattle.fr_program.specs.PointNumbers.{starts_from}
use Rattle.fr_program.proofs.PointLaws.{points_are_numbered}
use Rattle.fr_program.proofs.StartLemmas.{row_there, row_read, some_number, no_number, number_below, inverse_of}
use Rattle.fr_program.proofs.app.App.number.Goals as goal
use Rattle.std.proofs.lemmas.Option.{none-some}

pub index-requires : goal.index-requires
index-requires c =
    let starts = subst (λ p. map (λ v. v.items) c.self.inside.starts.items ≡ starts_from 0 p.actors) c.self.view_is c.self.invariant.starts in
    let there = row_there c.args.self.now (λ v. v.items) c.self.inside.starts.items c.args.point.actor.0 c.args.point.pc c.in-Some.instr.now starts (sym c.in-Some.ensures) in
    omega (arith, there, c.self.inside.starts.ok.0)

pub index-start-requires : goal.index-start-requires
index-start-requires c =
    let P = c.args.self.now in
    let starts = subst (λ p. map (λ v. v.items) c.self.inside.starts.items ≡ starts_from 0 p.actors) c.self.view_is c.self.invariant.starts in
    let row = c.index.result.now in
    let read = row_read P (λ v. v.items) c.self.inside.starts.items row c.args.point.actor.0 c.args.point.pc c.in-Some.instr.now starts c.index.ensures (sym c.in-Some.ensures) in
    omega (arith, read.0, row.ok.0)

pub number_from-requires : goal.number_from-requires
number_from-requires c = λ has.
    let P = c.args.self.now in
    let p = c.args.point in
    let starts = subst (λ p. map (λ v. v.items) c.self.inside.starts.items ≡ starts_from 0 p.actors) c.self.view_is c.self.invariant.starts in
    let row = c.index.result.now in
    let start = c.index-start.result.now in
    let read = row_read P (λ v. v.items) c.self.inside.starts.items row p.actor.0 p.pc c.in-Some.instr.now starts c.index.ensures (sym c.in-Some.ensures) in
    let is = c.index-start.ensures ∙ read.1 start in
    let below = number_below P (points_are_numbered P) p (c.in-Some.instr.now, sym c.in-Some.ensures, has) in
    let many = ap (λ xs. length xs) (subst (λ q. c.self.inside.points.items ≡ points_of q) c.self.view_is c.self.invariant.points) in
    let fits = c.self.inside.points.small in
    omega (arith, is, below, many, c.self.inside.points.ok.0)

pub returns-in-Some-clause-some : goal.returns-in-Some-clause-some
returns-in-Some-clause-some c =
    let P = c.args.self.now in
    let p = c.args.point in
    let starts = subst (λ p. map (λ v. v.items) c.self.inside.starts.items ≡ starts_from 0 p.actors) c.self.view_is c.self.invariant.starts in
    let row = c.index.result.now in
    let start = c.index-start.result.now in
    let read = row_read P (λ v. v.items) c.self.inside.starts.items row p.actor.0 p.pc c.in-Some.instr.now starts c.index.ensures (sym c.in-Some.ensures) in
    some_number P p c.in-Some.instr.now start c.number_from.result (sym c.in-Some.ensures) (c.index-start.ensures ∙ read.1 start) c.number_from.ensures.some

pub returns-in-Some-clause-inverse : goal.returns-in-Some-clause-inverse
returns-in-Some-clause-inverse c =
    let P = c.args.self.now in
    let p = c.args.point in
    let starts = subst (λ p. map (λ v. v.items) c.self.inside.starts.items ≡ starts_from 0 p.actors) c.self.view_is c.self.invariant.starts in
    let row = c.index.result.now in
    let start = c.index-start.result.now in
    let read = row_read P (λ v. v.items) c.self.inside.starts.items row p.actor.0 p.pc c.in-Some.instr.now starts c.index.ensures (sym c.in-Some.ensures) in
    inverse_of P (points_are_numbered P) p c.number_from.result
    (some_number P p c.in-Some.instr.now start c.number_from.result (sym c.in-Some.ensures) (c.index-start.ensures ∙ read.1 start) c.number_from.ensures.some)
    (no_number P p c.in-Some.instr.now c.number_from.result (sym c.in-Some.ensures) c.number_from.ensures.none)

pub returns-in-None-clause-inverse : goal.returns-in-None-clause-inverse
returns-in-None-clause-inverse c =
    inverse_of c.args.self.now (points_are_numbered c.args.self.now) c.args.point None tt (λ place. none-some place.0 (c.in-None.ensures ∙ place.1))

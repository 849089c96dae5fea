use Rattle.std.proofs.Common.{Some, None, sym, ◌∙◌, ap}
use Rattle.fr_edge.proofs.Terms.{same_Some}
use Rattle.fr_edge.specs.declared.failure.Own.TheVariants.{Entry as FailsEntry, Rule as FailsRule, Goes as FailsGoes}
use Rattle.fr_edge.proofs.Firsts.{own-there, least-rule, all-rules, goes-first, missed-below}
use Rattle.fr_edge.proofs.obligations.own.Goals as goal

pub returns-then-not-enters : goal.returns-then-not-enters
returns-then-not-enters c = λ p e.
    let s = c.in_ok-spot.spot in
    let is = c.in_ok-spot.ensures.some in
    own-there s.app.now _ s.notes.now _ s.point p (Some FailsEntry) (ap (λ a. a.now) is.0) (ap (λ n. n.now) is.1) (same_Some _ _ (sym is.2 ∙ e)) (λ entry.
    let t = c.enters.ensures.1 entry in
    let f = c.if-not-enters.true in cc)

pub returns-in-Some : goal.returns-in-Some
returns-in-Some c = λ p e.
    let s = c.in_ok-spot.spot in
    let is = c.in_ok-spot.ensures.some in
    own-there s.app.now _ s.notes.now _ s.point p (Some (FailsRule c.in-Some.rule)) (ap (λ a. a.now) is.0) (ap (λ n. n.now) is.1) (same_Some _ _ (sym is.2 ∙ e)) (c.enters.ensures.0 c.if-not-enters.false, least-rule s.app.now s.notes.now s.point s.note.now s.has_note c.in-Some.rule c.in-Some.ensures)

pub point-requires : goal.point-requires
point-requires c =
    let s = c.in_ok-spot.spot in
    missed-below s.app.now s.notes.now s.point s.note.now s.has_note c.in-Some-least_missed.missed c.recall_numbered.ensures c.in-Some-least_missed.ensures

pub returns-in-Some-least_missed : goal.returns-in-Some-least_missed
returns-in-Some-least_missed c = λ p e.
    let s = c.in_ok-spot.spot in
    let is = c.in_ok-spot.ensures.some in
    let rules = all-rules s.app.now s.notes.now s.point s.note.now s.has_note c.in_default.ensures in
    let g = goes-first s.app.now s.notes.now s.point s.note.now s.has_note c.in-Some-least_missed.missed c.point.result c.recall_numbered.ensures c.point.ensures c.in-Some-least_missed.ensures in
    own-there s.app.now _ s.notes.now _ s.point p (Some (FailsGoes c.point.result)) (ap (λ a. a.now) is.0) (ap (λ n. n.now) is.1) (same_Some _ _ (sym is.2 ∙ e)) (c.enters.ensures.0 c.if-not-enters.false, rules, g.0, g.1, g.2)

pub returns-in-None : goal.returns-in-None
returns-in-None c = λ p e.
    let s = c.in_ok-spot.spot in
    let is = c.in_ok-spot.ensures.some in
    let rules = all-rules s.app.now s.notes.now s.point s.note.now s.has_note c.in_default.ensures in
    own-there s.app.now _ s.notes.now _ s.point p None (ap (λ a. a.now) is.0) (ap (λ n. n.now) is.1) (same_Some _ _ (sym is.2 ∙ e)) (c.enters.ensures.0 c.if-not-enters.false, rules, c.in-None.ensures)

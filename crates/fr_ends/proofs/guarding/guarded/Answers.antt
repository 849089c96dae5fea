use Rattle.std.proofs.Common.{sym}
use Rattle.fr_ends.proofs.GuardLaws.{called-object, first-writer, first-reader, first-none}
use Rattle.fr_ends.proofs.guarding.guarded.Goals as goal

pub returns-then-not-keeps_end-clause-first : goal.returns-then-not-keeps_end-clause-first
returns-then-not-keeps_end-clause-first c =
    first-writer c.args.app.now c.recall_faultless.ensures c.args.certificate.now c.requires.fit c.args.number c.point-point.result c.recall_numbered.ensures c.point-point.ensures (record { notes = c.certificate.inside.notes; ends = c.certificate.inside.ends }) c.certificate.view_is c.at-note.result.now c.at-note.ensures.is c.at-note.ensures.fits c.in_ok-call.call (sym c.in_ok-call.ensures) c.keeps_end.result c.keeps_end.ensures c.if-not-keeps_end.true

pub returns-then-not-keeps_end-clause-buffer : goal.returns-then-not-keeps_end-clause-buffer
returns-then-not-keeps_end-clause-buffer c =
    called-object c.args.app.now c.recall_faultless.ensures c.args.certificate.now c.requires.fit c.args.number c.point-point.result c.recall_numbered.ensures c.point-point.ensures (record { notes = c.certificate.inside.notes; ends = c.certificate.inside.ends }) c.certificate.view_is c.at-note.result.now c.at-note.ensures.is c.at-note.ensures.fits c.in_ok-call.call (sym c.in_ok-call.ensures)

pub returns-then-not-keeps_end-2-clause-first : goal.returns-then-not-keeps_end-2-clause-first
returns-then-not-keeps_end-2-clause-first c =
    first-reader c.args.app.now c.recall_faultless.ensures c.args.certificate.now c.requires.fit c.args.number c.point-point.result c.recall_numbered.ensures c.point-point.ensures (record { notes = c.certificate.inside.notes; ends = c.certificate.inside.ends }) c.certificate.view_is c.at-note.result.now c.at-note.ensures.is c.at-note.ensures.fits c.in_ok-call.call (sym c.in_ok-call.ensures) c.keeps_end.result c.keeps_end.ensures c.keeps_end-2.result c.keeps_end-2.ensures c.if-not-keeps_end.false c.if-not-keeps_end-2.true

pub returns-then-not-keeps_end-2-clause-buffer : goal.returns-then-not-keeps_end-2-clause-buffer
returns-then-not-keeps_end-2-clause-buffer c =
    called-object c.args.app.now c.recall_faultless.ensures c.args.certificate.now c.requires.fit c.args.number c.point-point.result c.recall_numbered.ensures c.point-point.ensures (record { notes = c.certificate.inside.notes; ends = c.certificate.inside.ends }) c.certificate.view_is c.at-note.result.now c.at-note.ensures.is c.at-note.ensures.fits c.in_ok-call.call (sym c.in_ok-call.ensures)

pub returns-clause-first : goal.returns-clause-first
returns-clause-first c =
    first-none c.args.app.now c.recall_faultless.ensures c.args.certificate.now c.requires.fit c.args.number c.point-point.result c.recall_numbered.ensures c.point-point.ensures (record { notes = c.certificate.inside.notes; ends = c.certificate.inside.ends }) c.certificate.view_is c.at-note.result.now c.at-note.ensures.is c.at-note.ensures.fits c.in_ok-call.call (sym c.in_ok-call.ensures) c.keeps_end.result c.keeps_end.ensures c.keeps_end-2.result c.keeps_end-2.ensures c.if-not-keeps_end.false c.if-not-keeps_end-2.false

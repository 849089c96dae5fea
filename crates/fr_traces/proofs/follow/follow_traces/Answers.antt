-- fr_traces/proofs/follow/follow_traces/Answers.antt
-- All that is named is answered for the application that was read, and what is written is of that.
use Rattle.std.proofs.Common.{◌≤◌, arith, inl, refl}
use Rattle.fr_traces.proofs.Terms.{Reads}
use Rattle.fr_traces.proofs.Following.{done-of, written-of}
use Rattle.fr_traces.proofs.follow.follow_traces.Goals as goal

pub returns-clause-answered : goal.returns-clause-answered
returns-clause-answered g c = (_, c.in_ok-app.ensures.read, _, c.in_ok-status.ensures.answered, c.in_ok-cover.ensures.covered)

pub returns-clause-kept : goal.returns-clause-kept
returns-clause-kept g c = λ least text one. (let most : c.in_ok-status.status ≤ 1 = c.in_ok-status.ensures.kept text one in let no : ⊥ = omega (arith, least, most) in absurd no)

pub returns-clause-files : goal.returns-clause-files
returns-clause-files g c =
    written-of (Reads (g.F.Files.Gives c.args.files.now) g.F.Files.Means) c.args.asked.now _ g.F.Files.Puts c.in_ok-status.answer c.in_ok-status.status c.args.files.now c.put_outputs.new.files
    c.in_ok-app.ensures.read c.in_ok-status.ensures.by c.put_outputs.ensures.put

pub returns-clause-done : goal.returns-clause-done
returns-clause-done g c =
    done-of (Reads (g.F.Files.Gives c.args.files.now) g.F.Files.Means) c.args.asked.now _ g.F.Files.Puts c.in_ok-status.answer c.in_ok-status.status c.args.files.now c.put_outputs.new.files
    c.in_ok-app.ensures.read c.in_ok-status.ensures.by c.in_ok-status.ensures.several c.in_ok-put_outputs.ensures.done

pub returns-in_err-look_at_outputs-clause-files : goal.returns-in_err-look_at_outputs-clause-files
returns-in_err-look_at_outputs-clause-files g c = inl refl

pub returns-in_err-app-clause-files : goal.returns-in_err-app-clause-files
returns-in_err-app-clause-files g c = inl refl

pub returns-in_err-coverage-clause-files : goal.returns-in_err-coverage-clause-files
returns-in_err-coverage-clause-files g c = inl refl

pub returns-in_err-status-clause-files : goal.returns-in_err-status-clause-files
returns-in_err-status-clause-files g c = inl refl

pub returns-in_err-cover-clause-files : goal.returns-in_err-cover-clause-files
returns-in_err-cover-clause-files g c = inl refl

pub returns-in_err-put_outputs-clause-files : goal.returns-in_err-put_outputs-clause-files
returns-in_err-put_outputs-clause-files g c =
    written-of (Reads (g.F.Files.Gives c.args.files.now) g.F.Files.Means) c.args.asked.now _ g.F.Files.Puts c.in_ok-status.answer c.in_ok-status.status c.args.files.now c.put_outputs.new.files
    c.in_ok-app.ensures.read c.in_ok-status.ensures.by c.put_outputs.ensures.put

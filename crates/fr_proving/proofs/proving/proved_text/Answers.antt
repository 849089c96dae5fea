-- A fault of the application's bytes is present in them, and what is known by the certificate is what is answered.
use Rattle.std.proofs.Common.{ℕ, List, Bool, None, inl, inr, refl, string_bytes}
use Rattle.std.proofs.lemmas.Result.{err_from_is_err_and}
use Rattle.fr_program.specs.Program.{Program}
use Rattle.fr_reader.specs.Meaning.{Means as AppMeans}
use Rattle.fr_cert.specs.Meaning.{Means as CertMeans}
use Rattle.fr_ends.specs.Certificate.{Certificate}
use Rattle.fr_outcome.specs.declared.answer.What.{What}
use Rattle.fr_outcome.specs.declared.answer.What.TheVariants.{Judged, Searched, Refused}
use Rattle.fr_outcome.specs.Answers.{CanRefuseProof, IsProofOf}
use Rattle.fr_proving.specs.declared.proving.Known.{Known}
use Rattle.fr_proving.specs.declared.proving.Known.TheVariants.{Settled, Reached}
use Rattle.fr_proving.specs.Proved.{IsKnown, IsTold, IsWhatOf}
use Rattle.fr_findings.proofs.Refusals.{app-refused}
use Rattle.fr_proving.proofs.proving.proved_text.Goals as goal

proof-of : (asks searches : Bool) (bytes text : List ℕ) (P : Program) (C : Certificate) (known : Known) (what : What) → AppMeans bytes P → CertMeans P text C
    → IsKnown asks searches P C known → IsTold P C known → IsWhatOf P C known what → IsProofOf asks bytes searches text what
proof-of asks searches bytes text P C (Reached verdict why waits tried) (Judged j) app means k t w =
    inl (rw (w.0, w.1, w.2, w.3, w.4) (app, means, k.0, k.1, k.2, t.2))
proof-of asks searches bytes text P C (Reached verdict why waits tried) (Searched s) app means k t w = absurd w
proof-of asks searches bytes text P C (Reached verdict why waits tried) (Refused r) app means k t w = absurd w
proof-of asks searches bytes text P C (Settled found explains) (Judged j) app means k t w = absurd w
proof-of asks searches bytes text P C (Settled found explains) (Refused r) app means k t w = absurd w
proof-of asks searches bytes text P C (Settled found explains) (Searched s) app means k t w =
    inr (
      Judged (record { app = P; certificate = C; verdict = k.4.0; why = None; waits = k.4.1 }),
      (app, means, k.4.2.0, k.4.2.1, k.4.2.2, λ e. refl),
      k.4.3,
      k.3,
      rw (w.0, w.1) (app, k.0, k.1, k.2),
    )

pub returns-in_err-app-clause-refused : goal.returns-in_err-app-clause-refused
returns-in_err-app-clause-refused g c =
    let p = err_from_is_err_and c.from_residual.result c.from_residual.ensures.1 in
    rw (p.1, p.2) (app-refused (CanRefuseProof c.args.app.now c.args.ways.workers) c.in_err-app.field-0.0 tt (λ e. (e, c.in_err-app.ensures.err e)))

pub returns-in_ok-what_of-in-Ok-clause-proved : goal.returns-in_ok-what_of-in-Ok-clause-proved
returns-in_ok-what_of-in-Ok-clause-proved g c =
    proof-of c.args.ways.deadlock c.args.searches c.args.app.now (string_bytes c.in-Ok.text) c.in_ok-app.app c.in-Ok.certificate c.in-Ok.known c.in_ok-what_of-in-Ok.field-0
    c.in_ok-app.ensures.ok c.in-Ok.ensures.means c.in-Ok.ensures.known c.in-Ok.ensures.told c.in_ok-what_of-in-Ok.ensures

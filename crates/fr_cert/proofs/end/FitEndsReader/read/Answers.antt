use Rattle.std.proofs.Common.{List, [], sym, subst, map, inl, inr}
use Rattle.fr_cert.proofs.Terms.{err_from_is_err_and, Items, view, Program, EndFits, EndsFit, EndGuard, end_of, names_in, IsObject, IsList, IsEnd, AreFitEnds}
use Rattle.fr_cert.specs.declared.fault.CertFault.TheVariants as fault
use Rattle.fr_cert.proofs.EntryLemmas.{each_both}
use Rattle.fr_cert.proofs.TwiceLemmas.{twice_weaker}
use Rattle.fr_cert.proofs.end.FitEndsReader.read.Goals as goal

fits : (P : Program) (ds : Items) (es : List EndGuard) → AreFitEnds P ds es → EndsFit P es
fits P ds es h = ((each_both (IsObject (IsEnd (names_in P))) (EndFits P) ds es h.0).1, h.1)

pub of-requires : goal.of-requires
of-requires c =
    let h = c.in_ok-ends.ensures.ok in
    let es = map end_of c.in_ok-ends.ends.items in
    subst (λ P. EndsFit P es) (sym c.scope.view_is) (fits c.args.scope.now h.0 es h.2)

pub returns-clause-ok : goal.returns-clause-ok
returns-clause-ok c =
    let P = c.args.scope.now in
    let h = c.in_ok-ends.ensures.ok in
    subst (λ es. IsList (AreFitEnds P) (view c.args.value.now) es × EndsFit P es) (sym c.of.ensures) (h, fits P h.0 (map end_of c.in_ok-ends.ends.items) h.2)

pub returns-in_err-ends-clause-err : goal.returns-in_err-ends-clause-err
returns-in_err-ends-clause-err c =
    let p = err_from_is_err_and c.from_residual.result c.from_residual.ensures.1 in
    let M = IsObject (IsEnd (names_in c.args.scope.now)) in
    rw (p.1, p.2) (λ named. elim (c.in_err-ends.ensures.err named) [
      | inl h ↦ inl h
      | inr h ↦ inr (h.0, h.1, elim h.2 [ inl s ↦ inl s | inr s ↦ inr (twice_weaker _ M _ (fault.EndTwice []) (λ d x m. m.0) h.0 _ s) ])
    ])

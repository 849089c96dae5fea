use Rattle.std.proofs.Common.{subst, arith}
use Rattle.fr_edge.proofs.Terms.{Set, NamesThings}
use Rattle.fr_edge.proofs.Spans.{stays-made, leaves-made}
use Rattle.fr_edge.proofs.rules.stays_in_range.Goals as goal

pub returns-in-Set-Before-clause-stays : goal.returns-in-Set-Before-clause-stays
returns-in-Set-Before-clause-stays c =
    let s = c.in-Set-Before in
    rw (s.is-0, s.is-1) (λ t. stays-made c.args.app.now c.args.known.now s.target s.left s.operator s.right c.result-result.result c.result-result.ensures (c.is_in_declared.ensures.0 t))

pub returns-in-Set-Before-clause-leaves : goal.returns-in-Set-Before-clause-leaves
returns-in-Set-Before-clause-leaves c =
    let s = c.in-Set-Before in
    rw (s.is-0, s.is-1) (λ f. leaves-made c.args.app.now c.args.known.now s.target s.left s.operator s.right c.result-result.result c.result-result.ensures (λ h. let t = c.is_in_declared.ensures.1 h in cc))

pub is_in_declared-requires : goal.is_in_declared-requires
is_in_declared-requires c =
    let s = c.in-Set-Before in
    let named : NamesThings c.args.app.now (Set s.target s.left s.operator s.right) = subst (λ i. NamesThings c.args.app.now i) s.is-0 c.requires.names in
    named.0 0 s.target (omega arith)

-- Each state of what shows the part is well formed.
use Rattle.std.proofs.Common.{subst}
use Rattle.fr_judge.specs.declared.part.Verdict.TheVariants.{No}
use Rattle.fr_witness.specs.Witness.{IsWitness}
use Rattle.fr_reasons.proofs.Formed.{formed_of}
use Rattle.fr_reasons.proofs.reason.add_found.Goals as goal

pub add_witness-added-requires-clause-formed : goal.add_witness-added-requires-clause-formed
add_witness-added-requires-clause-formed c =
    let P = c.args.scene.now.app.now in
    let C = c.args.certificate.now in
    let point = c.args.scene.now.spot.point in
    let found = c.in-Some.found in
    let shown = subst (λ o. IsWitness P C (No point c.args.part) o) c.in-Some.is c.in_ok-found.ensures in
    let first = c.the_start_is_well_formed.ensures P c.recall_faultless.ensures in
    formed_of P C point c.args.part found first shown

use Rattle.std.proofs.Common.{◌≤◌, Option, None, Some, length, refl, arith}
use Rattle.std.specs.Prelude.{IfNone}
use Rattle.std.proofs.lemmas.Option.{slice_get_within}
use Rattle.fr_program.specs.Lookup.{IsPoint}
use Rattle.fr_program.specs.Points.{points_of}
use Rattle.fr_witness.proofs.showing.spot_of.Goals as goal

still : {T : Type 0} (r : Option T) (A B : Type 0) → (A → B) → IfNone r A → IfNone r B
still None A B f h = f h
still (Some x) A B f h = h

pub returns-clause-none : goal.returns-clause-none
returns-clause-none c =
    let P = c.args.app.now in
    let k = c.in_ok-number.number in
    let within = slice_get_within (points_of P) k c.args.point ((c.in_ok-number.ensures.inverse k).0 refl) in
    still c.spot.result (length (points_of P) ≤ k) (IsPoint P c.args.point → ⊥) (λ past here. omega (arith, past, within)) c.spot.ensures.none

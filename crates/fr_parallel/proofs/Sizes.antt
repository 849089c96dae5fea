-- An application has few points: two at each instruction at the most.
use Rattle.std.proofs.Common.{ℕ, suc, ◌+◌, ◌*◌, ◌^◌, ◌≤◌, List, [], ◌∷◌, length, arith}
use Rattle.std.specs.Prelude.{All, sum_by}
use Rattle.std.proofs.lemmas.List.{length-append}
use Rattle.std.proofs.lemmas.List.Sums.{sum_by-cons}
use Rattle.fr_program.specs.declared.instr.Instr.{Instr}
use Rattle.fr_program.specs.declared.instr.Instr.TheVariants.{Call as Calls}
use Rattle.fr_program.specs.declared.instr.Call.TheVariants.{On}
use Rattle.fr_program.specs.Program.{Program, ActorOf}
use Rattle.fr_program.specs.Fault.{IsSmall}
use Rattle.fr_program.specs.Points.{count_of_instr, points_along, points_from, points_of}
use Rattle.fr_program.proofs.PointLaws.{length_points_along}

count-small : (i : Instr) → count_of_instr i ≤ 2
count-small (Calls (On call)) = omega arith
count-small i = omega arith

code-small : (code : List Instr) → sum_by count_of_instr code ≤ 2 * length code
code-small [] = omega arith
code-small (i ∷ code) = omega (arith, sum_by-cons count_of_instr i code, count-small i, code-small code)

actors-small : (n : ℕ) (actors : List ActorOf) → All (λ a. length a.code ≤ 512) actors → length (points_from n actors) ≤ 1024 * length actors
actors-small n [] h = omega arith
actors-small n (a ∷ actors) h =
    let here : length a.code ≤ 512 = h 0 a (omega arith) in
    omega (arith, length-append (points_along n 0 a.code) (points_from (n + 1) actors), length_points_along n 0 a.code, code-small a.code, actors-small (n + 1) actors (λ k e short. h (suc k) e (omega arith)))

pub points-few : (P : Program) → IsSmall P → length (points_of P) ≤ 2 ^ 32
points-few P small = omega (arith, actors-small 0 P.actors small.code, small.actors)

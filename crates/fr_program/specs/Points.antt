-- The points of an application, in the order of their numbers: by actor, then by instruction, Before then Inside.
--
-- | word             | meaning                                                                  |
-- |------------------|--------------------------------------------------------------------------|
-- | sides_of         | the sides of an instruction at which an actor can stand, in order        |
-- | points_at        | the points of one instruction                                            |
-- | points_along     | the points of the code of one actor, from an instruction on              |
-- | points_from      | the points of a list of actors, the first of which has this number       |
-- | points_of        | all points of an application                                             |
-- | point_number     | the number of a point: how many points come before it                    |
use Rattle.std.specs.Prelude.{ℕ, ◌+◌, List, [], ◌∷◌, ◌++◌, map, length, sum_by, take}
use Rattle.fr_program.specs.declared.instr.Instr.{Instr}
use Rattle.fr_program.specs.declared.instr.Instr.TheVariants.{Call as Calls}
use Rattle.fr_program.specs.declared.instr.Call.TheVariants.{On}
use Rattle.fr_program.specs.declared.ids.Point.{Point}
use Rattle.fr_program.specs.declared.ids.Side.{Side}
use Rattle.fr_program.specs.declared.ids.Side.TheVariants.{Before, Inside}
use Rattle.fr_program.specs.Program.{Program, ActorOf}
use Rattle.fr_program.specs.Lookup.{actor_at}

-- an actor can stand before each instruction, and inside an object call
abbrev pub sides_of : Instr → List Side
sides_of (Calls (On call)) = Before ∷ Inside ∷ []
sides_of i = Before ∷ []

-- the points of one instruction, of this actor and at this place of its code
abbrev pub points_at : ℕ → ℕ → Instr → List Point
points_at a pc i = map (λ side. record { actor = record { 0 = a }; pc = pc; side = side }) (sides_of i)

-- the points of the rest of this actor's code, from this place on
abbrev pub points_along : ℕ → ℕ → List Instr → List Point
points_along a pc [] = []
points_along a pc (i ∷ code) = points_at a pc i ++ points_along a (pc + 1) code

-- the points of a list of actors, the first of which has this number
abbrev pub points_from : ℕ → List ActorOf → List Point
points_from a [] = []
points_from a (actor ∷ actors) = points_along a 0 actor.code ++ points_from (a + 1) actors

-- all points of an application
abbrev pub points_of : Program → List Point
points_of P = points_from 0 P.actors

-- how many points an instruction and an actor have
abbrev pub count_of_instr : Instr → ℕ
count_of_instr i = length (sides_of i)

-- how many points an actor has
abbrev pub count_of_actor : ActorOf → ℕ
count_of_actor actor = sum_by count_of_instr actor.code

-- the place of a side in the order
abbrev pub side_number : Side → ℕ
side_number Before = 0
side_number Inside = 1

-- the number of a point: how many points come before it
abbrev pub point_number : Program → Point → ℕ
point_number P p =
    sum_by count_of_actor (take p.actor.0 P.actors) + sum_by count_of_instr (take p.pc (actor_at P p.actor.0).code) + side_number p.side

-- What points and rules are called in texts.
--
-- | word           | meaning                                                                        |
-- |----------------|--------------------------------------------------------------------------------|
-- | point_text     | a point with its number, its actor's name, its instruction and its side        |
-- | rule_text      | what is said of a breached rule                                                |
use Rattle.std.specs.Prelude.{ℕ, List, ◌++◌, codes, decimal}
use Rattle.fr_program.specs.declared.ids.Point.{Point}
use Rattle.fr_program.specs.Program.{Program}
use Rattle.fr_program.specs.Lookup.{actor_at}
use Rattle.fr_program.specs.Points.{point_number}
use Rattle.fr_program.specs.Uses.{side_text}
use Rattle.fr_rules.specs.declared.rules.Rule.{Rule as RuleOf}
use Rattle.fr_rules.specs.declared.rules.Rule.TheVariants.{OneWriter, OneReader, GivenByHolder, AllowedInCritical, AllowedSuspended, AllowedInInterrupt, IsLive, LifeInOrder, SuitsSemaphore, DepthAboveZero, EndsInOrder, InRange}

-- `point <number> (<actor> <instruction> <side>)`
abbrev pub point_text : Program → Point → List ℕ
point_text P p =
    codes "point " ++ (decimal (point_number P p) ++ (codes " (" ++ ((actor_at P p.actor.0).name
    ++ (codes " " ++ (decimal p.pc ++ (codes " " ++ (side_text p.side ++ codes ")")))))))

-- what is said of a breached rule; rules 1 and 2 are reported as guards, so that nobody reads their two texts
abbrev pub rule_text : RuleOf → List ℕ
rule_text OneWriter = codes "two actors at the writing end of a buffer"
rule_text OneReader = codes "two actors at the reading end of a buffer"
rule_text GivenByHolder = codes "mutex given by an actor that does not hold it"
rule_text AllowedInCritical = codes "call not allowed in a critical section"
rule_text AllowedSuspended = codes "call not allowed while the scheduler is suspended"
rule_text AllowedInInterrupt = codes "call not allowed in an interrupt"
rule_text IsLive = codes "handle is not live"
rule_text LifeInOrder = codes "object deleted in use or created while live"
rule_text SuitsSemaphore = codes "call does not suit this kind of semaphore"
rule_text DepthAboveZero = codes "depth is already zero"
rule_text EndsInOrder = codes "actor ends in the wrong way"
rule_text InRange = codes "value out of its declared range"

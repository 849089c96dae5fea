-- How the code's parts and verdicts tell those of the definitions, and that they name only what the application has.
--
-- | word                    | meaning                                                                       |
-- |-------------------------|-------------------------------------------------------------------------------|
-- | told_part, told_verdict | the part, the verdict as the code has it                                      |
-- | part_of_own             | the part that an own obligation is                                            |
-- | TellsFirst              | what is told is the first part that isn't kept at a point, or that all are    |
-- | TellsVerdict            | what is told is the verdict                                                   |
-- | IsPartOf, Speaks        | a part names only what the application has, and so does a verdict             |
use Rattle.std.specs.Prelude.{◌≡◌, ◌≤◌, ◌<◌, Option, None, Some, length}
use Rattle.fr_program.specs.declared.ids.Point.{Point}
use Rattle.fr_program.specs.Program.{Program}
use Rattle.fr_program.specs.Lookup.{IsPoint}
use Rattle.fr_rules.specs.Rule.{number_of}
use Rattle.fr_edge.specs.declared.failure.Own.{Own}
use Rattle.fr_edge.specs.declared.failure.Own.TheVariants.{Entry as OwnEntry, Rule as OwnRule, Goes as OwnGoes}
use Rattle.fr_ends.specs.Certificate.{Certificate}
use Rattle.fr_judge.specs.declared.part.Part.{Part as Told}
use Rattle.fr_judge.specs.declared.part.Part.TheVariants.{Entry, Rule, Goes, Guard, Near, Spoiled}
use Rattle.fr_judge.specs.declared.part.Verdict.{Verdict as ToldVerdict}
use Rattle.fr_judge.specs.declared.part.Verdict.TheVariants.{Yes as TellsYes, No as TellsNo}
use Rattle.fr_judge.specs.Part.{Part, EntryPart, RulePart, GoesPart, GuardPart, NearPart, SpoiledPart}
use Rattle.fr_judge.specs.Verdict.{Verdict, Yes, No, KeepsAll, IsFirstPart, IsVerdict}

-- the part as the code has it: an end by its buffer and its side
abbrev pub told_part : Part → Told
told_part EntryPart = Entry
told_part (RulePart rule) = Rule rule
told_part (GoesPart t) = Goes t
told_part (GuardPart buffer end) = Guard (record { buffer = record { 0 = buffer }; end = end })
told_part (NearPart q) = Near q
told_part (SpoiledPart q) = Spoiled q

-- the part that an own obligation is
abbrev pub part_of_own : Own → Told
part_of_own OwnEntry = Entry
part_of_own (OwnRule rule) = Rule rule
part_of_own (OwnGoes t) = Goes t

-- the verdict as the code has it
abbrev pub told_verdict : Verdict → ToldVerdict
told_verdict Yes = TellsYes
told_verdict (No p part) = TellsNo p (told_part part)

-- None says that every part is kept at the point, and a part that it is the first one that isn't
abbrev pub TellsFirst : Program → Certificate → Point → Option Told → Type 0
TellsFirst P C p None = KeepsAll P C p
TellsFirst P C p (Some told) = (part : Part) × (told ≡ told_part part) × IsFirstPart P C p part

-- what is told is the verdict
abbrev pub TellsVerdict : Program → Certificate → ToldVerdict → Type 0
TellsVerdict P C told = (verdict : Verdict) × (told ≡ told_verdict verdict) × IsVerdict P C verdict

-- the part names a rule that a point can owe by itself, or a point or a buffer of the application
abbrev pub IsPartOf : Program → Told → Type 0
IsPartOf P Entry = Unit {0}
IsPartOf P (Rule rule) = 3 ≤ number_of rule
IsPartOf P (Goes t) = IsPoint P t
IsPartOf P (Guard e) = e.buffer.0 < length P.objects
IsPartOf P (Near q) = IsPoint P q
IsPartOf P (Spoiled q) = IsPoint P q

-- the verdict names a point of the application, and a part of it
abbrev pub Speaks : Program → ToldVerdict → Type 0
Speaks P TellsYes = Unit {0}
Speaks P (TellsNo p told) = IsPoint P p × IsPartOf P told

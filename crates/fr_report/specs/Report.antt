-- The bytes of a report: the line of a verdict.
--
-- | word           | meaning                                                                        |
-- |----------------|--------------------------------------------------------------------------------|
-- | part_text      | what fails at a point                                                          |
-- | verdict_text   | the whole line                                                                 |
-- | report_text    | the same with its newline                                                      |
use Rattle.std.specs.Prelude.{ℕ, List, ◌++◌, codes, decimal}
use Rattle.fr_program.specs.Program.{Program}
use Rattle.fr_program.specs.Lookup.{object_at}
use Rattle.fr_rules.specs.Rule.{number_of}
use Rattle.fr_program.specs.Uses.{end_text}
use Rattle.fr_judge.specs.declared.part.Part.{Part}
use Rattle.fr_judge.specs.declared.part.Part.TheVariants.{Entry, Rule, Goes, Guard, Near, Spoiled}
use Rattle.fr_judge.specs.declared.part.Verdict.{Verdict}
use Rattle.fr_judge.specs.declared.part.Verdict.TheVariants.{Yes, No}
use Rattle.fr_wording.specs.Names.{point_text, rule_text}

-- what fails at a point
abbrev pub part_text : Program → Part → List ℕ
part_text P Entry = codes "entry"
part_text P (Rule rule) = codes "rule " ++ (decimal (number_of rule) ++ (codes ": " ++ rule_text rule))
part_text P (Goes t) = codes "goes to " ++ point_text P t
part_text P (Guard e) = codes "guard " ++ ((object_at P e.buffer.0).name ++ (codes " " ++ end_text e.end))
part_text P (Near q) = codes "near " ++ point_text P q
part_text P (Spoiled q) = codes "spoiled by " ++ point_text P q

-- the line of a verdict, without its newline
abbrev pub verdict_text : Program → Verdict → List ℕ
verdict_text P Yes = codes "yes"
verdict_text P (No p part) = codes "no: " ++ (point_text P p ++ (codes ": " ++ part_text P part))

-- the whole line
abbrev pub report_text : Program → Verdict → List ℕ
report_text P verdict = verdict_text P verdict ++ codes "\n"

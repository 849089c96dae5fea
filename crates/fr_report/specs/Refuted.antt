-- The bytes of what is found of an application that is searched for a breach, or for a deadlock too.
--
-- | word             | meaning                                                                             |
-- |------------------|-------------------------------------------------------------------------------------|
-- | breach_text      | the rule, the actor that breaches it, and the number of steps                       |
-- | found_line       | the line that reports that; or how many states were seen, and whether these are all |
-- | IsBelow          | a line that explains a step, and looks like none                                    |
-- | IsStepTold       | the line of a step, as one of a run; if it is explained, other lines below it       |
-- | AreStepLines     | the lines of steps, explained or not                                                |
-- | shorter_text     | the line that says that a shorter run may exist, where it may and this is asked for |
-- | IsRunOf          | the lines of the run of these steps, where actors are then, and that line           |
-- | IsRunText        | those of a breach or a deadlock, and otherwise none                                 |
use Rattle.std.specs.Prelude.{◌≡◌, ◌++◌, ℕ, Bool, true, false, not, ◌&&◌, if◌then◌else◌, List, [], ◌∷◌, All, codes, decimal, encode_utf8_all, length, map, String, string_bytes}
use Rattle.std.specs.declared.alloc.Global.{Global}
use Rattle.fr_escape.specs.Plain.{plain}
use Rattle.fr_program.specs.declared.ids.ActorId.{ActorId}
use Rattle.fr_program.specs.Program.{Program}
use Rattle.fr_program.specs.Lookup.{actor_at}
use Rattle.fr_rules.specs.Rule.{number_of}
use Rattle.fr_runner.specs.declared.trace.Entry.TheVariants.{Stepped}
use Rattle.fr_states.specs.declared.step.StepTaken.{StepTaken}
use Rattle.fr_found.specs.declared.finding.Refutation.{Refutation}
use Rattle.fr_found.specs.declared.finding.Finding.{Finding}
use Rattle.fr_found.specs.declared.finding.Finding.TheVariants.{Breach, Deadlock, Safe, Free, Unknown}
use Rattle.fr_changes.specs.declared.changes.ExplainedStep.{ExplainedStep}
use Rattle.fr_changes.specs.Explained.{IsExplainedRun, steps_in}
use Rattle.fr_wording.specs.declared.standing.Standing.{Standing}
use Rattle.fr_wording.specs.Lines.{lines_text}
use Rattle.fr_wording.specs.Names.{rule_text}
use Rattle.fr_wording.specs.Standings.{standings_text}
use Rattle.fr_report.specs.Trace.{entry_text}
use Rattle.fr_report.specs.Waits.{deadlock_text}

-- the line of a step, with its newline
abbrev pub step_text : Program → StepTaken → List ℕ
step_text P step = entry_text P (Stepped step.actor step.choice)

-- `rule <number>: <what it says>: <actor>, after <number> steps`
abbrev pub breach_text : Program → Refutation → List ℕ
breach_text P r =
    codes "rule " ++ (decimal (number_of r.rule) ++ (codes ": " ++ (rule_text r.rule ++ (codes ": "
    ++ ((actor_at P r.actor.0).name ++ (codes ", after " ++ (decimal (length r.steps.items) ++ codes " steps")))))))

-- the line of what was found, without its newline
abbrev pub found_line : Program → Finding → List ℕ
found_line P (Breach r) = codes "breach: " ++ breach_text P r
found_line P (Deadlock d) = codes "deadlock: " ++ deadlock_text P d
found_line P (Safe states) = codes "no breach in " ++ (decimal states ++ codes " states")
found_line P (Free states) = codes "no breach and no deadlock in " ++ (decimal states ++ codes " states")
found_line P (Unknown states left) = codes "no breach in " ++ (decimal states ++ codes " states, more are left")

-- a line that looks like no step: two blanks, and a text with what steers a terminal, and what ends a line, written as in a literal
abbrev pub IsBelow : List ℕ → Type 0
IsBelow line = (text : List ℕ) × (line ≡ codes "  " ++ encode_utf8_all (plain text))

-- the line of the step alone, or with such lines below it that explain it
abbrev pub IsStepTold : Bool → Program → StepTaken → List ℕ → Type 0
IsStepTold false P step text = text ≡ step_text P step
IsStepTold true P step text =
    (more : List (String Global)) × All (λ line. IsBelow (string_bytes line)) more × (text ≡ step_text P step ++ lines_text more)

-- the lines of the steps in their order, each explained so
abbrev pub AreStepLines : Bool → Program → List StepTaken → List ℕ → Type 0
AreStepLines explains P [] text = text ≡ []
AreStepLines explains P (step ∷ rest) text =
    (own others : List ℕ) × IsStepTold explains P step own × (text ≡ own ++ others) × AreStepLines explains P rest others

-- the line that follows a run that isn't known to be the shortest, where it is explained
abbrev pub shorter_text : Bool → Bool → List ℕ
shorter_text explains shortest = if explains && not shortest then codes "a shorter run may exist\n" else []

-- the lines of the run of these steps, then those that say where these actors are after them, and that a shorter run may exist
abbrev pub IsRunOf : Bool → Program → List StepTaken → List ActorId → Bool → List ℕ → Type 0
IsRunOf explains P taken actors shortest text =
    (steps : List ExplainedStep) × (lasts : List Standing) × (steps_in steps ≡ taken) × (map (λ s. s.actor) lasts ≡ actors)
    × IsExplainedRun P steps lasts × (lines : List ℕ) × AreStepLines explains P taken lines
    × (text ≡ lines ++ (standings_text explains P lasts ++ shorter_text explains shortest))

-- those of the steps that lead to a breach, and where the actor is that breaches the rule; or to a deadlock, and where the actors
-- are that wait for one another; no text where no run was found
abbrev pub IsRunText : Bool → Program → Finding → List ℕ → Type 0
IsRunText explains P (Breach r) text = IsRunOf explains P r.steps.items (r.actor ∷ []) r.is_shortest text
IsRunText explains P (Deadlock d) text = IsRunOf explains P d.steps.items (map (λ w. w.actor) d.cycle.items) d.is_shortest text
IsRunText explains P (Safe states) text = text ≡ []
IsRunText explains P (Free states) text = text ≡ []
IsRunText explains P (Unknown states left) text = text ≡ []

-- The names of what can fail.
use Rattle.std.specs.Prelude.{ℕ, List, [], ◌∷◌, Option, codes, bytes_eq}
use Rattle.std.specs.List.{position_from}
use Rattle.fr_rules.specs.declared.rules.Rule.{Rule}
use Rattle.fr_rules.specs.declared.rules.Rule.TheVariants.{OneWriter, OneReader, GivenByHolder, AllowedInCritical, AllowedSuspended, AllowedInInterrupt, IsLive, LifeInOrder, SuitsSemaphore, DepthAboveZero, EndsInOrder, InRange}

-- the name of a rule: its number
abbrev pub rule_name : Rule → List ℕ
rule_name OneWriter = codes "rule-1"
rule_name OneReader = codes "rule-2"
rule_name GivenByHolder = codes "rule-3"
rule_name AllowedInCritical = codes "rule-4"
rule_name AllowedSuspended = codes "rule-5"
rule_name AllowedInInterrupt = codes "rule-6"
rule_name IsLive = codes "rule-7"
rule_name LifeInOrder = codes "rule-8"
rule_name SuitsSemaphore = codes "rule-9"
rule_name DepthAboveZero = codes "rule-10"
rule_name EndsInOrder = codes "rule-11"
rule_name InRange = codes "rule-12"

-- all names, in the order of a report's rules
abbrev pub rule_names : List (List ℕ)
rule_names =
    codes "rule-1" ∷ codes "rule-2" ∷ codes "rule-3" ∷ codes "rule-4" ∷ codes "rule-5" ∷ codes "rule-6"
    ∷ codes "rule-7" ∷ codes "rule-8" ∷ codes "rule-9" ∷ codes "rule-10" ∷ codes "rule-11" ∷ codes "rule-12"
    ∷ codes "entry" ∷ codes "goes-to" ∷ codes "guard" ∷ codes "near" ∷ codes "spoiled-by" ∷ codes "refused"
    ∷ codes "states-left" ∷ codes "never-reached" ∷ codes "never-used" ∷ codes "no-actors" ∷ codes "deadlock" ∷ codes "may-deadlock"
    ∷ codes "held-while-waiting" ∷ codes "never-given" ∷ codes "lost-update" ∷ codes "used-one-way"
    ∷ codes "buffer-in-critical-section" ∷ codes "not-followed" ∷ codes "not-listed" ∷ codes "gave-up" ∷ codes "breach" ∷ []

-- the index of a name among all
unfoldable pub rule_index : List ℕ → Option ℕ
rule_index name = position_from (λ known. bytes_eq known name) 0 rule_names

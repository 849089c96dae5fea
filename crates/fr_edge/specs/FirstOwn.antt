-- The first of its own obligations that fails at a point.
use Rattle.std.specs.Prelude.{◌<◌, List, Option, None, Some}
use Rattle.fr_program.specs.declared.ids.Point.{Point}
use Rattle.fr_program.specs.Program.{Program}
use Rattle.fr_program.specs.Lookup.{IsPoint}
use Rattle.fr_program.specs.Points.{point_number}
use Rattle.fr_rules.specs.declared.rules.Rule.{Rule}
use Rattle.fr_rules.specs.Rule.{number_of}
use Rattle.fr_notes.specs.Note.{Note}
use Rattle.fr_edge.specs.declared.failure.Own.{Own}
use Rattle.fr_edge.specs.declared.failure.Own.TheVariants.{Entry as FailsEntry, Rule as FailsRule, Goes as FailsGoes}
use Rattle.fr_edge.specs.Own.{Entry, KeepsRule, Goes}

-- the entry, and each rule
abbrev pub KeepsRules : Program → List Note → Point → Type 0
KeepsRules P notes p = (rule : Rule) → KeepsRule P notes p rule

-- the rule fails, and each one with a lesser number is kept
abbrev pub IsLeastRule : Program → List Note → Point → Rule → Type 0
IsLeastRule P notes p rule =
    (KeepsRule P notes p rule → ⊥) × ((other : Rule) → number_of other < number_of rule → KeepsRule P notes p other)

-- all of the point's own obligations hold, or this one fails and all that come before it hold: the entry, the rules by
-- their numbers, the points to which steps go by theirs
abbrev pub IsFirstOwn : Program → List Note → Point → Option Own → Type 0
IsFirstOwn P notes p None = Entry P notes p × KeepsRules P notes p × ((t : Point) → Goes P notes p t)
IsFirstOwn P notes p (Some FailsEntry) = Entry P notes p → ⊥
IsFirstOwn P notes p (Some (FailsRule rule)) = Entry P notes p × IsLeastRule P notes p rule
IsFirstOwn P notes p (Some (FailsGoes t)) =
    Entry P notes p × KeepsRules P notes p × IsPoint P t × (Goes P notes p t → ⊥)
    × ((other : Point) → IsPoint P other → point_number P other < point_number P t → Goes P notes p other)

-- The names of what can fail at a point, as reports for machines have them.
use Rattle.std.specs.Prelude.{ℕ, List, codes}
use Rattle.fr_judge.specs.declared.part.Part.{Part}
use Rattle.fr_judge.specs.declared.part.Part.TheVariants as part
use Rattle.fr_formats.specs.Names.{rule_name}

-- the name of a part of a verdict: that of its rule, or a word
abbrev pub part_name : Part → List ℕ
part_name part.Entry = codes "entry"
part_name (part.Rule rule) = rule_name rule
part_name (part.Goes to) = codes "goes-to"
part_name (part.Guard end) = codes "guard"
part_name (part.Near from) = codes "near"
part_name (part.Spoiled from) = codes "spoiled-by"

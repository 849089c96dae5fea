-- Where actors are, in words.
--
-- | word           | meaning                                                                        |
-- |----------------|--------------------------------------------------------------------------------|
-- | standing_text  | where an actor is, with its line of code, and that line's place in a source where it is explained |
-- | standings_text | the same of several actors, a line each                                        |
-- | IsHere, IsPlaced | the point is one of its actor, with its line of code; the actor is this one  |
-- | place_said     | the place of the actor in a state, as it is said                               |
use Rattle.std.specs.Prelude.{◌≡◌, ◌++◌, ℕ, Bool, if◌then◌else◌, List, [], None, Some, codes, decimal, flat_map, string_bytes}
use Rattle.fr_program.specs.declared.ids.ActorId.{ActorId}
use Rattle.fr_program.specs.Program.{Program}
use Rattle.fr_program.specs.Lookup.{actor_at}
use Rattle.fr_program.specs.Uses.{side_text}
use Rattle.fr_rules.specs.State.{Place, At, Done}
use Rattle.fr_wording.specs.declared.standing.Standing.{Standing}
use Rattle.fr_wording.specs.Listing.{code_text}
use Rattle.fr_wording.specs.Sources.{source_text}

-- where an actor is: `<actor> <instruction> <side>: <line>`, or `<actor> is done`
abbrev pub at_text : Program → Standing → List ℕ
at_text P s = elim s.point [
  | None ↦ (actor_at P s.actor.0).name ++ codes " is done"
  | Some p ↦ (actor_at P s.actor.0).name
      ++ (codes " " ++ (decimal p.pc ++ (codes " " ++ (side_text p.side ++ (codes ": " ++ string_bytes s.code)))))
]

-- the same, with the place in the source where it is explained
abbrev pub standing_text : Bool → Program → Standing → List ℕ
standing_text explains P s = at_text P s ++ (if explains then source_text (string_bytes s.source) else [])

-- the lines of several, each with its newline
abbrev pub standings_text : Bool → Program → List Standing → List ℕ
standings_text explains P lasts = flat_map (λ s. standing_text explains P s ++ codes "\n") lasts

-- the point is one of its actor, and the line of code is that of the point
abbrev pub IsHere : Program → Standing → Type 0
IsHere P s = elim s.point [ None ↦ Unit {0} | Some p ↦ (p.actor ≡ s.actor) × (string_bytes s.code ≡ code_text P p) ]

-- the same, of this actor
abbrev pub IsPlaced : Program → ActorId → Standing → Type 0
IsPlaced P actor s = (s.actor ≡ actor) × IsHere P s

-- the place of the actor in a state, as it is said: that of the point, or nowhere any more
abbrev pub place_said : Standing → Place
place_said s = elim s.point [ None ↦ Done | Some p ↦ At p.pc p.side ]

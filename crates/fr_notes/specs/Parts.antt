-- What the parts of a note say, and why they may be no note.
--
-- | word                    | meaning                                                                           |
-- |-------------------------|-----------------------------------------------------------------------------------|
-- | names                   | whether a list of objects names this one                                          |
-- | count_said              | how often the parts say that an object is held, where they name it                |
-- | claim_said, range_said  | what the parts say of an object, of a variable                                    |
-- | said                    | the alternative that the parts say                                                |
-- | is_live_said            | whether the parts say that an object is live, or held                             |
-- | IsCount, IsNarrowing    | a count that an object can be held, a range inside the declared one               |
-- | HasFault                | the parts have this fault                                                         |
use Rattle.std.specs.Prelude.{◌<◌, ◌≤ℤ◌, ◌||◌, ℕ, ℤ, List, Option, None, Some, Bool, IsTrue, length, map, find, nat_eq, if◌then◌else◌, is_some, Any}
use Rattle.std.specs.List.{list_any, range_with_len}
use Rattle.std.specs.Option.{option_map}
use Rattle.fr_program.specs.declared.ids.ObjId.{ObjId}
use Rattle.fr_program.specs.declared.ids.VarId.{VarId}
use Rattle.fr_program.specs.declared.range.Range.{Range}
use Rattle.fr_program.specs.Program.{Program}
use Rattle.fr_program.specs.Lookup.{variable_at}
use Rattle.fr_rules.specs.State.{kind_of}
use Rattle.fr_notes.specs.declared.note.NoteParts.{NoteParts}
use Rattle.fr_notes.specs.declared.fault.NoteFault.{NoteFault}
use Rattle.fr_notes.specs.declared.fault.NoteFault.TheVariants.{Memory, Count, Lives, Span}
use Rattle.fr_notes.specs.Note.{Alternative, Claim, NotHeld, Alive, Gone, HeldTimes}
use Rattle.fr_notes.specs.Fits.{CanClaim}
use Rattle.fr_notes.specs.View.{ends_of}

-- whether the list names this object
abbrev pub names : List ObjId → ℕ → Bool
names objects o = list_any (λ named. nat_eq named.0 o) objects

-- how often the object is held, if the list names it; where it does so twice, the first one counts
abbrev pub count_in : List (ObjId × ℕ) → ℕ → Option ℕ
count_in held o = option_map (λ h. h.1) (find (λ h. nat_eq h.0.0 o) held)

-- how often the parts say that the object is held, if they name it as held
abbrev pub count_said : NoteParts → ℕ → Option ℕ
count_said parts o = count_in parts.held.items o

-- an object that isn't held so often
abbrev pub unheld_said : NoteParts → ℕ → Claim
unheld_said parts o = if names parts.dead.items o then Gone else (if names parts.live.items o then Alive else NotHeld)

-- held so often where a count is said, else the other claim
abbrev pub claim_by : Option ℕ → Claim → Claim
claim_by None other = other
claim_by (Some count) other = HeldTimes count

-- what the parts say of an object: held so often, dead, live, or by default not held
abbrev pub claim_said : NoteParts → ℕ → Claim
claim_said parts o = claim_by (count_said parts o) (unheld_said parts o)

-- the range that the list gives the variable first, if it names it
abbrev pub range_in : List (VarId × Range) → ℕ → Option Range
range_in narrower x = option_map (λ r. r.1) (find (λ r. nat_eq r.0.0 x) narrower)

-- the range that is named, if there is one, else the declared one
abbrev pub range_by : Option Range → ℤ × ℤ → ℤ × ℤ
range_by None declared = declared
range_by (Some range) declared = ends_of range

-- what the parts say of a variable: the range that they name, or by default the declared one
abbrev pub range_said : Program → List (VarId × Range) → ℕ → ℤ × ℤ
range_said P narrower x = range_by (range_in narrower x) ((variable_at P x).lo, (variable_at P x).hi)

-- the one alternative that the parts say
abbrev pub said : Program → NoteParts → Alternative
said P parts = record {
  critical = parts.crit;
  suspended = parts.susp;
  claims = map (claim_said parts) (range_with_len 0 (length P.objects));
  ranges = map (range_said P parts.range.items) (range_with_len 0 (length P.variables));
}

-- whether the parts say that the object is live, or that it is held, and so live
abbrev pub is_live_said : NoteParts → ℕ → Bool
is_live_said parts o = names parts.live.items o || is_some (count_said parts o)

-- the application has this object, and an actor can hold it so often as a note can say
abbrev pub IsCount : Program → ObjId × ℕ → Type 0
IsCount P h = (h.0.0 < length P.objects) × CanClaim (kind_of P h.0.0) (HeldTimes h.1)

-- the application has this variable, and the range is inside its declared one
abbrev pub IsNarrowing : Program → VarId × Range → Type 0
IsNarrowing P r = (r.0.0 < length P.variables) × ((variable_at P r.0.0).lo ≤ℤ r.1.lo) × (r.1.hi ≤ℤ (variable_at P r.0.0).hi)

-- the parts have this fault: a count that can't be, an object both dead and live or held, a range not inside the declared one
abbrev pub HasFault : Program → NoteParts → NoteFault → Type 0
HasFault P parts Memory = ⊥
HasFault P parts Count = Any (λ h. IsCount P h → ⊥) parts.held.items
HasFault P parts Lives = Any (λ o. IsTrue (is_live_said parts o.0)) parts.dead.items
HasFault P parts Span = Any (λ r. IsNarrowing P r → ⊥) parts.range.items

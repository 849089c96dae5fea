-- The text of a run that was found for a trace.
--
-- | word       | meaning                                                                                        |
-- |------------|------------------------------------------------------------------------------------------------|
-- | step_text  | the line of a step, as `run` prints it                                                         |
-- | IsItemLine | the line of an item: a step, or an event as a comment                                          |
-- | IsRunText  | the lines of all items, in their order                                                         |
-- | IsRunIn    | the run that an answer has                                                                     |
-- | IsRunFor   | its lines, where they are asked for and it has one                                             |
use Rattle.std.specs.Prelude.{◌≡◌, ◌++◌, ℕ, Bool, List, [], ◌∷◌, Option, None, Some, IsTrue, codes, encode_utf8_all}
use Rattle.std.specs.Fmt.{signed_decimal}
use Rattle.fr_escape.specs.Plain.{plain}
use Rattle.fr_program.specs.Program.{Program}
use Rattle.fr_program.specs.Lookup.{actor_at}
use Rattle.fr_states.specs.declared.step.StepTaken.{StepTaken}
use Rattle.fr_explained.specs.declared.item.Item.{Item}
use Rattle.fr_explained.specs.declared.item.Item.TheVariants.{Step as StepItem, Event as EventItem}
use Rattle.fr_explained.specs.declared.followed.Followed.{Followed}
use Rattle.fr_explained.specs.declared.followed.Followed.TheVariants.{Whole, UpToLost, Strays, Stops, Breaks, GaveUp}

-- the line of a step, as `run` prints it
abbrev pub step_text : Program → StepTaken → List ℕ
step_text P step = (actor_at P step.actor.0).name ++ (codes " step " ++ (signed_decimal step.choice ++ codes "\n"))

-- the line of an item: a step, or an event as a comment, in which what ends a line is written as in a literal
abbrev pub IsItemLine : Program → Item → List ℕ → Type 0
IsItemLine P (StepItem step) line = line ≡ step_text P step
IsItemLine P EventItem line = (said : List ℕ) × (line ≡ codes "  # " ++ (encode_utf8_all (plain said) ++ codes "\n"))

-- the lines of all items, in their order
abbrev pub IsRunText : Program → List Item → List ℕ → Type 0
IsRunText P [] text = text ≡ []
IsRunText P (item ∷ items) text = (line : List ℕ) × (rest : List ℕ) × IsItemLine P item line × IsRunText P items rest × (text ≡ line ++ rest)

-- the run that an answer has
abbrev pub IsRunIn : Followed → List Item → Type 0
IsRunIn (Whole run) items = items ≡ run.items
IsRunIn (UpToLost event run) items = items ≡ run.items
IsRunIn (Strays event run) items = items ≡ run.items
IsRunIn (Stops event run proved) items = items ≡ run.items
IsRunIn (Breaks event rule actor run) items = items ≡ run.items
IsRunIn (GaveUp event) items = ⊥

-- the lines of that run; where they are asked for, there are none only if the answer has no run
abbrev pub IsRunFor : Bool → Program → Followed → Option (List ℕ) → Type 0
IsRunFor asks P f (Some text) = (items : List Item) × IsRunIn f items × IsRunText P items text
IsRunFor asks P f None = IsTrue asks → (items : List Item) → IsRunIn f items → ⊥

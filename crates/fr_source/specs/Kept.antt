-- For private clauses: how it is seen that tidied lines show others what the plain ones show.
--
-- Each tidied line is a plain line, which does what it did, or asks for the opposite, or returns. For each line of the tidied code there
-- is a mark, which says where the gotos from there end; for each plain line there is an aim, the mark of where the tidied code goes on.
--
-- | word                  | meaning                                                                     |
-- |-----------------------|-----------------------------------------------------------------------------|
-- | inverse, turned, made | what a line that is kept does                                               |
-- | MadeAt, AreMade       | the tidied lines are plain lines that are kept so                           |
-- | JumpsTo               | a line is a goto to another                                                 |
-- | Slides, Marked, AreMarks | where the gotos from a line end, as a mark                               |
-- | Aims, Meets           | the tidied code goes on there for a plain line                              |
-- | Tidied, LineIs        | the tidied code with its marks and aims; a line of it                       |
-- | SkipsIf, SameIf, OppositeIf, KeepsIf, KeepsAct, KeepsStep, KeepsLine, KeepsAll | what is found out for each plain line |
use Rattle.std.specs.Prelude.{◌≡◌, ◌⊎◌, ◌<◌, ℕ, suc, List, Option, Some, false, length, slice_get, unwrap_or}
use Rattle.fr_source.specs.declared.expand.Line.{Line}
use Rattle.fr_source.specs.declared.program.Action.{Action}
use Rattle.fr_source.specs.declared.program.Action.TheVariants.{If, Goto, Return, End}
use Rattle.fr_source.specs.declared.program.Comparison.{Comparison}
use Rattle.fr_source.specs.declared.program.Comparison.TheVariants.{Equal, Unequal, Less, AtMost, Greater, AtLeast}
use Rattle.fr_source.specs.declared.program.Operand.{Operand}
use Rattle.fr_source.specs.declared.program.Variable.{Variable}
use Rattle.fr_source.specs.declared.visible.Form.{Form}
use Rattle.fr_source.specs.declared.visible.Form.TheVariants.{Same, Turned, Returns}
use Rattle.fr_source.specs.declared.visible.Kept.{Kept}
use Rattle.fr_source.specs.Steps.{Values, Glides, ends, looks}

-- the comparison that holds where this one doesn't
abbrev pub inverse : Comparison → Comparison
inverse Equal = Unequal
inverse Unequal = Equal
inverse Less = AtLeast
inverse AtMost = Greater
inverse Greater = AtMost
inverse AtLeast = Less

-- an `if` that asks for the opposite
abbrev pub turned : Action → Action
turned (If left comparison right) = If left (inverse comparison) right
turned action = action

-- what a line does that is kept in this form
abbrev pub made : Form → Action → Action
made Same action = action
made Turned action = turned action
made Returns action = Return

-- the line is the plain line that is kept as line n, in its form
abbrev pub MadeAt : List Line → List Kept → ℕ → Line → Type 0
MadeAt plain kept n line =
    (k : Kept) → (was : Line) → slice_get kept n ≡ Some k → slice_get plain k.from ≡ Some was → line.action ≡ made k.form was.action

-- so is each tidied line
abbrev pub AreMade : List Line → List Kept → List Line → Type 0
AreMade plain kept lines = (n : ℕ) → (line : Line) → slice_get lines n ≡ Some line → MadeAt plain kept n line

-- line n is a goto to line m
abbrev pub JumpsTo : List Line → ℕ → ℕ → Type 0
JumpsTo lines n m = (line : Line) × (slice_get lines n ≡ Some line) × (line.action ≡ Goto) × (line.to ≡ Some m)

-- gotos lead from line n to line m
abbrev pub Slides : List Variable → List Line → ℕ → ℕ → Type 0
Slides variables lines n m = (v : Values) → Glides variables lines v n m

-- the line returns
abbrev pub IsReturn : List Line → ℕ → Type 0
IsReturn lines n = (line : Line) × (slice_get lines n ≡ Some line) × (line.action ≡ Return)

-- the gotos from line n end at a return, or at the line before the mark
abbrev pub Marked : List Variable → List Line → ℕ → ℕ → Type 0
Marked variables lines n mark =
    (m : ℕ) × Slides variables lines n m × (((mark ≡ 0) × IsReturn lines m) ⊎ (mark ≡ suc m))

abbrev pub AreMarks : List Variable → List Line → List ℕ → Type 0
AreMarks variables lines marks = (n mark : ℕ) → slice_get marks n ≡ Some mark → Marked variables lines n mark

-- for plain line p the tidied code goes on where this mark says
abbrev pub Aims : List (Option ℕ) → ℕ → ℕ → Type 0
Aims aims p mark = slice_get aims p ≡ Some (Some mark)

-- it goes on there from line n of the tidied code, too
abbrev pub Meets : List (Option ℕ) → List ℕ → ℕ → ℕ → Type 0
Meets aims marks p n = (mark : ℕ) × Aims aims p mark × (slice_get marks n ≡ Some mark)

-- the tidied code, with its marks, and the aim of each plain line
pub record Tidied : Type 0 where
  pub variables : List Variable
  pub lines : List Line
  pub marks : List ℕ
  pub aims : List (Option ℕ)

abbrev pub tidied : List Variable → List Line → List ℕ → List (Option ℕ) → Tidied
tidied variables lines marks aims = record { variables = variables; lines = lines; marks = marks; aims = aims }

-- line n of the tidied code does this, and goes there
pub record LineIs (t : Tidied) (n : ℕ) (action : Action) (to : Option ℕ) : Type 0 where
  pub line : Line
  pub there : slice_get t.lines n ≡ Some line
  pub does : line.action ≡ action
  pub goes : line.to ≡ to

-- an `if` on the actor's own variables isn't needed: both its ways go on at the mark
pub record SkipsIf (t : Tidied) (p mark : ℕ) (left right : Operand) (target : ℕ) : Type 0 where
  pub own : looks t.variables left right ≡ false
  pub far : Aims t.aims target mark
  pub near : Aims t.aims (suc p) mark

-- the line before the mark is the same `if`, and goes on as it did
pub record SameIf (t : Tidied) (p mark : ℕ) (action : Action) (target : ℕ) : Type 0 where
  pub n : ℕ
  pub to : ℕ
  pub before : mark ≡ suc n
  pub is : LineIs t n action (Some to)
  pub far : Meets t.aims t.marks target to
  pub near : Meets t.aims t.marks (suc p) mark

-- the line before the mark asks for the opposite, and goes on the other way round
pub record OppositeIf (t : Tidied) (p mark : ℕ) (action : Action) (target : ℕ) : Type 0 where
  pub n : ℕ
  pub to : ℕ
  pub before : mark ≡ suc n
  pub is : LineIs t n (turned action) (Some to)
  pub far : Meets t.aims t.marks target mark
  pub near : Meets t.aims t.marks (suc p) to

-- what is found out for an `if` that goes to the target
abbrev pub KeepsIf : Tidied → ℕ → ℕ → Action → Operand → Operand → ℕ → Type 0
KeepsIf t p mark action left right target =
    SkipsIf t p mark left right target ⊎ (SameIf t p mark action target ⊎ OppositeIf t p mark action target)

-- the line before the mark does the same, and both where it goes on and where it fails the tidied code goes on as it did
pub record KeepsAct (t : Tidied) (p mark : ℕ) (action : Action) (to : Option ℕ) : Type 0 where
  pub n : ℕ
  pub now : Option ℕ
  pub before : mark ≡ suc n
  pub is : LineIs t n action now
  pub on : ends action ≡ false → Meets t.aims t.marks (suc p) mark
  pub failed : ends action ≡ false → Meets t.aims t.marks (unwrap_or to (suc p)) (unwrap_or now mark)

-- what is found out for plain line p, which does this and goes there, and whose aim is the mark
abbrev pub KeepsStep : Tidied → ℕ → ℕ → Action → Option ℕ → Type 0
KeepsStep t p mark Goto to = (m : ℕ) × (to ≡ Some m) × Aims t.aims m mark
KeepsStep t p mark (If left comparison right) to = (m : ℕ) × (to ≡ Some m) × KeepsIf t p mark (If left comparison right) left right m
KeepsStep t p mark Return to = mark ≡ 0
KeepsStep t p mark End to = Unit {0}
KeepsStep t p mark action to = KeepsAct t p mark action to

abbrev pub KeepsLine : Tidied → List Line → ℕ → Type 0
KeepsLine t plain p = (mark : ℕ) → (line : Line) → Aims t.aims p mark → slice_get plain p ≡ Some line → KeepsStep t p mark line.action line.to

-- so it is for each plain line, and the tidied code begins where the plain one does
pub record KeepsAll (t : Tidied) (plain : List Line) : Type 0 where
  pub marked : AreMarks t.variables t.lines t.marks
  pub first : Meets t.aims t.marks 0 0
  pub each : (p : ℕ) → p < length plain → KeepsLine t plain p

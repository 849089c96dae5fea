-- What others see of the lines of an actor: for the contract of `tidied`.
--
-- An actor goes from line to line. Of a goto, and of an `if` on variables of its own, no other actor sees anything. Of every other line
-- others see what it does. What a line makes of the variables isn't said here: a step that is seen has some values before and after.
-- Between two steps that are seen, other actors may change the variables that are shared.
--
-- | word                   | meaning                                                                    |
-- |------------------------|----------------------------------------------------------------------------|
-- | Values, value_in       | the values of the variables, by their places; that of an operand           |
-- | compare                | whether a comparison holds                                                 |
-- | is_shared, looks       | a variable is shared; an `if` looks at a shared variable                   |
-- | deletes, ends          | a task deletes itself; no way leads from a line to the next one            |
-- | Seen                   | what others see of a step                                                  |
-- | Chooses                | where an `if` goes                                                         |
-- | HidesAt, Hides         | a step that nobody else sees leads from one line to another                |
-- | ShowsAt, Shows         | a step that others see so leads from one line to another                   |
-- | Glides                 | steps that nobody else sees lead from one line to another                  |
-- | OwnStay                | the actor's own variables have the same values                             |
-- | CanShow                | from this line on, others can see these steps, one after another           |
-- | ShowsNoLess            | whatever others can see of some lines they can see of others               |
use Rattle.std.specs.Prelude.{◌≡◌, ℕ, suc, ℤ, List, [], ◌∷◌, Option, None, Some, Bool, true, false, not, int_lt, slice_get, unwrap_or}
use Rattle.std.specs.Ordering.{int_eq}
use Rattle.fr_source.specs.declared.expand.Line.{Line}
use Rattle.fr_source.specs.declared.kernel.KernelCall.{KernelCall}
use Rattle.fr_source.specs.declared.kernel.KernelCall.TheVariants.{DeleteTask}
use Rattle.fr_source.specs.declared.program.Action.{Action}
use Rattle.fr_source.specs.declared.program.Action.TheVariants.{Call as Calls, If, Goto, Return, End}
use Rattle.fr_source.specs.declared.program.Operand.{Operand}
use Rattle.fr_source.specs.declared.program.Operand.TheVariants.{Number, Variable as OfVariable}
use Rattle.fr_source.specs.declared.program.Comparison.{Comparison}
use Rattle.fr_source.specs.declared.program.Comparison.TheVariants.{Equal, Unequal, Less, AtMost, Greater, AtLeast}
use Rattle.fr_source.specs.declared.program.Owner.{Owner}
use Rattle.fr_source.specs.declared.program.Owner.TheVariants.{Everyone}
use Rattle.fr_source.specs.declared.program.Variable.{Variable}

-- the values of the variables, by their places
abbrev pub Values : Type 0
Values = ℕ → ℤ

-- the value of an operand
abbrev pub value_in : Values → Operand → ℤ
value_in v (Number n) = n
value_in v (OfVariable x) = v x

-- whether the comparison holds
abbrev pub compare : Comparison → ℤ → ℤ → Bool
compare Equal a b = int_eq a b
compare Unequal a b = not (int_eq a b)
compare Less a b = int_lt a b
compare AtMost a b = not (int_lt b a)
compare Greater a b = int_lt b a
compare AtLeast a b = not (int_lt a b)

-- every actor may use the variable
abbrev pub is_everyones : Option Variable → Bool
is_everyones None = false
is_everyones (Some variable) = of variable.owner
  where
    of : Owner → Bool
    of Everyone = true
    of owner = false

-- the variable in this place is shared
abbrev pub is_shared : List Variable → ℕ → Bool
is_shared variables x = is_everyones (slice_get variables x)

-- the operand is a shared variable
abbrev pub is_shared_operand : List Variable → Operand → Bool
is_shared_operand variables (Number n) = false
is_shared_operand variables (OfVariable x) = is_shared variables x

-- an `if` on these operands looks at a shared variable
abbrev pub looks : List Variable → Operand → Operand → Bool
looks variables left right = by (is_shared_operand variables left)
  where
    by : Bool → Bool
    by true = true
    by false = is_shared_operand variables right

-- the call by which a task deletes itself
abbrev pub deletes : KernelCall → Bool
deletes DeleteTask = true
deletes call = false

-- no way leads from the line to the next one
abbrev pub ends : Action → Bool
ends Goto = true
ends Return = true
ends End = true
ends (Calls answer call) = deletes call.kernel
ends action = false

-- what others see of a step: what the line does, whether it goes on as one that worked, and the values before and after; or which
-- operands an `if` looks at, one of them shared
pub data Seen : Type 0 where
  Did : Action → Bool → Values → Values → Seen
  Looked : Operand → Operand → Values → Seen

-- where an `if` goes: to its target if its comparison holds, else to the next line
abbrev pub Chooses : Bool → ℕ → Option ℕ → ℕ → Type 0
Chooses true n to m = to ≡ Some m
Chooses false n to m = m ≡ suc n

-- nobody else sees the step of this line
abbrev pub HidesAt : List Variable → Values → ℕ → Action → Option ℕ → ℕ → Type 0
HidesAt variables v n Goto to m = to ≡ Some m
HidesAt variables v n (If left comparison right) to m =
    (looks variables left right ≡ false) × Chooses (compare comparison (value_in v left) (value_in v right)) n to m
HidesAt variables v n action to m = ⊥

-- a step that nobody else sees leads from line n to line m
pub record Hides (variables : List Variable) (code : List Line) (v : Values) (n m : ℕ) : Type 0 where
  pub line : Line
  pub there : slice_get code n ≡ Some line
  pub step : HidesAt variables v n line.action line.to m

-- others see the step of this line so: an interrupt that returns begins anew, a call that fails goes to its target, if it has one, and
-- no other line ends
abbrev pub ShowsAt : List Variable → ℕ → Action → Option ℕ → Seen → ℕ → Type 0
ShowsAt variables n Goto to seen m = ⊥
ShowsAt variables n End to seen m = ⊥
ShowsAt variables n (If left comparison right) to (Looked l r v) m =
    (l ≡ left) × (r ≡ right) × (looks variables left right ≡ true)
    × Chooses (compare comparison (value_in v left) (value_in v right)) n to m
ShowsAt variables n (If left comparison right) to seen m = ⊥
ShowsAt variables n Return to (Did Return true v w) m = m ≡ 0
ShowsAt variables n Return to seen m = ⊥
ShowsAt variables n action to (Did done true v w) m = (done ≡ action) × (ends action ≡ false) × (m ≡ suc n)
ShowsAt variables n action to (Did done false v w) m = (done ≡ action) × (ends action ≡ false) × (m ≡ unwrap_or to (suc n))
ShowsAt variables n action to seen m = ⊥

-- the values before a step that is seen, and after it
abbrev pub before : Seen → Values
before (Did action worked v w) = v
before (Looked l r v) = v

abbrev pub after : Seen → Values
after (Did action worked v w) = w
after (Looked l r v) = v

-- a step that others see so leads from line n to line m
pub record Shows (variables : List Variable) (code : List Line) (v : Values) (n : ℕ) (seen : Seen) (m : ℕ) : Type 0 where
  pub line : Line
  pub there : slice_get code n ≡ Some line
  pub values : before seen ≡ v
  pub step : ShowsAt variables n line.action line.to seen m

-- steps that nobody else sees lead over these lines to line m
abbrev pub GlidesBy : List Variable → List Line → Values → ℕ → List ℕ → ℕ → Type 0
GlidesBy variables code v n [] m = n ≡ m
GlidesBy variables code v n (k ∷ via) m = Hides variables code v n k × GlidesBy variables code v k via m

abbrev pub Glides : List Variable → List Line → Values → ℕ → ℕ → Type 0
Glides variables code v n m = (via : List ℕ) × GlidesBy variables code v n via m

-- the actor's own variables have the same values
abbrev pub OwnStay : List Variable → Values → Values → Type 0
OwnStay variables v w = (x : ℕ) → is_shared variables x ≡ false → v x ≡ w x

-- from line n on, others can see these steps, one after another
abbrev pub CanShow : List Variable → List Line → Values → ℕ → List Seen → Type 0
CanShow variables code v n [] = Unit {0}
CanShow variables code v n (seen ∷ rest) =
    (m : ℕ) × Glides variables code v n m × (k : ℕ) × (u : Values) × OwnStay variables v u × Shows variables code u m seen k
    × CanShow variables code (after seen) k rest

-- whatever others can see of the actor with the plain lines they can see with the tidied ones
abbrev pub ShowsNoLess : List Variable → List Line → List Line → Type 0
ShowsNoLess variables plain tidied =
    (v : Values) → (steps : List Seen) → CanShow variables plain v 0 steps → CanShow variables tidied v 0 steps

-- What a step can change of what the notes of other actors say. The public contracts of `Index` are said by `effect_at`,
-- `target_of`, `made_of` and `declared_of`; so these, and the words that they use (`effect_by`, `effect_of`, `effect_inside`),
-- are for public contracts. The other words are for private clauses.
--
-- | word                    | meaning                                                                          |
-- |-------------------------|----------------------------------------------------------------------------------|
-- | effect_of, effect_at    | what the steps from a side of an instruction can change; those from a point      |
-- | target_of, made_of      | the variable that an effect writes, the object that it creates or deletes        |
-- | IsMade, IsWritten       | the effect is on this object's life; it gives this variable that number          |
-- | IsSeen                  | all that a note of this actor can say is as it was, but for the effect           |
-- | IsComputable, HasTarget | a product has a number among its factors; the variable that is written is there  |
-- | declared_of             | the declared range of a variable                                                 |
-- | Stays                   | a variable gets numbers of its declared range alone, as the mover's alternative  |
-- |                         | says                                                                             |
-- | IsFree, IsUnclaimed     | an alternative says of a variable, or of an object, no more than each one does   |
-- | Bears, EachBears,       | an alternative holds after an effect where it held before; each of a note's      |
-- |   AllBear               | does; each does whichever alternative the mover has                              |
use Rattle.std.specs.Prelude.{◌≡◌, ◌<◌, ◌≤ℤ◌, ◌⊎◌, ℕ, ℤ, pos, Option, None, Some, All, length}
use Rattle.fr_program.specs.declared.ids.Point.{Point}
use Rattle.fr_program.specs.declared.ids.Side.{Side}
use Rattle.fr_program.specs.declared.ids.Side.TheVariants.{Before, Inside}
use Rattle.fr_program.specs.declared.instr.Instr.{Instr}
use Rattle.fr_program.specs.declared.instr.Instr.TheVariants.{Set, Pick, Call as Calls}
use Rattle.fr_program.specs.declared.instr.Call.TheVariants.{Create, Delete, On}
use Rattle.fr_program.specs.declared.instr.Act.{Act}
use Rattle.fr_program.specs.declared.instr.Act.TheVariants.{Try, Move}
use Rattle.fr_program.specs.declared.instr.Attempt.TheVariants.{QueueReceive}
use Rattle.fr_program.specs.declared.instr.Operator.TheVariants.{Times}
use Rattle.fr_program.specs.declared.parts.Kind.{Kind}
use Rattle.fr_program.specs.declared.parts.Kind.TheVariants.{Queue}
use Rattle.fr_program.specs.Program.{Program}
use Rattle.fr_program.specs.Lookup.{instr_of, variable_at}
use Rattle.fr_program.specs.Fault.{IsConstant}
use Rattle.fr_rules.specs.State.{State, content_of, value_of, depth_of, suspension_of, kind_of}
use Rattle.fr_rules.specs.Rule.{operand_of, result_of}
use Rattle.fr_notes.specs.declared.claim.Claim.{Claim}
use Rattle.fr_notes.specs.declared.claim.Claim.TheVariants.{NotHeld}
use Rattle.fr_notes.specs.Note.{Alternative, Note, Meets, Within, claim_of, range_of}
use Rattle.fr_notes.specs.Implication.{IsPart}
use Rattle.fr_notes.specs.Reckoning.{CanBeIn}
use Rattle.fr_effects.specs.declared.effects.Effect.{Effect}
use Rattle.fr_effects.specs.declared.effects.Effect.TheVariants.{Nothing, Life, Gives, Sets}

-- what the end of an object call can change: a receive gives its variable a value of the queue, a call that moves bytes
-- their number
abbrev pub effect_inside : Act → Kind → Effect
effect_inside (Try (QueueReceive into) e) (Queue size lo hi) = Gives into lo hi
effect_inside (Move end buffer length (Some into)) kind = Gives into (pos 0) (pos length)
effect_inside act kind = Nothing

-- what the steps from this side of an instruction can change
abbrev pub effect_of : Program → Side → Instr → Effect
effect_of P Before (Set target left operator right) = Sets target left operator right
effect_of P Before (Pick target lo hi) = Gives target lo hi
effect_of P Before (Calls (Create kind o e)) = Life o
effect_of P Before (Calls (Delete kind o)) = Life o
effect_of P Inside (Calls (On call)) = effect_inside call.act (kind_of P call.object.0)
effect_of P side i = Nothing

-- the same of an instruction that may be missing, and of a point
abbrev pub effect_by : Program → Side → Option Instr → Effect
effect_by P side None = Nothing
effect_by P side (Some i) = effect_of P side i

abbrev pub effect_at : Program → Point → Effect
effect_at P q = effect_by P q.side (instr_of P q)

-- the variable that an effect writes
abbrev pub target_of : Effect → Option ℕ
target_of (Gives x lo hi) = Some x.0
target_of (Sets x left operator right) = Some x.0
target_of effect = None

-- the object that it creates or deletes
abbrev pub made_of : Effect → Option ℕ
made_of (Life o) = Some o.0
made_of effect = None

-- the effect is on the life of this object
abbrev pub IsMade : Effect → ℕ → Type 0
IsMade (Life o) k = o.0 ≡ k
IsMade effect k = ⊥

-- the effect, in this state, gives this variable that number
abbrev pub IsWritten : Effect → State → ℕ → ℤ → Type 0
IsWritten (Gives x lo hi) S y v = (x.0 ≡ y) × (lo ≤ℤ v) × (v ≤ℤ hi)
IsWritten (Sets x l op r) S y v = (x.0 ≡ y) × (v ≡ result_of op (operand_of S l) (operand_of S r))
IsWritten effect S y v = ⊥

-- from S to T all that a note of this actor can say is as it was, but for the effect: of an object that is made or
-- deleted, it is so still that the actor doesn't hold it
pub record IsSeen (effect : Effect) (b : ℕ) (S T : State) : Type 0 where
  pub critical : depth_of T b ≡ depth_of S b
  pub suspended : suspension_of T b ≡ suspension_of S b
  pub objects : (o : ℕ) (claim : Claim) → (IsMade effect o → claim ≡ NotHeld) → Meets b claim (content_of S o) → Meets b claim (content_of T o)
  pub values : (x : ℕ) → (value_of T x ≡ value_of S x) ⊎ IsWritten effect S x (value_of T x)

-- the alternative holds after the effect where it held before: it doesn't speak of the object's life, and its range of
-- the variable has every number that the variable can get where the mover's alternative holds
abbrev pub Bears : Effect → Alternative → Alternative → Type 0
Bears Nothing m n = Unit {0}
Bears (Life o) m n = claim_of n o.0 ≡ NotHeld
Bears (Gives x lo hi) m n = Within (range_of n x.0) lo × Within (range_of n x.0) hi
Bears (Sets x l op r) m n = (u v : ℤ) → CanBeIn (range_of m) l u → CanBeIn (range_of m) r v → Within (range_of n x.0) (result_of op u v)

-- so it is of each alternative of the note
abbrev pub EachBears : Effect → Alternative → Note → Type 0
EachBears effect m note = All (λ n. Bears effect m n) note

-- and whichever alternative the mover has
abbrev pub AllBear : Effect → Note → Note → Type 0
AllBear effect others note = All (λ m. EachBears effect m note) others

-- a product has a number among its factors
abbrev pub IsComputable : Effect → Type 0
IsComputable (Sets x l Times r) = IsConstant l ⊎ IsConstant r
IsComputable effect = Unit {0}

-- the variable that is written is one of the application's
abbrev pub HasTarget : Program → Effect → Type 0
HasTarget P (Gives x lo hi) = x.0 < length P.variables
HasTarget P (Sets x l op r) = x.0 < length P.variables
HasTarget P effect = Unit {0}

-- the declared range of a variable
abbrev pub declared_of : Program → ℕ → ℤ × ℤ
declared_of P x = ((variable_at P x).lo, (variable_at P x).hi)

-- every number that the variable can get, where the mover's alternative holds, is in its declared range
abbrev pub Stays : Program → Effect → Alternative → Type 0
Stays P (Gives x lo hi) m = Within (declared_of P x.0) lo × Within (declared_of P x.0) hi
Stays P (Sets x l op r) m = (u v : ℤ) → CanBeIn (range_of m) l u → CanBeIn (range_of m) r v → Within (declared_of P x.0) (result_of op u v)
Stays P effect m = Unit {0}

-- the alternative says of the variable no more than its declared range
abbrev pub IsFree : Program → ℕ → Alternative → Type 0
IsFree P x n = IsPart (declared_of P x) (range_of n x)

-- it says of the object no more than that the actor doesn't hold it
abbrev pub IsUnclaimed : ℕ → Alternative → Type 0
IsUnclaimed o n = claim_of n o ≡ NotHeld

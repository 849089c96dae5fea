-- For private clauses: facts that a value of a type carries as a ghost field have one proof at most.
use Rattle.std.proofs.Props.{props as std_props}
use Rattle.fr_program.specs.declared.instr.Instr.{Instr}
use Rattle.fr_program.specs.declared.instr.Instr.TheVariants.{Call as Calls}
use Rattle.fr_program.specs.declared.instr.Call.TheVariants.{On}
use Rattle.fr_program.specs.declared.ids.Side.{Side}
use Rattle.fr_program.specs.declared.ids.Side.TheVariants.{Before, Inside}
use Rattle.fr_program.specs.declared.parts.Kind.{Kind}
use Rattle.fr_program.specs.declared.parts.Kind.TheVariants.{Mutex}
use Rattle.fr_program.specs.Lookup.{HasSide}
use Rattle.fr_notes.specs.Note.{Claim, NotHeld, Alive, Gone, HeldTimes}
use Rattle.fr_notes.specs.Fits.{CanClaim}

-- what can be said of a kind of object
pub CanClaim-prop : (kind : Kind) (claim : Claim) → IsProp (CanClaim kind claim)
CanClaim-prop kind NotHeld = Prim.hlevel std_props
CanClaim-prop kind Alive = Prim.hlevel std_props
CanClaim-prop kind Gone = Prim.hlevel std_props
CanClaim-prop Mutex (HeldTimes count) = Prim.hlevel std_props
CanClaim-prop kind (HeldTimes count) = Prim.hlevel std_props

-- a side at which an actor can stand
pub HasSide-prop : (i : Instr) (side : Side) → IsProp (HasSide i side)
HasSide-prop (Calls (On call)) Inside = Prim.hlevel std_props
HasSide-prop i Inside = Prim.hlevel std_props
HasSide-prop i Before = Prim.hlevel std_props

pub ruleset fact_props = (CanClaim-prop, HasSide-prop, std_props)

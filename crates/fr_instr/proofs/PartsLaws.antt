-- A call is made of what it is and what its line gives, and both are found in it again.
use Rattle.std.proofs.Common.{◌≡◌, ℕ, List, [], ◌∷◌, true, Some, refl}
use Rattle.std.proofs.lemmas.Option.{none-some}
use Rattle.fr_instr.specs.Calls.{made, verb_of, given_of, put, may_fail, may_answer}
use Rattle.fr_instr.specs.Lines.{AreGivenIn, ElseIn, IntoIn}
use Rattle.fr_instr.specs.Names.{NamesOf}
use Rattle.fr_instr.specs.declared.call.Slot.{Slot}
use Rattle.fr_instr.specs.declared.call.When.TheVariants as at
use Rattle.fr_instr.specs.declared.call.Deed.TheVariants.{QueueSend, Move}
use Rattle.fr_instr.specs.declared.call.Verb.{Verb}
use Rattle.fr_instr.specs.declared.call.Verb.TheVariants.{Create, On}
use Rattle.fr_instr.specs.declared.given.Given.{Given}
use Rattle.fr_instr.specs.declared.given.TheConstants.{NOTHING}
use Rattle.fr_program.specs.declared.ids.ObjId.{ObjId}
use Rattle.fr_program.specs.declared.ids.VarId.{VarId}
use Rattle.fr_program.specs.declared.instr.Timing.{Timing}
use Rattle.fr_program.specs.declared.instr.Timing.TheVariants as timing
use Rattle.fr_program.specs.declared.instr.Attempt.TheVariants as attempt
use Rattle.fr_program.specs.declared.instr.Act.{Act}
use Rattle.fr_program.specs.declared.instr.Act.TheVariants as act
use Rattle.fr_program.specs.declared.instr.Call.{Call}
use Rattle.fr_program.specs.declared.instr.Call.TheVariants as call
use Rattle.fr_instr.proofs.CallLaws.{needs, tail_of}

-- g with what h has in each of these places
abbrev pub copied : List Slot → Given → Given → Given
copied [] h g = g
copied (p ∷ ps) h g = copied ps h (put p h g)

-- what the line of a call gives, as it is read: the arguments, and then what is beside the call
abbrev read_again : Call → Given
read_again c = record (copied (needs (verb_of c)) (given_of c) NOTHING) { or_else = (given_of c).or_else; into = (given_of c).into }

abbrev on : ObjId → Timing → Act → Call
on o t a = call.On (record { object = o; timing = t; act = a })

object_again : (o : ObjId) (t : Timing) (a : Act) → made (verb_of (on o t a)) (read_again (on o t a)) ≡ on o t a
object_again o timing.Now (act.Try (attempt.QueueSend x) e) = refl
object_again o timing.FromIsr (act.Try (attempt.QueueSend x) e) = refl
object_again o (timing.Waits time) (act.Try (attempt.QueueSend x) e) = refl
object_again o t a = refl

pub made_again : (c : Call) → made (verb_of c) (read_again c) ≡ c
made_again (call.On c) = object_again c.object c.timing c.act
made_again c = refl

pub verb_made : (v : Verb) (g : Given) → verb_of (made v g) ≡ v
verb_made (On at.Now QueueSend) g = refl
verb_made (On at.FromIsr QueueSend) g = refl
verb_made (On at.Waits QueueSend) g = refl
verb_made v g = refl

-- what the arguments gave is given by the call that is made
pub args_kept : (N : NamesOf) (v : Verb) (g : Given) → AreGivenIn N (needs v) g → AreGivenIn N (needs v) (given_of (made v g))
args_kept N (On at.Now QueueSend) g h = h
args_kept N (On at.FromIsr QueueSend) g h = h
args_kept N (On at.Waits QueueSend) g h = h
args_kept N v g h = h

pub else_kept : (v : Verb) (g : Given) → ElseIn g.or_else → ElseIn (given_of (made v g)).or_else
else_kept (Create kind) g h = h
else_kept (On when (Move side kind)) g h = tt
else_kept (On when deed) g h = h
else_kept v g h = tt

pub into_kept : (N : NamesOf) (v : Verb) (g : Given) → IntoIn N g.into → IntoIn N (given_of (made v g)).into
into_kept N (On when (Move side kind)) g h = h
into_kept N v g h = tt

-- only a call that may fail has a target, and only one that answers a number has a variable
object_may_fail : (o : ObjId) (t : Timing) (a : Act) (k : ℕ) → (given_of (on o t a)).or_else ≡ Some k → may_fail (tail_of (verb_of (on o t a))) ≡ true
object_may_fail o t (act.Move side kind n v) k e = absurd (none-some k e)
object_may_fail o t (act.Try (attempt.QueueSend x) g) k e = refl
object_may_fail o t a k e = refl

pub else_may_fail : (c : Call) (k : ℕ) → (given_of c).or_else ≡ Some k → may_fail (tail_of (verb_of c)) ≡ true
else_may_fail (call.Create kind o g) k e = refl
else_may_fail (call.On c) k e = object_may_fail c.object c.timing c.act k e
else_may_fail c k e = absurd (none-some k e)

object_may_answer : (o : ObjId) (t : Timing) (a : Act) (x : VarId) → (given_of (on o t a)).into ≡ Some x → may_answer (tail_of (verb_of (on o t a))) ≡ true
object_may_answer o t (act.Move side kind n v) x e = refl
object_may_answer o t (act.Try (attempt.QueueSend y) g) x e = absurd (none-some x e)
object_may_answer o t a x e = absurd (none-some x e)

pub into_may_answer : (c : Call) (x : VarId) → (given_of c).into ≡ Some x → may_answer (tail_of (verb_of c)) ≡ true
into_may_answer (call.On c) x e = object_may_answer c.object c.timing c.act x e
into_may_answer c x e = absurd (none-some x e)

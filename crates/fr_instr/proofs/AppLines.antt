-- The lines of an application can be written: what they name is there, and their numbers are within the limits of their
-- places.
use Rattle.std.proofs.Common.{◌≡◌, ◌<◌, ◌≤◌, ℕ, List, [], ◌∷◌, ◌++◌, Option, None, Some, true, IfSome, length, refl, sym, ap, ◌∙◌, subst, arith}
use Rattle.std.specs.Prelude.{All}
use Rattle.std.proofs.lemmas.List.{length-map}
use Rattle.std.proofs.lemmas.List.Elements.{All-tail}
use Rattle.fr_program.specs.declared.ids.ObjId.{ObjId}
use Rattle.fr_program.specs.declared.ids.VarId.{VarId}
use Rattle.fr_program.specs.declared.instr.Act.{Act}
use Rattle.fr_program.specs.declared.instr.Act.TheVariants.{Try, Move}
use Rattle.fr_program.specs.declared.instr.Attempt.TheVariants.{QueueSend, QueueReceive, Take, Give, Reset}
use Rattle.fr_program.specs.declared.instr.ObjectCall.{ObjectCall}
use Rattle.fr_instr.specs.declared.call.Slot.{Slot}
use Rattle.fr_instr.specs.declared.given.Given.{Given}
use Rattle.fr_instr.specs.Names.{NamesOf}
use Rattle.fr_instr.proofs.CallLaws.{needs, deed_needs, when_needs, is_timely, listed, places_fit, verb_is}
use Rattle.fr_program.specs.declared.instr.Call.{Call}
use Rattle.fr_program.specs.declared.instr.Call.TheVariants.{Delay, DeleteSelf, Create, Delete, On}
use Rattle.fr_program.specs.declared.instr.Instr.{Instr}
use Rattle.fr_program.specs.declared.instr.Instr.TheVariants.{Set, If, Goto, Pick, Call as Calls, Return}
use Rattle.fr_program.specs.declared.instr.Operand.{Operand}
use Rattle.fr_program.specs.declared.instr.Operand.TheVariants.{Number, Variable}
use Rattle.fr_program.specs.declared.instr.Timing.{Timing}
use Rattle.fr_program.specs.declared.instr.Timing.TheVariants.{Now, Waits, FromIsr}
use Rattle.fr_program.specs.Program.{Program, VariableOf, ObjectOf}
use Rattle.fr_program.specs.Lookup.{actor_at, instr_at, no_actor}
use Rattle.fr_program.specs.Limits.{OperandInLimits, TimingInLimits, ActInLimits, InstrInLimits}
use Rattle.fr_program.specs.Uses.{operand_variables, option_list, act_variables, TargetsBelow, else_of}
use Rattle.fr_program.specs.Fault.{IsFaultless, NamesThings}
use Rattle.fr_program.proofs.InstrLemmas.{instr_at-within}
use Rattle.fr_instr.specs.AppNames.{names_in}
use Rattle.fr_instr.specs.Calls.{is_same, when_of, deed_of, verb_of, act_given, given_of}
use Rattle.fr_instr.specs.Lines.{VariableIn, OperandIn, AreGivenIn, ElseIn, IntoIn, IsLineIn}

-- the variables are the application's
abbrev AreThere : Program → List VarId → Type 0
AreThere P xs = All (λ x. x.0 < length P.variables) xs

variable-in : (P : Program) (x : VarId) → x.0 < length P.variables → VariableIn (names_in P) x
variable-in P x below = subst (λ n. x.0 < n) (sym (length-map P.variables (λ (v : VariableOf). v.name))) below

object-in : (P : Program) (o : ObjId) → o.0 < length P.objects → o.0 < length (names_in P).objects
object-in P o below = subst (λ n. o.0 < n) (sym (length-map P.objects (λ (x : ObjectOf). x.name))) below

operand-in : (P : Program) (a : Operand) → OperandInLimits a → AreThere P (operand_variables a) → OperandIn (names_in P) a
operand-in P (Number z) fits there = fits
operand-in P (Variable x) fits there = variable-in P x (there 0 x (omega arith))

both-in : (P : Program) (l r : Operand) → OperandInLimits l → OperandInLimits r → AreThere P (operand_variables l ++ operand_variables r) →
    OperandIn (names_in P) l × OperandIn (names_in P) r
both-in P (Number y) (Number z) left right there = (left, right)
both-in P (Number y) (Variable z) left right there = (left, variable-in P z (there 0 z (omega arith)))
both-in P (Variable y) (Number z) left right there = (variable-in P y (there 0 y (omega arith)), right)
both-in P (Variable y) (Variable z) left right there = (variable-in P y (there 0 y (omega arith)), variable-in P z (there 1 z (omega arith)))

else-in : (n : ℕ) (e : Option ℕ) → n ≤ 512 → IfSome e (λ target. target < n) → ElseIn e
else-in n None short below = tt
else-in n (Some target) short below = omega arith

into-in : (P : Program) (x : Option VarId) → AreThere P (option_list x) → IntoIn (names_in P) x
into-in P None there = tt
into-in P (Some x) there = variable-in P x (there 0 x (omega arith))

joined-in : (N : NamesOf) (ps qs : List Slot) (g : Given) → AreGivenIn N ps g → AreGivenIn N qs g → AreGivenIn N (ps ++ qs) g
joined-in N [] qs g h k = k
joined-in N (p ∷ ps) qs g h k = (h.0, joined-in N ps qs g h.1 k)

deed-in : (P : Program) (c : ObjectCall) (act : Act) → c.act ≡ act → ActInLimits act → AreThere P (act_variables act) → AreGivenIn (names_in P) (deed_needs (deed_of act)) (given_of (On c))
deed-in P c (Try (QueueSend value) e) is fits there = rw is (operand-in P value fits there, tt)
deed-in P c (Try (QueueReceive x) e) is fits there = rw is (variable-in P x (there 0 x (omega arith)), tt)
deed-in P c (Try (Take form) e) is fits there = tt
deed-in P c (Try (Give form) e) is fits there = tt
deed-in P c (Try (Reset kind) e) is fits there = tt
deed-in P c (Move side kind bytes result) is fits there = rw is (fits, tt)

time-in : (P : Program) (c : ObjectCall) (timing : Timing) → c.timing ≡ timing → TimingInLimits timing → AreGivenIn (names_in P) (when_needs (when_of timing)) (given_of (On c))
time-in P c (Waits time) is fits = rw is (fits, tt)
time-in P c Now is fits = tt
time-in P c FromIsr is fits = tt

beside-in : (P : Program) (n : ℕ) (act : Act) → n ≤ 512 → IfSome (else_of act) (λ target. target < n) → AreThere P (act_variables act) →
    ElseIn (act_given act).or_else × IntoIn (names_in P) (act_given act).into
beside-in P n (Try (QueueSend value) e) short below there = (else-in n e short below, tt)
beside-in P n (Try (QueueReceive x) e) short below there = (else-in n e short below, tt)
beside-in P n (Try attempt e) short below there = (else-in n e short below, tt)
beside-in P n (Move side kind bytes result) short below there = (tt, into-in P result there)

-- what the line of a call gives is within the limits of its places, and so is what is beside the call
GivenFits : Program → Call → Type 0
GivenFits P c = AreGivenIn (names_in P) (needs (verb_of c)) (given_of c) × ElseIn (given_of c).or_else × IntoIn (names_in P) (given_of c).into

object-call-in : (P : Program) (n : ℕ) (c : ObjectCall) → n ≤ 512 → TimingInLimits c.timing → ActInLimits c.act → IfSome (else_of c.act) (λ target. target < n) →
    AreThere P (act_variables c.act) → c.object.0 < length P.objects → GivenFits P (On c)
unfolding GivenFits
object-call-in P n c short waits fits below there object =
    let beside = beside-in P n c.act short below there in
    let args = joined-in (names_in P) (deed_needs (deed_of c.act)) (when_needs (when_of c.timing)) (given_of (On c)) (deed-in P c c.act refl fits there) (time-in P c c.timing refl waits) in
    ((object-in P c.object object, args), beside.0, beside.1)

given-in : (P : Program) (n : ℕ) (c : Call) → n ≤ 512 → InstrInLimits (Calls c) → TargetsBelow n (Calls c) → NamesThings P (Calls c) → GivenFits P c
unfolding GivenFits
given-in P n (Delay ticks) short fits below names = ((fits, tt), tt, tt)
given-in P n DeleteSelf short fits below names = ((tt, tt), tt, tt)
given-in P n (Create kind o e) short fits below names = ((object-in P o names.1, tt), else-in n e short below, tt)
given-in P n (Delete kind o) short fits below names = ((object-in P o names.1, tt), tt, tt)
given-in P n (On c) short fits below names = object-call-in P n c short fits.1 fits.2 below names.0 names.1
given-in P n c short fits below names = (tt, tt, tt)

timely : (c : Call) → InstrInLimits (Calls c) → is_timely c ≡ true
timely (On c) fits = fits.0
timely (Delay n) fits = refl
timely c fits = refl

call-in : (P : Program) (n : ℕ) (c : Call) → n ≤ 512 → InstrInLimits (Calls c) → TargetsBelow n (Calls c) → NamesThings P (Calls c) → IsLineIn (names_in P) (Calls c)
unfolding GivenFits
call-in P n c short fits below names =
    let row = listed c (timely c fits) in
    let given = given-in P n c short fits below names in
    let R : List Slot → Type 0 = λ ps. AreGivenIn (names_in P) ps (given_of c) in
    let places = places_fit (λ r. is_same r.verb (verb_of c)) row.0 row.1 ∙ ap needs (verb_is (verb_of c) row.0 row.1) in
    record { row = row.0; listed = row.1; args = subst R (sym places) given.0; target = given.1; variable = given.2 }

instr-in : (P : Program) (n : ℕ) (i : Instr) → n ≤ 512 → InstrInLimits i → TargetsBelow n i → NamesThings P i → IsLineIn (names_in P) i
instr-in P n (Set x l op r) short fits below names =
    let operands = both-in P l r fits.0 fits.1 (All-tail (λ y. y.0 < length P.variables) x (operand_variables l ++ operand_variables r) names.0) in
    (variable-in P x (names.0 0 x (omega arith)), operands.0, operands.1)
instr-in P n (If l comparison r target) short fits below names =
    let operands = both-in P l r fits.0 fits.1 names.0 in
    (operands.0, operands.1, omega arith)
instr-in P n (Goto target) short fits below names = omega arith
instr-in P n (Pick x lo hi) short fits below names = (variable-in P x (names.0 0 x (omega arith)), fits.0, fits.1)
instr-in P n (Calls c) short fits below names = call-in P n c short fits below names
instr-in P n Return short fits below names = tt

-- each line of an application is one that can be written with its names
pub line-in : (P : Program) (a pc : ℕ) (i : Instr) → IsFaultless P → instr_at P a pc ≡ Some i → IsLineIn (names_in P) i
line-in P a pc i free at =
    let short : length (actor_at P a).code ≤ 512 = free.small.code a no_actor (instr_at-within P a pc i at) in
    instr-in P (length (actor_at P a).code) i short (free.limits.code a pc i at) (free.targets a pc i at) (free.names.things a pc i at)

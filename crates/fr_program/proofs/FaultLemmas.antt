-- From the checks of lists, instructions and names to the faults of the whole.
use Rattle.std.proofs.Common.{◌≡◌, ◌≢◌, ◌<◌, ◌≤◌, ℕ, List, [], ◌∷◌, Bool, true, false, not, IsTrue, IfSome, length, map, get_or, subst, sym, ap, ◌∙◌, All, AllPairs, Option, None, Some, slice_get, suc, ◌+◌, ◌-◌, refl, arith}
use Rattle.std.specs.List.{position, position_or_len}
use Rattle.std.specs.Option.{option_map}
use Rattle.std.proofs.lemmas.Bool.{false≢true, not-true, not-false}
use Rattle.std.proofs.lemmas.Option.{none-some, slice_get-map, slice_get-get_or}
use Rattle.std.proofs.lemmas.Grind.{common_steps}
use Rattle.std.proofs.lemmas.List.{get_or-map, length-map}
use Rattle.std.proofs.lemmas.List.Elements.{All-map}
use Rattle.std.proofs.lemmas.List.Quantifiers.{position-Some}
use Rattle.std.proofs.lemmas.List.Sums.{fails_before_first}
use Rattle.fr_program.specs.declared.ids.ActorId.{ActorId}
use Rattle.fr_program.specs.declared.parts.Actor.{Actor}
use Rattle.fr_program.specs.declared.instr.Instr.{Instr}
use Rattle.fr_program.specs.declared.instr.Instr.TheVariants.{Goto, Return, Call as Calls}
use Rattle.fr_program.specs.declared.instr.Call.TheVariants.{DeleteSelf}
use Rattle.fr_program.specs.declared.fault.CodeLine.{CodeLine}
use Rattle.fr_program.specs.declared.fault.BuildFault.{BuildFault}
use Rattle.fr_program.specs.declared.fault.BuildFault.TheVariants.{Memory, TooMany, BadRange, BadTarget, FallsOff, TwoShared, NotOwner, KindMismatch, FromIsrInTask, ResultRange, Operands, Names}
use Rattle.fr_program.specs.Program.{Program, ActorOf}
use Rattle.fr_program.specs.Lookup.{actor_at}
use Rattle.fr_program.specs.Limits.{InstrInLimits, IsName, names_of}
use Rattle.fr_program.specs.Uses.{TargetsBelow}
use Rattle.fr_program.specs.Fault.{AtLine, SharesAtMostOne, MayUseAll, SuitsKind, SuitsActor, ResultsFit, OperandsFit, NamesThings, IsFreeOf, IsFaultless, Leaves, EndsWell}
use Rattle.fr_program.specs.InstrFault.{HasFault, HasFaultIn, IsCodeFaultless}
use Rattle.fr_program.specs.ListFault.{leaves, ends_well, AreListsFaultless, AreNamesFaultless}
use Rattle.fr_program.specs.View.{actor_of}
use Rattle.fr_program.proofs.ListLemmas.{All-unmapped}
use Rattle.fr_program.proofs.InstrLemmas.{All-slice_get}

-- some element of a list that has one
some_element : {X : Type 0} (xs : List X) (k : ℕ) → k < length xs → X
some_element [] k below = absurd (omega arith)
some_element (x ∷ xs) k below = x

-- a test that failed refutes what would have passed it
pub refuted : (b : Bool) {F : Type 0} → b ≡ false → (F → IsTrue b) → F → ⊥
refuted b failed passes holds = false≢true (sym failed ∙ passes holds)

-- what is said of the instruction at a line of code holds of the one that was read there
at_line : (P : Program) (line at : CodeLine) (actor : ActorOf) (i : Instr) (F : ActorOf → ActorId → Instr → Type 0) → line ≡ at → actor_at P at.actor.0 ≡ actor →
    slice_get actor.code at.pc ≡ Some i → AtLine P line (F (actor_at P line.actor.0) line.actor) → F actor at.actor i
at_line P line at actor i F same is there holds =
    let L : CodeLine → Type 0 = λ l. AtLine P l (F (actor_at P l.actor.0) l.actor) in
    let A : ActorOf → Type 0 = λ x. IfSome (slice_get x.code at.pc) (F x at.actor) in
    let O : Option Instr → Type 0 = λ o. IfSome o (F actor at.actor) in
    subst O there (subst A is (subst L same holds))

-- so an instruction that has a fault makes it one of the application
pub fault_at : (P : Program) (at : CodeLine) (actor : ActorOf) (i : Instr) (f : BuildFault) → actor_at P at.actor.0 ≡ actor → slice_get actor.code at.pc ≡ Some i →
    HasFault P at actor i f → IsFreeOf P f → ⊥
fault_at P at actor i (BadRange (Some line)) is there has free = has.1 (at_line P line at actor i (λ x a j. InstrInLimits j) has.0 is there free)
fault_at P at actor i (BadTarget line) is there has free = has.1 (at_line P line at actor i (λ x a j. TargetsBelow (length x.code) j) has.0 is there free)
fault_at P at actor i (TwoShared line) is there has free = has.1 (at_line P line at actor i (λ x a j. SharesAtMostOne P j) has.0 is there free)
fault_at P at actor i (NotOwner line) is there has free = has.1 (at_line P line at actor i (λ x a j. MayUseAll P a.0 j) has.0 is there free)
fault_at P at actor i (KindMismatch line) is there has free = has.1 (at_line P line at actor i (λ x a j. SuitsKind P j) has.0 is there free)
fault_at P at actor i (FromIsrInTask line) is there has free = has.1 (at_line P line at actor i (λ x a j. SuitsActor x j) has.0 is there free)
fault_at P at actor i (ResultRange line) is there has free = has.1 (at_line P line at actor i (λ x a j. ResultsFit P j) has.0 is there free)
fault_at P at actor i (Operands line) is there has free = has.1 (at_line P line at actor i (λ x a j. OperandsFit j) has.0 is there free)
fault_at P at actor i (Names (Some line)) is there has free = has.1 (at_line P line at actor i (λ x a j. NamesThings P j) has.0 is there free)
fault_at P at actor i f is there has free = absurd has

-- an instruction that was read from the code of its actor
pub has_fault_in : (P : Program) (a : ActorId) (actor : ActorOf) (ys : List Instr) (pc : ℕ) (d : Instr) (f : BuildFault) → ys ≡ actor.code → pc < length ys →
    HasFault P (record { actor = a; pc = pc }) actor (get_or ys pc d) f → HasFaultIn P a actor f
has_fault_in P a actor ys pc d f same below has = (pc, get_or ys pc d, rw (← same) (slice_get-get_or ys pc d below), has)

-- what holds of whatever an option has
pub if_some : {X : Type 0} (F : X → Type 0) (o : Option X) → ((x : X) → o ≡ Some x → F x) → IfSome o F
if_some F None each = tt
if_some F (Some x) each = each x refl

-- an application has none of the faults
pub free_of : (P : Program) (f : BuildFault) → IsFaultless P → IsFreeOf P f
free_of P Memory h = tt
free_of P TooMany h = h.small
free_of P (BadRange None) h = record { variables = h.limits.variables; objects = h.limits.objects }
free_of P (BadRange (Some at)) h = if_some InstrInLimits _ (h.limits.code at.actor.0 at.pc)
free_of P (BadTarget at) h = if_some (TargetsBelow (length (actor_at P at.actor.0).code)) _ (h.targets at.actor.0 at.pc)
free_of P (FallsOff a) h = if_some EndsWell _ (λ x is. All-slice_get EndsWell P.actors a.0 x h.ends is)
free_of P (TwoShared at) h = if_some (SharesAtMostOne P) _ (h.shared at.actor.0 at.pc)
free_of P (NotOwner at) h = if_some (MayUseAll P at.actor.0) _ (h.owners at.actor.0 at.pc)
free_of P (KindMismatch at) h = if_some (SuitsKind P) _ (h.kinds at.actor.0 at.pc)
free_of P (FromIsrInTask at) h = if_some (SuitsActor (actor_at P at.actor.0)) _ (h.forms at.actor.0 at.pc)
free_of P (ResultRange at) h = if_some (ResultsFit P) _ (h.results at.actor.0 at.pc)
free_of P (Operands at) h = if_some OperandsFit _ (h.operands at.actor.0 at.pc)
free_of P (Names None) h = record { names = h.names.names; once = h.names.once; owners = h.names.owners }
free_of P (Names (Some at)) h = if_some (NamesThings P) _ (h.names.things at.actor.0 at.pc)

-- lists, instructions and names without a fault are an application without one
pub faultless : (P : Program) → AreListsFaultless P → IsCodeFaultless P → AreNamesFaultless P → IsFaultless P
faultless P lists code names = record {
  small = lists.small;
  limits = record { variables = lists.variables; objects = lists.objects; code = λ a pc i at. (code a pc i at).limits };
  targets = λ a pc i at. (code a pc i at).targets;
  ends = lists.ends;
  shared = λ a pc i at. (code a pc i at).shared;
  owners = λ a pc i at. (code a pc i at).owners;
  kinds = λ a pc i at. (code a pc i at).kinds;
  forms = λ a pc i at. (code a pc i at).forms;
  results = λ a pc i at. (code a pc i at).results;
  operands = λ a pc i at. (code a pc i at).operands;
  names = record { names = names.names; once = names.once; things = λ a pc i at. (code a pc i at).things; owners = lists.owners };
}

-- the end of a code, by the test and by what it says
leaves-true : (o : Option Instr) → Leaves o → leaves o ≡ true
leaves-true (Some (Goto target)) ends = refl
leaves-true (Some Return) ends = refl
leaves-true (Some (Calls DeleteSelf)) ends = refl
leaves-true o ends = absurd ends

true-leaves : (o : Option Instr) → leaves o ≡ true → Leaves o
true-leaves (Some (Goto target)) test = tt
true-leaves (Some Return) test = tt
true-leaves (Some (Calls DeleteSelf)) test = tt
true-leaves o test = absurd (false≢true test)

ends-true : (code : List Instr) (last : ℕ) → length code ≡ last + 1 → Leaves (slice_get code last) → leaves (slice_get code (length code - 1)) ≡ true
ends-true code last size ends =
    let at : length code - 1 ≡ last = omega arith in
    rw at (leaves-true (slice_get code last) ends)

true-ends : (code : List Instr) → leaves (slice_get code (length code - 1)) ≡ true → (last : ℕ) × (length code ≡ last + 1) × Leaves (slice_get code last)
true-ends [] test = absurd (false≢true test)
true-ends (i ∷ code) test =
    let at : suc (length code) - 1 ≡ length code = omega arith in
    let size : suc (length code) ≡ length code + 1 = omega arith in
    (length code, size, true-leaves (slice_get (i ∷ code) (length code)) (rw at at test))

-- the ends of codes, one by one
pub all_end : (actors : List Actor) → position (λ a. not (ends_well (actor_of a))) actors ≡ None → All EndsWell (map actor_of actors)
all_end actors none =
    let falls : Actor → Bool = λ a. not (ends_well (actor_of a)) in
    let past : length actors ≤ position_or_len falls actors = grind (arith, common_steps) in
    All-map EndsWell actor_of actors (λ k d below. true-ends (get_or actors k d).code.items (not-false (ends_well (actor_of (get_or actors k d))) (fails_before_first falls actors k d (omega (arith, past, below)))))

-- the first one that doesn't end well is an actor of which that is said
pub falls_off : (actors : List Actor) (k : ℕ) → position (λ a. not (ends_well (actor_of a))) actors ≡ Some k → IfSome (slice_get (map actor_of actors) k) EndsWell → ⊥
falls_off [] k first ends = absurd (none-some k first)
falls_off (a ∷ rest) k first ends =
    let found = position-Some (λ (x : Actor). not (ends_well (actor_of x))) (a ∷ rest) k a first in
    let is : slice_get (map actor_of (a ∷ rest)) k ≡ Some (actor_of (get_or (a ∷ rest) k a)) =
    slice_get-map actor_of (a ∷ rest) k ∙ ap (option_map actor_of) (slice_get-get_or (a ∷ rest) k a found.0) in
    let here : EndsWell (actor_of (get_or (a ∷ rest) k a)) = subst (λ o. IfSome o EndsWell) is ends in
    false≢true (sym (not-true _ found.1) ∙ ends-true (get_or (a ∷ rest) k a).code.items here.0 here.1 here.2)

-- pairs of a mapped list, and pairs of the list itself
pub pairs-map : {X Y : Type 0} (R : Y → Y → Type 0) (f : X → Y) (xs : List X) → AllPairs (λ x y. R (f x) (f y)) xs → AllPairs R (map f xs)
pairs-map {X = X} R f xs pairs = λ i j d before last.
    let within : j < length xs = rw (← length-map xs f) last in
    let first : X = some_element xs j within in
    let low = get_or-map f xs i first d (omega arith) in
    let high = get_or-map f xs j first d within in
    rw (low, high) (pairs i j first before within)

pub map-pairs : {X Y : Type 0} (R : Y → Y → Type 0) (f : X → Y) (xs : List X) → AllPairs R (map f xs) → AllPairs (λ x y. R (f x) (f y)) xs
map-pairs R f xs pairs = λ i j d before last.
    let low = get_or-map f xs i d (f d) (omega arith) in
    let high = get_or-map f xs j d (f d) last in
    rw (← low, ← high) (pairs i j (f d) before (rw length-map last))

-- names that were read are the names of the application
pub names-from_read : {X : Type 0} (P : Program) (f : X → List ℕ) (xs : List X) → map f xs ≡ names_of P →
    All (λ x. IsName (f x)) xs → AllPairs (λ x y. f x ≢ f y) xs → AreNamesFaultless P
names-from_read P f xs are each pairs = record {
  names = subst (All IsName) are (All-map IsName f xs each);
  once = subst (AllPairs (λ x y. x ≢ y)) are (pairs-map (λ x y. x ≢ y) f xs pairs);
}

pub read_each : {X : Type 0} (P : Program) (f : X → List ℕ) (xs : List X) → map f xs ≡ names_of P → All IsName (names_of P) → All (λ x. IsName (f x)) xs
read_each P f xs are each = All-unmapped IsName f xs (subst (All IsName) (sym are) each)

pub read_pairs : {X : Type 0} (P : Program) (f : X → List ℕ) (xs : List X) → map f xs ≡ names_of P → AllPairs (λ x y. x ≢ y) (names_of P) → AllPairs (λ x y. f x ≢ f y) xs
read_pairs P f xs are pairs = map-pairs (λ x y. x ≢ y) f xs (subst (AllPairs (λ x y. x ≢ y)) (sym are) pairs)

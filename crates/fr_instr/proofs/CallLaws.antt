-- The table of calls: a name is that of one row, a row has the places that its call needs, and each call that suits its
-- timing has one. What is found in the table has what all its rows have, and that computes.
use Rattle.std.proofs.Common.{◌≡◌, ◌++◌, ◌&&◌, ℕ, Bool, true, false, cond, ltb, List, [], ◌∷◌, map, length, get_or, Option, Some, None, option_map, position, refl, sym, ap, ◌∙◌, arith, rules}
use Rattle.std.proofs.lemmas.Bool.{and_parts, false≢true, ltb-true, ltb-false}
use Rattle.std.proofs.lemmas.Option.{none-some, same_Some, slice_get-get_or, slice_get_past}
use Rattle.std.proofs.lemmas.List.Folds.{find_at}
use Rattle.std.specs.Option.{is_some}
use Rattle.std.specs.List.{find, list_all, position_or_len}
use Rattle.fr_instr.specs.Tokens.{IsTok, word, is_letter, is_word_byte, first}
use Rattle.fr_instr.specs.Calls.{Row, row_view, table, row_named, row_for, is_same, when_of, deed_of, verb_of}
use denote.Ref.{Bor}
use Rattle.fr_instr.specs.declared.call.Slot.{Slot}
use Rattle.fr_instr.specs.declared.call.Slot.TheVariants as place
use Rattle.fr_instr.specs.declared.call.Tail.{Tail}
use Rattle.fr_instr.specs.declared.call.Tail.TheVariants.{Nothing, Else, Into}
use Rattle.fr_instr.specs.declared.call.When.{When}
use Rattle.fr_instr.specs.declared.call.When.TheVariants as at
use Rattle.fr_instr.specs.declared.call.Deed.{Deed}
use Rattle.fr_instr.specs.declared.call.Deed.TheVariants.{QueueSend, QueueReceive, Move}
use Rattle.fr_instr.specs.declared.call.Verb.{Verb}
use Rattle.fr_instr.specs.declared.call.Verb.TheVariants.{Delay, DeleteSelf, Create, Delete, On}
use Rattle.fr_program.specs.Timings.{suits_timing}
use Rattle.fr_program.specs.declared.instr.Form.TheVariants as form
use Rattle.fr_program.specs.declared.instr.SemaphoreForm.TheVariants as semaphore
use Rattle.fr_program.specs.declared.instr.BufferKind.TheVariants as buffer
use Rattle.fr_program.specs.declared.instr.CreatedKind.TheVariants as created
use Rattle.fr_program.specs.declared.instr.DeletedKind.TheVariants as deleted
use Rattle.fr_program.specs.declared.instr.End.TheVariants as end
use Rattle.fr_program.specs.declared.instr.Timing.{Timing}
use Rattle.fr_program.specs.declared.instr.Timing.TheVariants as timing
use Rattle.fr_program.specs.declared.instr.Attempt.TheVariants as attempt
use Rattle.fr_program.specs.declared.instr.Act.{Act}
use Rattle.fr_program.specs.declared.instr.Act.TheVariants as act
use Rattle.fr_program.specs.declared.instr.Call.{Call}
use Rattle.fr_program.specs.declared.instr.Call.TheVariants as call

-- ---- the search for a row

find-map : {X Y : Type 0} (p : Y → Bool) (f : X → Y) (xs : List X) → find p (map f xs) ≡ option_map f (find (λ x. p (f x)) xs)
find-map p f [] = refl
find-map p f (x ∷ xs) = by_test (p (f x)) (find-map p f xs)
  where
    by_test : (b : Bool) → find p (map f xs) ≡ option_map f (find (λ y. p (f y)) xs) → cond b (Some (f x)) (find p (map f xs)) ≡ option_map f (cond b (Some x) (find (λ y. p (f y)) xs))
    by_test true later = refl
    by_test false later = later

-- what is at the first place that passes is what is found
find_at_place : {X : Type 0} (p : X → Bool) (xs : List X) (i : ℕ) (d : X) → Some i ≡ position p xs → Some (get_or xs i d) ≡ find p xs
find_at_place p xs i d e = by_test (ltb (position_or_len p xs) (length xs)) refl (sym e)
  where
    by_test : (b : Bool) → ltb (position_or_len p xs) (length xs) ≡ b → cond b (Some (position_or_len p xs)) None ≡ Some i → Some (get_or xs i d) ≡ find p xs
    by_test true within h =
        ap (λ k. Some (get_or xs k d)) (sym (same_Some (position_or_len p xs) i h)) ∙ sym (slice_get-get_or xs (position_or_len p xs) d (ltb-true (position_or_len p xs) (length xs) within)) ∙ sym (find_at p xs)
    by_test false past h = absurd (none-some i h)

find_no_place : {X : Type 0} (p : X → Bool) (xs : List X) → None ≡ position p xs → None ≡ find p xs
find_no_place p xs e = by_test (ltb (position_or_len p xs) (length xs)) refl (sym e)
  where
    by_test : (b : Bool) → ltb (position_or_len p xs) (length xs) ≡ b → cond b (Some (position_or_len p xs)) None ≡ None → None ≡ find p xs
    by_test true within h = absurd (none-some (position_or_len p xs) (sym h))
    by_test false past h = sym (find_at p xs ∙ slice_get_past xs (position_or_len p xs) (omega (arith, ltb-false (position_or_len p xs) (length xs) past)))

abbrev RowInCode : Type 0
RowInCode = Bor (List ℕ) × Verb × Bor (List Slot) × Tail

pub row_found : (p : Row → Bool) (rows : List RowInCode) (i : ℕ) (d : RowInCode) → map row_view rows ≡ table → Some i ≡ position (λ r. p (row_view r)) rows → Some (row_view (get_or rows i d)) ≡ find p table
row_found p rows i d e found = ap (option_map row_view) (find_at_place (λ r. p (row_view r)) rows i d found) ∙ sym (find-map p row_view rows) ∙ ap (find p) e

pub no_row_found : (p : Row → Bool) (rows : List RowInCode) → map row_view rows ≡ table → None ≡ position (λ r. p (row_view r)) rows → None ≡ find p table
no_row_found p rows e none = ap (option_map row_view) (find_no_place (λ r. p (row_view r)) rows none) ∙ sym (find-map p row_view rows) ∙ ap (find p) e

-- ---- what is found

heads : {Y : Type 0} (y z : Y) (ys zs : List Y) → y ∷ ys ≡ z ∷ zs → (y ≡ z) × (ys ≡ zs)
heads y z ys zs e = (cc, cc)

-- what two functions agree on at each element of a list, they agree on at the one that is found
found_same : {X Y : Type 0} (p : X → Bool) (f g : X → Y) (xs : List X) (r : X) → map f xs ≡ map g xs → find p xs ≡ Some r → f r ≡ g r
found_same p f g [] r same e = absurd (none-some r e)
found_same p f g (x ∷ xs) r same e =
    let both = heads (f x) (g x) (map f xs) (map g xs) same in
    by_test (p x) both.0 (λ h. found_same p f g xs r both.1 h) e
  where
    by_test : (b : Bool) → f x ≡ g x → (find p xs ≡ Some r → f r ≡ g r) → cond b (Some x) (find p xs) ≡ Some r → f r ≡ g r
    by_test true here later h = let is = same_Some x r h in ap f (sym is) ∙ here ∙ ap g is
    by_test false here later h = later h

found_passes : {X : Type 0} (p : X → Bool) (xs : List X) (r : X) → find p xs ≡ Some r → p r ≡ true
found_passes p [] r e = absurd (none-some r e)
found_passes p (x ∷ xs) r e = by_test (p x) refl (λ h. found_passes p xs r h) e
  where
    by_test : (b : Bool) → p x ≡ b → (find p xs ≡ Some r → p r ≡ true) → cond b (Some x) (find p xs) ≡ Some r → p r ≡ true
    by_test true passes later h = ap p (sym (same_Some x r h)) ∙ passes
    by_test false fails later h = later h

-- ---- the rows

-- the places that a call's arguments have
abbrev pub deed_needs : Deed → List Slot
deed_needs QueueSend = place.Operand ∷ []
deed_needs QueueReceive = place.Variable ∷ []
deed_needs (Move side kind) = place.Length ∷ []
deed_needs deed = []

abbrev pub when_needs : When → List Slot
when_needs at.Waits = place.Time ∷ []
when_needs when = []

abbrev pub needs : Verb → List Slot
needs Delay = place.Ticks ∷ []
needs DeleteSelf = place.Null ∷ []
needs (Create kind) = place.Object ∷ []
needs (Delete kind) = place.Object ∷ []
needs (On when deed) = place.Object ∷ (deed_needs deed ++ when_needs when)
needs verb = []

-- what may be written beside a call
abbrev pub tail_of : Verb → Tail
tail_of (Create kind) = Else
tail_of (On when (Move side kind)) = Into
tail_of (On when deed) = Else
tail_of verb = Nothing

names_once : map (λ r. row_named r.name) table ≡ map (λ r. Some r) table
unfolding table
names_once = refl

verbs_once : map (λ r. row_for r.verb) table ≡ map (λ r. Some r) table
unfolding table
verbs_once = refl

all_places : map (λ r. r.places) table ≡ map (λ r. needs r.verb) table
unfolding table
all_places = refl

all_tails : map (λ r. r.tail) table ≡ map (λ r. tail_of r.verb) table
unfolding table
all_tails = refl

names_are_words : map (λ r. is_letter (first r.name) && list_all is_word_byte r.name) table ≡ map (λ r. true) table
unfolding table
names_are_words = refl

pub name_again : (v : Verb) (r : Row) → row_for v ≡ Some r → row_named r.name ≡ Some r
name_again v r e = found_same (λ s. is_same s.verb v) (λ s. row_named s.name) (λ s. Some s) table r names_once e

pub verb_again : (k : List ℕ) (r : Row) → row_named k ≡ Some r → row_for r.verb ≡ Some r
verb_again k r e = found_same _ (λ s. row_for s.verb) (λ s. Some s) table r verbs_once e

same_verb : (a b : Verb) → is_same a b ≡ true → a ≡ b
same_verb a b h = search rules

pub verb_is : (v : Verb) (r : Row) → row_for v ≡ Some r → r.verb ≡ v
verb_is v r e = same_verb r.verb v (found_passes (λ s. is_same s.verb v) table r e)

-- a row that is found by its name or by its call has the places and the tail of its call
pub places_fit : (p : Row → Bool) (r : Row) → find p table ≡ Some r → r.places ≡ needs r.verb
places_fit p r e = found_same p (λ s. s.places) (λ s. needs s.verb) table r all_places e

pub tail_fits : (p : Row → Bool) (r : Row) → find p table ≡ Some r → r.tail ≡ tail_of r.verb
tail_fits p r e = found_same p (λ s. s.tail) (λ s. tail_of s.verb) table r all_tails e

pub name_token : (v : Verb) (r : Row) → row_for v ≡ Some r → IsTok (word r.name)
name_token v r e =
    and_parts (is_letter (first r.name)) (list_all is_word_byte r.name)
    (found_same (λ s. is_same s.verb v) (λ s. is_letter (first s.name) && list_all is_word_byte s.name) (λ s. true) table r names_are_words e)

-- ---- each call has a row

-- an object call has one where its timing suits what it does
object_listed : (t : Timing) (a : Act) → is_some (row_for (On (when_of t) (deed_of a))) ≡ suits_timing t a
unfolding table
object_listed timing.Now (act.Try (attempt.Take semaphore.Plain) e) = refl
object_listed timing.Now (act.Try (attempt.Give semaphore.Plain) e) = refl
object_listed timing.Now (act.Try (attempt.Reset buffer.Stream) e) = refl
object_listed timing.Now (act.Move end.Writer buffer.Stream n v) = refl
object_listed timing.Now (act.Move end.Reader buffer.Stream n v) = refl
object_listed timing.FromIsr (act.Try (attempt.Take semaphore.Plain) e) = refl
object_listed timing.FromIsr (act.Try (attempt.Give semaphore.Plain) e) = refl
object_listed timing.FromIsr (act.Try (attempt.Reset buffer.Stream) e) = refl
object_listed timing.FromIsr (act.Move end.Writer buffer.Stream n v) = refl
object_listed timing.FromIsr (act.Move end.Reader buffer.Stream n v) = refl
object_listed (timing.Waits time) (act.Try (attempt.Take semaphore.Plain) e) = refl
object_listed (timing.Waits time) (act.Try (attempt.Give semaphore.Plain) e) = refl
object_listed (timing.Waits time) (act.Try (attempt.Reset buffer.Stream) e) = refl
object_listed (timing.Waits time) (act.Move end.Writer buffer.Stream n v) = refl
object_listed (timing.Waits time) (act.Move end.Reader buffer.Stream n v) = refl
object_listed t a = refl

-- whether a call suits its timing
abbrev pub is_timely : Call → Bool
is_timely (call.On c) = suits_timing c.timing c.act
is_timely c = true

call_listed : (c : Call) → is_some (row_for (verb_of c)) ≡ is_timely c
unfolding table
call_listed (call.EnterCritical form.Task) = refl
call_listed (call.ExitCritical form.Task) = refl
call_listed (call.Create created.Queue o e) = refl
call_listed (call.Delete deleted.Queue o) = refl
call_listed (call.On c) = object_listed c.timing c.act
call_listed c = refl

pub listed : (c : Call) → is_timely c ≡ true → (r : Row) × (row_for (verb_of c) ≡ Some r)
listed c timely = found (row_for (verb_of c)) refl (call_listed c ∙ timely)
  where
    found : (o : Option Row) → row_for (verb_of c) ≡ o → is_some (row_for (verb_of c)) ≡ true → (r : Row) × (row_for (verb_of c) ≡ Some r)
    found None e some = absurd (false≢true (sym (ap is_some e) ∙ some))
    found (Some r) e some = (r, e)

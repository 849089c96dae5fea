-- What is written for a line is read again as the line: each piece means its part, and each token is one.
use Rattle.std.proofs.Common.{◌≡◌, ◌≢◌, ◌<◌, ◌≤◌, ◌^◌, ◌+◌, ◌%◌, ◌++◌, ◌||◌, ℕ, suc, ℤ, pos, negsuc, List, [], ◌∷◌, map, length, get_or, Bool, true, false, Option, Some, None, option_map, cond, ltb, refl, sym, ap, ◌∙◌, inl, inr, All, AllPairs, subst, arith}
use Rattle.std.proofs.lemmas.Bool.{false≢true, false_from_ne_true, ltb-false}
use Rattle.std.proofs.lemmas.Bool.Decides.{nat_tests}
use Rattle.std.proofs.lemmas.Int.{ints}
use Rattle.std.proofs.lemmas.Fmt.{decimal_by_steps}
use Rattle.std.proofs.lemmas.List.Folds.{list_all-append}
use Rattle.std.proofs.lemmas.List.Sums.{position_or_len_is}
use Rattle.std.proofs.lemmas.Slice.Eq.{bytes_eq-Decides}
use Rattle.std.specs.List.{position_or_len, list_all, AllByRecursion}
use Rattle.std.specs.Str.{bytes_eq}
use Rattle.std.specs.Char.{is_ascii_digit}
use Rattle.std.specs.Fmt.{signed_decimal, decimal}
use Rattle.fr_program.specs.Limits as limits
use Rattle.fr_program.specs.Limits.{IsName, IsNumber}
use Rattle.fr_instr.specs.Tokens.{word, number, IsTok, IsDigits, is_letter, is_word_byte}
use Rattle.fr_instr.specs.Shapes.{call as calls, word_tok, more_toks, args_toks, else_toks, shape_toks}
use Rattle.fr_instr.specs.Names.{NamesOf, name_at, place_of, AreNames}
use Rattle.fr_instr.specs.Calls.{Row, no_row, row_of, row_for, is_same, may_fail, may_answer, made, verb_of, given_of, put}
use Rattle.fr_instr.specs.WrittenLine.{natural, operand_word, time_word, place_word, into_name, call_shape, shape_of, written_line}
use Rattle.fr_instr.specs.Lines.{IsOperand, IsBlockTime, Says, AreGiven, IsElse, IsInto, IsCall, IsLineOf, IsLine, VariableIn, OperandIn, GivenIn, AreGivenIn, ElseIn, IntoIn, IsCallIn, IsLineIn}
use Rattle.fr_instr.specs.declared.call.Slot.{Slot}
use Rattle.fr_instr.specs.declared.call.Slot.TheVariants.{Object, Operand as Operands, Variable as Variables, Length, Time, Ticks as TicksSlot, Null}
use Rattle.fr_instr.specs.declared.call.Tail.{Tail}
use Rattle.fr_instr.specs.declared.given.Given.{Given}
use Rattle.fr_instr.specs.declared.given.TheConstants.{NOTHING}
use Rattle.fr_program.specs.declared.ids.VarId.{VarId}
use Rattle.fr_program.specs.declared.instr.Call.{Call}
use Rattle.fr_program.specs.declared.instr.BlockTime.{BlockTime}
use Rattle.fr_program.specs.declared.instr.BlockTime.TheVariants.{Ticks, MaxDelay}
use Rattle.fr_program.specs.declared.instr.Operand.{Operand}
use Rattle.fr_program.specs.declared.instr.Operand.TheVariants.{Number, Variable}
use Rattle.fr_program.specs.declared.instr.Instr.{Instr}
use Rattle.fr_program.specs.declared.instr.Instr.TheVariants as line
use Rattle.std.specs.Prelude.{unwrap_or}
use Rattle.fr_instr.proofs.CallLaws.{needs, tail_of, name_again, verb_is, places_fit, tail_fits, name_token as call_name_token}
use Rattle.fr_instr.proofs.PartsLaws.{copied, made_again, else_may_fail, into_may_answer}
use Rattle.fr_program.proofs.ListLemmas.{All-left, All-right}
use Rattle.fr_instr.proofs.NameLaws.{apart_left, apart_right}
use Rattle.fr_instr.proofs.WrittenLaws.{spells_written}

-- ---- each piece means its part

-- where names are distinct, the name at a place is at that place
place_again : (names : List (List ℕ)) (i : ℕ) → AllPairs (λ x y. x ≢ y) names → i < length names → place_of names (name_at names i) ≡ Some i
place_again names i once within =
    let p : List ℕ → Bool = λ v. bytes_eq (get_or names i []) v in
    let at : position_or_len p names ≡ i =
    position_or_len_is p names i [] (omega arith)
    (λ k below. false_from_ne_true (p (get_or names k [])) (λ e. once k i [] below within (sym ((bytes_eq-Decides (get_or names i []) (get_or names k [])).0 e))))
    (λ _. (bytes_eq-Decides (get_or names i []) (get_or names i [])).1 refl) in
    by_test (ltb (position_or_len p names) (length names)) (position_or_len p names) at refl (omega (arith, at))
  where
    by_test : (b : Bool) (n : ℕ) → n ≡ i → ltb n (length names) ≡ b → n < length names → cond b (Some n) None ≡ Some i
    by_test true n same e h = ap (λ x. Some x) same
    by_test false n same e h = absurd (omega (arith, ltb-false n (length names) e))

operand_again : (N : NamesOf) (a : Operand) → AllPairs (λ x y. x ≢ y) N.variables → OperandIn N a → IsOperand N (operand_word N a) a
operand_again N (Number z) once h = (refl, h)
operand_again N (Variable x) once h = place_again N.variables x.0 once h

least : (n : ℕ) → 0 ≤ n
least n = omega arith

time_again : (t : BlockTime) → limits.BlockTimeInLimits t → IsBlockTime (time_word t) t
time_again (Ticks n) h = (refl, least n, h)
time_again MaxDelay h = refl

said_again : (N : NamesOf) (p : Slot) (g h : Given) → AllPairs (λ x y. x ≢ y) N.variables → AllPairs (λ x y. x ≢ y) N.objects → GivenIn N p g → Says N p (place_word N g p) (put p g h)
said_again N Object g h vs os i = place_again N.objects g.object.0 os i
said_again N Operands g h vs os i = operand_again N g.operand vs i
said_again N Variables g h vs os i = place_again N.variables g.variable.0 vs i
said_again N Length g h vs os i = (refl, i.0, i.1)
said_again N Time g h vs os i = time_again g.time i
said_again N TicksSlot g h vs os i = (refl, least g.ticks, i)
said_again N Null g h vs os i = refl

put_twice : (p : Slot) (g h : Given) → put p (put p g h) h ≡ put p g h
put_twice Object g h = refl
put_twice p g h = refl

args_again : (N : NamesOf) (ps : List Slot) (g h : Given) → AllPairs (λ x y. x ≢ y) N.variables → AllPairs (λ x y. x ≢ y) N.objects → AreGivenIn N ps g → AreGiven N ps (map (place_word N g) ps) h (copied ps g h)
args_again N [] g h vs os i = refl
args_again N (p ∷ ps) g h vs os i = (put p g h, (said_again N p g h vs os i.0, sym (put_twice p g h)), args_again N ps g (put p g h) vs os i.1)

else_again : (t : Tail) (e : Option ℕ) → ((k : ℕ) → e ≡ Some k → may_fail t ≡ true) → ElseIn e → IsElse t (option_map natural e) e
else_again t None may h = tt
else_again t (Some k) may h = (may k refl, (refl, least k, h))

into_again : (N : NamesOf) (t : Tail) (v : Option VarId) → ((x : VarId) → v ≡ Some x → may_answer t ≡ true) → AllPairs (λ x y. x ≢ y) N.variables → IntoIn N v → IsInto N t (into_name N v) v
into_again N t None may vs h = tt
into_again N t (Some x) may vs h = (may x refl, place_again N.variables x.0 vs h)

-- the call is made again of what its line gives
made_of_row : (c : Call) (r : Row) → r.verb ≡ verb_of c → r.places ≡ needs (verb_of c) → c ≡ made r.verb (record (copied r.places (given_of c) NOTHING) { or_else = (given_of c).or_else; into = (given_of c).into })
made_of_row c r verb places =
    let again : List Slot → Given = λ ps. record (copied ps (given_of c) NOTHING) { or_else = (given_of c).or_else; into = (given_of c).into } in
    sym (ap (λ v. made v (again r.places)) verb ∙ ap (λ ps. made (verb_of c) (again ps)) places ∙ made_again c)

call_again : (N : NamesOf) (c : Call) (h : IsCallIn N c) → AllPairs (λ x y. x ≢ y) N.variables → AllPairs (λ x y. x ≢ y) N.objects
    → IsCall N (into_name N (given_of c).into) h.row.name (map (place_word N (given_of c)) h.row.places) (option_map natural (given_of c).or_else) c
call_again N c h vs os =
    let verb = verb_is (verb_of c) h.row h.listed in
    let found : Row → Bool = λ r. is_same r.verb (verb_of c) in
    let tail = tail_fits found h.row h.listed ∙ ap tail_of verb in
    let places = places_fit found h.row h.listed ∙ ap needs verb in
    record {
      row = h.row;
      given = copied h.row.places (given_of c) NOTHING;
      target = (given_of c).or_else;
      variable = (given_of c).into;
      named = name_again (verb_of c) h.row h.listed;
      behind = else_again h.row.tail (given_of c).or_else (λ k e. ap may_fail tail ∙ else_may_fail c k e) h.target;
      before = into_again N h.row.tail (given_of c).into (λ x e. ap may_answer tail ∙ into_may_answer c x e) vs h.variable;
      args = args_again N h.row.places (given_of c) NOTHING vs os h.args;
      call = made_of_row c h.row verb places;
    }

row_is : (c : Call) (r : Row) → row_for (verb_of c) ≡ Some r → r ≡ row_of (verb_of c)
row_is c r e = sym (ap (λ o. unwrap_or o no_row) e)

line_again : (N : NamesOf) (l : Instr) → AllPairs (λ x y. x ≢ y) N.variables → AllPairs (λ x y. x ≢ y) N.objects → IsLineIn N l → IsLineOf N (shape_of N l) l
line_again N (line.Set x a op b) vs os h = (x, a, b, place_again N.variables x.0 vs h.0, operand_again N a vs h.1, operand_again N b vs h.2, refl)
line_again N (line.If a c b k) vs os h = (a, b, k, operand_again N a vs h.0, operand_again N b vs h.1, (refl, least k, h.2), refl)
line_again N (line.Goto k) vs os h = (k, (refl, least k, h), refl)
line_again N (line.Pick x lo hi) vs os h = (x, lo, hi, place_again N.variables x.0 vs h.0, (refl, h.1), (refl, h.2), refl)
line_again N (line.Call c) vs os h =
    let P : Row → Type 0 = λ r. IsCall N (into_name N (given_of c).into) r.name (map (place_word N (given_of c)) r.places) (option_map natural (given_of c).or_else) c in
    (c, subst P (row_is c h.row h.listed) (call_again N c h vs os), refl)
line_again N line.Return vs os h = refl

-- ---- each token is one

letter_here : (c : ℕ) → (limits.is_letter c || limits.is_digit c) ≡ true → limits.is_digit c ≡ false → is_letter c ≡ true
letter_here c h k = grind (arith, nat_tests)

byte_here : (c : ℕ) → (limits.is_letter c || limits.is_digit c) ≡ true → is_word_byte c ≡ true
byte_here c h = grind (arith, nat_tests)

bytes_here : (w : List ℕ) → AllByRecursion (λ c. (limits.is_letter c || limits.is_digit c) ≡ true) w → list_all is_word_byte w ≡ true
bytes_here [] h = refl
bytes_here (c ∷ w) h = rw (byte_here c h.0, bytes_here w h.1) refl

recursion : (P : ℕ → Type 0) (w : List ℕ) → All P w → AllByRecursion P w
recursion P [] h = tt
recursion P (c ∷ w) h = (h 0 c (omega arith), recursion P w (λ k d within. h (suc k) d (omega arith)))

name_token : (w : List ℕ) → IsName w → IsTok (word w)
name_token [] h = let none : 1 ≤ length {A = ℕ} [] = h.some in absurd (omega arith)
name_token (c ∷ w) h =
    (letter_here c (h.letters 0 c (omega arith)) h.first, bytes_here (c ∷ w) (recursion (λ b. (limits.is_letter b || limits.is_digit b) ≡ true) (c ∷ w) h.letters))

digit_here : (d : ℕ) → d < 10 → is_ascii_digit (48 + d) ≡ true
digit_here d h = grind (arith, nat_tests)

one_digit : (n : ℕ) → n < 10 → IsDigits ((48 + n) ∷ [])
one_digit n h = (digit_here n h, rw (digit_here n h) refl)

more_digits : (n : ℕ) (ds : List ℕ) → 10 ≤ n → IsDigits ds → IsDigits (ds ++ ((48 + n % 10) ∷ []))
more_digits n [] big h = absurd (false≢true h.0)
more_digits n (d ∷ ds) big h =
    let last : is_ascii_digit (48 + n % 10) ≡ true = digit_here (n % 10) (omega arith) in
    (h.0, list_all-append is_ascii_digit (d ∷ ds) ((48 + n % 10) ∷ []) ∙ rw (h.1, last) refl)

decimal_digits : (n : ℕ) → n < 2 ^ 64 → IsDigits (decimal n)
decimal_digits n h = decimal_by_steps (λ m ds. IsDigits ds) one_digit more_digits n h

integer_token : (z : ℤ) → IsNumber z → IsTok (number (signed_decimal z))
integer_token (pos n) h = let small : n < 2 ^ 64 = omega (arith, ints) in inl (decimal_digits n small)
integer_token (negsuc n) h = let small : suc n < 2 ^ 64 = omega (arith, ints) in inr (decimal (suc n), refl, decimal_digits (suc n) small)

natural_token : (n : ℕ) → n ≤ 2147483647 → IsTok (number (natural n))
natural_token n h = let small : n < 2 ^ 64 = omega (arith, h) in inl (decimal_digits n small)

pub record Good (N : NamesOf) : Type 0 where
  pub variables : All IsName N.variables
  pub objects : All IsName N.objects

variable_token : (N : NamesOf) (x : VarId) → Good N → VariableIn N x → IsTok (word (name_at N.variables x.0))
variable_token N x g h = name_token (name_at N.variables x.0) (g.variables x.0 [] h)

operand_token : (N : NamesOf) (a : Operand) → Good N → OperandIn N a → IsTok (word_tok (operand_word N a))
operand_token N (Number z) g h = integer_token z h
operand_token N (Variable x) g h = variable_token N x g h

time_token : (t : BlockTime) → limits.BlockTimeInLimits t → IsTok (word_tok (time_word t))
time_token (Ticks n) h = natural_token n h
time_token MaxDelay h = (refl, refl)

place_token : (N : NamesOf) (p : Slot) (g : Given) → Good N → GivenIn N p g → IsTok (word_tok (place_word N g p))
place_token N Object g good h = name_token (name_at N.objects g.object.0) (good.objects g.object.0 [] h)
place_token N Operands g good h = operand_token N g.operand good h
place_token N Variables g good h = variable_token N g.variable good h
place_token N Length g good h = natural_token g.bytes (omega (arith, h.1))
place_token N Time g good h = time_token g.time h
place_token N TicksSlot g good h = natural_token g.ticks h
place_token N Null g good h = (refl, refl)

else_tokens : (e : Option ℕ) → ElseIn e → AllByRecursion IsTok (else_toks (option_map natural e))
else_tokens None h = tt
else_tokens (Some k) h = ((refl, refl), (natural_token k h, tt))

more_tokens : (N : NamesOf) (ps : List Slot) (g : Given) (e : Option ℕ) → Good N → AreGivenIn N ps g → ElseIn e → AllByRecursion IsTok (more_toks (map (place_word N g) ps) ++ else_toks (option_map natural e))
more_tokens N [] g e good h k = (tt, else_tokens e k)
more_tokens N (p ∷ ps) g e good h k = (tt, (place_token N p g good h.0, more_tokens N ps g e good h.1 k))

args_tokens : (N : NamesOf) (ps : List Slot) (g : Given) (e : Option ℕ) → Good N → AreGivenIn N ps g → ElseIn e → AllByRecursion IsTok (args_toks (map (place_word N g) ps) ++ else_toks (option_map natural e))
args_tokens N [] g e good h k = (tt, else_tokens e k)
args_tokens N (p ∷ ps) g e good h k = (place_token N p g good h.0, more_tokens N ps g e good h.1 k)

call_tokens : (N : NamesOf) (v : Option VarId) (r : Row) (g : Given) (e : Option ℕ) → Good N → IsTok (word r.name) → IntoIn N v → AreGivenIn N r.places g → ElseIn e
    → AllByRecursion IsTok (shape_toks (calls (into_name N v) r.name (map (place_word N g) r.places) (option_map natural e)))
call_tokens N None r g e good named h i j = (named, (tt, args_tokens N r.places g e good i j))
call_tokens N (Some x) r g e good named h i j = (variable_token N x good h, (tt, (named, (tt, args_tokens N r.places g e good i j))))

line_tokens : (N : NamesOf) (l : Instr) → Good N → IsLineIn N l → AllByRecursion IsTok (shape_toks (shape_of N l))
line_tokens N (line.Set x a op b) g h = ((refl, refl), (variable_token N x g h.0, (tt, (operand_token N a g h.1, (tt, (operand_token N b g h.2, tt))))))
line_tokens N (line.If a c b k) g h = ((refl, refl), (operand_token N a g h.0, (tt, (operand_token N b g h.1, ((refl, refl), (natural_token k h.2, tt))))))
line_tokens N (line.Goto k) g h = ((refl, refl), (natural_token k h, tt))
line_tokens N (line.Pick x lo hi) g h = ((refl, refl), (variable_token N x g h.0, (integer_token lo h.1, (integer_token hi h.2, tt))))
line_tokens N (line.Call c) g h =
    let P : Row → Type 0 = λ r. AllByRecursion IsTok (shape_toks (call_shape N r (given_of c))) in
    subst P (row_is c h.row h.listed) (call_tokens N (given_of c).into h.row (given_of c) (given_of c).or_else g (call_name_token (verb_of c) h.row h.listed) h.variable h.args h.target)
line_tokens N line.Return g h = ((refl, refl), tt)

-- what is written for a line is read again as the line
pub written_is_read : (N : NamesOf) (l : Instr) → AreNames N → IsLineIn N l → IsLine N (written_line N l) l
written_is_read N l are h =
    let good : Good N = record {
      variables = All-left IsName N.variables (N.objects ++ N.actors) are.names;
      objects = All-left IsName N.objects N.actors (All-right IsName N.variables (N.objects ++ N.actors) are.names);
    } in (
      shape_of N l,
      spells_written (shape_toks (shape_of N l)) (line_tokens N l good h),
      line_again N l (apart_left N.variables (N.objects ++ N.actors) are.once) (apart_left N.objects N.actors (apart_right N.variables (N.objects ++ N.actors) are.once)) h,
    )

-- A text is one line at the most, and no line where a fault is present in it: each word and each number means one
-- thing of its kind, a call's name for one call, and a fault in a place says that nothing is there.
use Rattle.std.proofs.Common.{◌≡◌, ◌<◌, ◌^◌, ℕ, ℤ, pos, List, [], ◌∷◌, Bool, true, false, length, Option, Some, None, Result, Ok, Err, refl, sym, ap, ◌∙◌, subst, inl, inr, arith, lit<}
use Rattle.std.proofs.lemmas.Bool.{false≢true}
use Rattle.std.proofs.lemmas.Option.{same_Some}
use Rattle.std.proofs.lemmas.List.Quantifiers.{position-Some}
use Rattle.std.specs.Prelude.{FitsSigned}
use Rattle.std.specs.Int.{w64}
use Rattle.std.specs.Result.{IfOk, IfErr}
use Rattle.std.specs.Str.{bytes_eq}
use Rattle.fr_instr.specs.Tokens.{Tok, Spells}
use Rattle.fr_instr.specs.Shapes.{Word, name, numeral, Shape, set, set_to, branch, jump, pick, leave, call as calls, shape_toks}
use Rattle.fr_instr.specs.ShapeReading.{shape_at}
use Rattle.fr_instr.specs.Names.{NamesOf, place_of}
use Rattle.fr_instr.specs.Numbers.{IsInteger, IsNatural}
use Rattle.fr_instr.specs.Calls.{Row, row_named, row_for, made, given_of, put}
use Rattle.fr_instr.specs.Lines.{IsVariable, IsObject, IsOperand, IsBlockTime, Says, AreGiven, IsElse, IsInto, IsCall, IsLineOf, IsLine, OperandIn, GivenIn, AreGivenIn, ElseIn, IntoIn, IsCallIn, IsLineIn}
use Rattle.fr_instr.specs.Faults.{IsWrongKind, NamesNothing, IsBadNumber, InNaming, InPlain, InPlace, InArgs, InPlaces, InVariable, InElse, InInto, InNamed, InCall, InShape, Stands}
use Rattle.fr_instr.specs.declared.fault.LineFault.{LineFault}
use Rattle.fr_instr.specs.declared.fault.LineFaultAt.{LineFaultAt}
use Rattle.fr_instr.specs.declared.fault.LineFault.TheVariants.{Memory, Syntax, UnknownName, UnknownCall, ArgCount, BadNumber}
use Rattle.fr_program.specs.Limits.{BlockTimeInLimits}
use Rattle.fr_program.specs.declared.instr.Instr.{Instr}
use Rattle.fr_program.specs.declared.instr.Instr.TheVariants as line
use Rattle.fr_program.specs.declared.instr.Operator.{Operator}
use Rattle.fr_program.specs.declared.instr.Operator.TheVariants.{Plus}
use Rattle.fr_program.specs.declared.instr.Comparison.{Comparison}
use Rattle.fr_instr.proofs.TokenLaws.{apart, spells_once}
use Rattle.fr_instr.proofs.ShapeLaws.{shape_found, shape_again}
use Rattle.fr_instr.proofs.NumberLaws.{only_number, natural_fits}
use Rattle.fr_instr.proofs.CallLaws.{verb_again, places_fit}
use Rattle.fr_instr.proofs.PartsLaws.{verb_made, args_kept, else_kept, into_kept}
use Rattle.fr_instr.specs.declared.call.Slot.{Slot}
use Rattle.fr_instr.specs.declared.call.Slot.TheVariants.{Object, Operand as Operands, Variable as Variables, Length, Time, Ticks as TicksSlot, Null}
use Rattle.fr_instr.specs.declared.call.Tail.{Tail}
use Rattle.fr_instr.specs.declared.given.Given.{Given}
use Rattle.fr_instr.specs.declared.given.TheConstants.{NOTHING}
use Rattle.fr_program.specs.declared.ids.ObjId.{ObjId}
use Rattle.fr_program.specs.declared.ids.VarId.{VarId}
use Rattle.fr_program.specs.declared.instr.BlockTime.{BlockTime}
use Rattle.fr_program.specs.declared.instr.BlockTime.TheVariants.{Ticks, MaxDelay}
use Rattle.fr_program.specs.declared.instr.Operand.{Operand}
use Rattle.fr_program.specs.declared.instr.Operand.TheVariants.{Number, Variable}
use Rattle.fr_program.specs.declared.instr.Call.{Call}

-- ---- a text has one shape at the most

shape_spells : (text : List ℕ) (ts : List Tok) (s : Shape) → Spells text ts → Some s ≡ shape_at ts → Spells text (shape_toks s)
shape_spells text ts s h e = let P : List Tok → Type 0 = Spells text in subst P (shape_found ts s (sym e)) h

no_shape_spells : (text : List ℕ) (ts : List Tok) → Spells text ts → None ≡ shape_at ts → (s : Shape) → Spells text (shape_toks s) → ⊥
no_shape_spells text ts h e s k = apart (shape_at ts) s (sym e) (ap shape_at (spells_once text ts (shape_toks s) h k) ∙ shape_again s)

one_shape : (text : List ℕ) (s t : Shape) → Spells text (shape_toks s) → Spells text (shape_toks t) → s ≡ t
one_shape text s t h k = same_Some s t (sym (shape_again s) ∙ ap shape_at (spells_once text (shape_toks s) (shape_toks t) h k) ∙ shape_again t)

-- ---- each word and number means one thing

one_place : (names : List (List ℕ)) (w : List ℕ) (i j : ℕ) → place_of names w ≡ Some i → place_of names w ≡ Some j → i ≡ j
one_place names w i j h k = same_Some i j (sym h ∙ k)

one_variable : (N : NamesOf) (w : List ℕ) (x y : VarId) → IsVariable N w x → IsVariable N w y → x ≡ y
one_variable N w x y h k = let f : ℕ → VarId = λ i. record { 0 = i } in ap f (one_place N.variables w x.0 y.0 h k)

one_object : (N : NamesOf) (w : List ℕ) (x y : ObjId) → IsObject N w x → IsObject N w y → x ≡ y
one_object N w x y h k = let f : ℕ → ObjId = λ i. record { 0 = i } in ap f (one_place N.objects w x.0 y.0 h k)

pub one_integer : (d : List ℕ) (y z : ℤ) → IsInteger d y → IsInteger d z → y ≡ z
one_integer d y z h k = only_number d y z h.0 h.1 k.0 k.1

same_pos : (m n : ℕ) → pos m ≡ pos n → m ≡ n
same_pos m n e = cc

one_natural : (least most : ℕ) (d : List ℕ) (m n : ℕ) → most < 2 ^ 32 → IsNatural least most d m → IsNatural least most d n → m ≡ n
one_natural least most d m n wide h k =
    let small : m < 2 ^ 32 = omega (arith, h.2) in
    let little : n < 2 ^ 32 = omega (arith, k.2) in
    same_pos m n (only_number d (pos m) (pos n) h.0 (natural_fits m small) k.0 (natural_fits n little))

one_operand : (N : NamesOf) (w : Word) (a b : Operand) → IsOperand N w a → IsOperand N w b → a ≡ b
one_operand N (name w) (Variable x) (Variable y) h k = ap (λ z. Variable z) (one_variable N w x y h k)
one_operand N (numeral d) (Number y) (Number z) h k = ap (λ x. Number x) (one_integer d y z h k)
one_operand N (name w) (Number z) b h k = absurd h
one_operand N (numeral d) (Variable x) b h k = absurd h
one_operand N (name w) (Variable x) (Number z) h k = absurd k
one_operand N (numeral d) (Number z) (Variable x) h k = absurd k

one_time : (w : Word) (a b : BlockTime) → IsBlockTime w a → IsBlockTime w b → a ≡ b
one_time (name w) MaxDelay MaxDelay h k = refl
one_time (numeral d) (Ticks m) (Ticks n) h k = ap (λ x. Ticks x) (one_natural 0 2147483647 d m n (lit< tt) h k)
one_time (name w) (Ticks n) b h k = absurd h
one_time (numeral d) MaxDelay b h k = absurd h
one_time (name w) MaxDelay (Ticks n) h k = absurd k
one_time (numeral d) (Ticks n) MaxDelay h k = absurd k

-- what a word or number gives in a place
one_put : (N : NamesOf) (p : Slot) (w : Word) (h k g : Given) → Says N p w h → Says N p w k → put p h g ≡ put p k g
one_put N Object (name w) h k g i j = ap (λ x. record g { object = x }) (one_object N w h.object k.object i j)
one_put N Operands w h k g i j = ap (λ x. record g { operand = x }) (one_operand N w h.operand k.operand i j)
one_put N Variables (name w) h k g i j = ap (λ x. record g { variable = x }) (one_variable N w h.variable k.variable i j)
one_put N Length (numeral d) h k g i j = ap (λ x. record g { bytes = x }) (one_natural 1 65535 d h.bytes k.bytes (lit< tt) i j)
one_put N Time w h k g i j = ap (λ x. record g { time = x }) (one_time w h.time k.time i j)
one_put N TicksSlot (numeral d) h k g i j = ap (λ x. record g { ticks = x }) (one_natural 0 2147483647 d h.ticks k.ticks (lit< tt) i j)
one_put N Null w h k g i j = refl
one_put N Object (numeral d) h k g i j = absurd i
one_put N Variables (numeral d) h k g i j = absurd i
one_put N Length (name w) h k g i j = absurd i
one_put N TicksSlot (name w) h k g i j = absurd i

one_list : (N : NamesOf) (ps : List Slot) (ws : List Word) (g h k : Given) → AreGiven N ps ws g h → AreGiven N ps ws g k → h ≡ k
one_list N [] [] g h k i j = i ∙ sym j
one_list N (p ∷ ps) (w ∷ ws) g h k (m, i, more) (n, j, rest) =
    let P : Given → Type 0 = λ x. AreGiven N ps ws x h in
    one_list N ps ws n h k (subst P (i.1 ∙ one_put N p w m n g i.0 j.0 ∙ sym j.1) more) rest
one_list N [] (w ∷ ws) g h k i j = absurd i
one_list N (p ∷ ps) [] g h k i j = absurd i

one_else : (t : Tail) (d : Option (List ℕ)) (e g : Option ℕ) → IsElse t d e → IsElse t d g → e ≡ g
one_else t None None None h k = refl
one_else t (Some d) (Some m) (Some n) h k = ap (λ x. Some x) (one_natural 0 2147483647 d m n (lit< tt) h.1 k.1)
one_else t None (Some n) g h k = absurd h
one_else t (Some d) None g h k = absurd h
one_else t None None (Some n) h k = absurd k
one_else t (Some d) (Some m) None h k = absurd k

one_into : (N : NamesOf) (t : Tail) (w : Option (List ℕ)) (v u : Option VarId) → IsInto N t w v → IsInto N t w u → v ≡ u
one_into N t None None None h k = refl
one_into N t (Some w) (Some x) (Some y) h k = ap (λ z. Some z) (one_variable N w x y h.1 k.1)
one_into N t None (Some n) g h k = absurd h
one_into N t (Some d) None g h k = absurd h
one_into N t None None (Some n) h k = absurd k
one_into N t (Some d) (Some m) None h k = absurd k

same_made : (r s : Row) (g h : Given) (e d : Option ℕ) (v u : Option VarId) → r ≡ s → g ≡ h → e ≡ d → v ≡ u
    → made r.verb (record g { or_else = e; into = v }) ≡ made s.verb (record h { or_else = d; into = u })
same_made r s g h e d v u i j k l = ap (λ x. made x.verb (record g { or_else = e; into = v })) i ∙ ap (λ x. made s.verb (record x { or_else = e; into = v })) j ∙ ap (λ x. made s.verb (record h { or_else = x; into = v })) k ∙ ap (λ x. made s.verb (record h { or_else = d; into = x })) l

one_call : (N : NamesOf) (v : Option (List ℕ)) (k : List ℕ) (ws : List Word) (e : Option (List ℕ)) (c d : Call) → IsCall N v k ws e c → IsCall N v k ws e d → c ≡ d
one_call N v k ws e c d h g =
    let row : h.row ≡ g.row = same_Some h.row g.row (sym h.named ∙ g.named) in
    let A : Row → Type 0 = λ r. AreGiven N r.places ws NOTHING h.given in
    let E : Row → Type 0 = λ r. IsElse r.tail e h.target in
    let I : Row → Type 0 = λ r. IsInto N r.tail v h.variable in
    h.call ∙ same_made h.row g.row h.given g.given h.target g.target h.variable g.variable row (one_list N g.row.places ws NOTHING h.given g.given (subst A row h.args) g.args)
    (one_else g.row.tail e h.target g.target (subst E row h.behind) g.behind) (one_into N g.row.tail v h.variable g.variable (subst I row h.before) g.before) ∙ sym g.call

set_same : (t u : VarId) (a b : Operand) (op : Operator) (p q : Operand) → t ≡ u → a ≡ b → p ≡ q → line.Set t a op p ≡ line.Set u b op q
set_same t u a b op p q x y z = cc

if_same : (a b : Operand) (c : Comparison) (p q : Operand) (k m : ℕ) → a ≡ b → p ≡ q → k ≡ m → line.If a c p k ≡ line.If b c q m
if_same a b c p q k m x y z = cc

pick_same : (t u : VarId) (a b c d : ℤ) → t ≡ u → a ≡ b → c ≡ d → line.Pick t a c ≡ line.Pick u b d
pick_same t u a b c d x y z = cc

one_line_of : (N : NamesOf) (s : Shape) (l m : Instr) → IsLineOf N s l → IsLineOf N s m → l ≡ m
one_line_of N (set x a) l m (t, o, h, i, e) (u, p, j, k, g) =
    e ∙ set_same t u o p Plus (Number (pos 0)) (Number (pos 0)) (one_variable N x t u h j) (one_operand N a o p i k) refl ∙ sym g
one_line_of N (set_to x a op b) l m (t, o, p, h, i, j, e) (u, q, r, h', i', j', g) =
    e ∙ set_same t u o q op p r (one_variable N x t u h h') (one_operand N a o q i i') (one_operand N b p r j j') ∙ sym g
one_line_of N (branch a c b d) l m (o, p, k, h, i, j, e) (q, r, n, h', i', j', g) =
    e ∙ if_same o q c p r k n (one_operand N a o q h h') (one_operand N b p r i i') (one_natural 0 2147483647 d k n (lit< tt) j j') ∙ sym g
one_line_of N (jump d) l m (k, h, e) (n, i, g) = e ∙ ap (λ x. line.Goto x) (one_natural 0 2147483647 d k n (lit< tt) h i) ∙ sym g
one_line_of N (pick x d f) l m (t, lo, hi, h, i, j, e) (u, lo', hi', h', i', j', g) = e ∙ pick_same t u lo lo' hi hi' (one_variable N x t u h h') (one_integer d lo lo' i i') (one_integer f hi hi' j j') ∙ sym g
one_line_of N leave l m e g = e ∙ sym g
one_line_of N (calls v k ws f) l m (c, h, e) (d, i, g) = e ∙ ap (λ x. line.Call x) (one_call N v k ws f c d h i) ∙ sym g

pub one_line : (N : NamesOf) (text : List ℕ) (l m : Instr) → IsLine N text l → IsLine N text m → m ≡ l
one_line N text l m (s, h, i) (t, j, k) =
    let P : Shape → Type 0 = λ x. IsLineOf N x m in
    one_line_of N s m l (subst P (sym (one_shape text s t h j)) k) i

-- ---- a line has no fault

in_plain : (p : Slot) (w : Word) (f : LineFault) → (IsWrongKind p w → ⊥) → (IsBadNumber p w → ⊥) → InPlain p w f → ⊥
in_plain p w Syntax a b h = a h
in_plain p w BadNumber a b h = b h
in_plain p w Memory a b h = absurd h
in_plain p w UnknownName a b h = absurd h
in_plain p w UnknownCall a b h = absurd h
in_plain p w ArgCount a b h = absurd h

in_naming : (N : NamesOf) (p : Slot) (w : Word) (f : LineFault) → (IsWrongKind p w → ⊥) → (NamesNothing N p w → ⊥) → (IsBadNumber p w → ⊥) → InNaming N p w f → ⊥
in_naming N p w Syntax a n b h = a h
in_naming N p w UnknownName a n b h = n h
in_naming N p w BadNumber a n b h = b h
in_naming N p w Memory a n b h = absurd h
in_naming N p w UnknownCall a n b h = absurd h
in_naming N p w ArgCount a n b h = absurd h

operand_clash : (N : NamesOf) (w : Word) (a : Operand) (f : LineFault) → InPlace N Operands w f → IsOperand N w a → ⊥
operand_clash N (name w) (Variable x) f h k = in_naming N Operands (name w) f (λ z. z) (λ z. apart (place_of N.variables w) x.0 z k) (λ z. z) h
operand_clash N (numeral d) (Number z) f h k = in_naming N Operands (numeral d) f (λ y. y) (λ y. y) (λ y. y z k) h
operand_clash N (name w) (Number z) f h k = absurd k
operand_clash N (numeral d) (Variable x) f h k = absurd k

time_clash : (w : Word) (t : BlockTime) (f : LineFault) → InPlain Time w f → IsBlockTime w t → ⊥
time_clash (name w) MaxDelay f h k = in_plain Time (name w) f (λ z. z k) (λ z. z) h
time_clash (numeral d) (Ticks n) f h k = in_plain Time (numeral d) f (λ z. z) (λ z. z n k) h
time_clash (name w) (Ticks n) f h k = absurd k
time_clash (numeral d) MaxDelay f h k = absurd k

place_clash : (N : NamesOf) (p : Slot) (w : Word) (g : Given) (f : LineFault) → InPlace N p w f → Says N p w g → ⊥
place_clash N Object (name w) g f h k = in_naming N Object (name w) f (λ z. z) (λ z. apart (place_of N.objects w) g.object.0 z k) (λ z. z) h
place_clash N Object (numeral d) g f h k = absurd k
place_clash N Operands w g f h k = operand_clash N w g.operand f h k
place_clash N Variables (name w) g f h k = in_naming N Variables (name w) f (λ z. z) (λ z. apart (place_of N.variables w) g.variable.0 z k) (λ z. z) h
place_clash N Variables (numeral d) g f h k = absurd k
place_clash N Length (name w) g f h k = absurd k
place_clash N Length (numeral d) g f h k = in_plain Length (numeral d) f (λ z. z) (λ z. z g.bytes k) h
place_clash N Time w g f h k = time_clash w g.time f h k
place_clash N TicksSlot (name w) g f h k = absurd k
place_clash N TicksSlot (numeral d) g f h k = in_plain TicksSlot (numeral d) f (λ z. z) (λ z. z g.ticks k) h
place_clash N Null (name w) g f h k = in_plain Null (name w) f (λ z. z k) (λ z. z) h
place_clash N Null (numeral d) g f h k = absurd k

args_clash : (N : NamesOf) (ps : List Slot) (ws : List Word) (g h : Given) (f : LineFault) → InArgs N ps ws f → AreGiven N ps ws g h → ⊥
args_clash N (p ∷ ps) (w ∷ ws) g h f (inl i) (k, j, more) = place_clash N p w k f i j.0
args_clash N (p ∷ ps) (w ∷ ws) g h f (inr i) (k, j, more) = args_clash N ps ws k h f i more
args_clash N [] [] g h f i j = absurd i
args_clash N [] (w ∷ ws) g h f i j = absurd j
args_clash N (p ∷ ps) [] g h f i j = absurd j

count_same : (N : NamesOf) (ps : List Slot) (ws : List Word) (g h : Given) → AreGiven N ps ws g h → length ws ≡ length ps
count_same N [] [] g h i = refl
count_same N (p ∷ ps) (w ∷ ws) g h (k, j, more) = let rest = count_same N ps ws k h more in omega (arith, rest)
count_same N [] (w ∷ ws) g h i = absurd i
count_same N (p ∷ ps) [] g h i = absurd i

places_clash : (N : NamesOf) (ps : List Slot) (ws : List Word) (g h : Given) (f : LineFault) → InPlaces N ps ws f → AreGiven N ps ws g h → ⊥
places_clash N ps ws g h f (inl i) j = i.1 (count_same N ps ws g h j)
places_clash N ps ws g h f (inr i) j = args_clash N ps ws g h f i j

else_clash : (t : Tail) (d : Option (List ℕ)) (e : Option ℕ) (f : LineFault) → InElse t d f → IsElse t d e → ⊥
else_clash t None e f h k = absurd h
else_clash t (Some d) None f h k = absurd k
else_clash t (Some d) (Some n) f (inl h) k = false≢true (sym h.1 ∙ k.0)
else_clash t (Some d) (Some n) f (inr h) k = h.1 n k.1

into_clash : (N : NamesOf) (t : Tail) (w : Option (List ℕ)) (v : Option VarId) (f : LineFault) → InInto N t w f → IsInto N t w v → ⊥
into_clash N t None v f h k = absurd h
into_clash N t (Some w) None f h k = absurd k
into_clash N t (Some w) (Some x) f (inl h) k = false≢true (sym h.1 ∙ k.0)
into_clash N t (Some w) (Some x) f (inr h) k = apart (place_of N.variables w) x.0 h.1 k.1

named_clash : (N : NamesOf) (v : Option (List ℕ)) (k : List ℕ) (ws : List Word) (e : Option (List ℕ)) (f : LineFault) (c : Call) (i : IsCall N v k ws e c) → InNamed N i.row v ws e f → ⊥
named_clash N v k ws e f c i (inl h) = else_clash i.row.tail e i.target f h i.behind
named_clash N v k ws e f c i (inr (inl h)) = into_clash N i.row.tail v i.variable f h i.before
named_clash N v k ws e f c i (inr (inr h)) = places_clash N i.row.places ws NOTHING i.given f h i.args

call_clash : (N : NamesOf) (v : Option (List ℕ)) (k : List ℕ) (ws : List Word) (e : Option (List ℕ)) (f : LineFault) (c : Call) → InCall N v k ws e f → IsCall N v k ws e c → ⊥
call_clash N v k ws e f c (inl h) i = apart (row_named k) i.row h.1 i.named
call_clash N v k ws e f c (inr (r, at, h)) i =
    let P : Row → Type 0 = λ x. InNamed N x v ws e f in
    named_clash N v k ws e f c i (subst P (same_Some r i.row (sym at ∙ i.named)) h)

variable_clash : (N : NamesOf) (w : List ℕ) (x : VarId) (f : LineFault) → InVariable N w f → IsVariable N w x → ⊥
variable_clash N w x f h k = apart (place_of N.variables w) x.0 h.1 k

no_line_of : (N : NamesOf) (s : Shape) (f : LineFault) (l : Instr) → InShape N s f → IsLineOf N s l → ⊥
no_line_of N (set x a) f l (inl h) (t, o, i, j, e) = variable_clash N x t f h i
no_line_of N (set x a) f l (inr h) (t, o, i, j, e) = operand_clash N a o f h j
no_line_of N (set_to x a op b) f l (inl h) (t, o, p, i, j, k, e) = variable_clash N x t f h i
no_line_of N (set_to x a op b) f l (inr (inl h)) (t, o, p, i, j, k, e) = operand_clash N a o f h j
no_line_of N (set_to x a op b) f l (inr (inr h)) (t, o, p, i, j, k, e) = operand_clash N b p f h k
no_line_of N (branch a c b d) f l (inl h) (o, p, n, i, j, k, e) = operand_clash N a o f h i
no_line_of N (branch a c b d) f l (inr (inl h)) (o, p, n, i, j, k, e) = operand_clash N b p f h j
no_line_of N (branch a c b d) f l (inr (inr h)) (o, p, n, i, j, k, e) = h.1 n k
no_line_of N (jump d) f l h (n, i, e) = h.1 n i
no_line_of N (pick x d g) f l (inl h) (t, lo, hi, i, j, k, e) = variable_clash N x t f h i
no_line_of N (pick x d g) f l (inr (inl h)) (t, lo, hi, i, j, k, e) = h.1 lo j
no_line_of N (pick x d g) f l (inr (inr h)) (t, lo, hi, i, j, k, e) = h.1 hi k
no_line_of N leave f l h i = absurd h
no_line_of N (calls v k ws e) f l h (c, i, same) = call_clash N v k ws e f c h i

pub no_line : (N : NamesOf) (text : List ℕ) (f : LineFault) (l : Instr) → Stands N text f → IsLine N text l → ⊥
no_line N text f l (inl h) (s, i, j) = h.1 s i
no_line N text f l (inr (s, h, k)) (t, i, j) =
    let P : Shape → Type 0 = λ x. IsLineOf N x l in
    no_line_of N s f l k (subst P (sym (one_shape text s t h i)) j)

-- ---- a line that is read can be written

place_in : (names : List (List ℕ)) (w : List ℕ) (i : ℕ) → place_of names w ≡ Some i → i < length names
place_in names w i h = (position-Some (λ v. bytes_eq w v) names i [] h).0

operand_in : (N : NamesOf) (w : Word) (a : Operand) → IsOperand N w a → OperandIn N a
operand_in N (name w) (Variable x) h = place_in N.variables w x.0 h
operand_in N (numeral d) (Number z) h = h.1
operand_in N (name w) (Number z) h = absurd h
operand_in N (numeral d) (Variable x) h = absurd h

said_in : (N : NamesOf) (p : Slot) (w : Word) (g : Given) → Says N p w g → GivenIn N p g
said_in N Object (name w) g h = place_in N.objects w g.object.0 h
said_in N Object (numeral d) g h = absurd h
said_in N Operands w g h = operand_in N w g.operand h
said_in N Variables (name w) g h = place_in N.variables w g.variable.0 h
said_in N Variables (numeral d) g h = absurd h
said_in N Length (name w) g h = absurd h
said_in N Length (numeral d) g h = (h.1, h.2)
said_in N Time w g h = time_in w g.time h
  where
    time_in : (v : Word) (t : BlockTime) → IsBlockTime v t → BlockTimeInLimits t
    time_in (name v) MaxDelay h = tt
    time_in (numeral d) (Ticks n) h = h.2
    time_in (name v) (Ticks n) h = absurd h
    time_in (numeral d) MaxDelay h = absurd h
said_in N TicksSlot (name w) g h = absurd h
said_in N TicksSlot (numeral d) g h = h.2
said_in N Null w g h = tt

-- what is given in a place stays within its limits when another place is filled
put_in : (N : NamesOf) (q p : Slot) (k g : Given) → GivenIn N q k → GivenIn N p g → GivenIn N p (put q k g)
put_in N Object Object k g new old = new
put_in N Operands Operands k g new old = new
put_in N Variables Variables k g new old = new
put_in N Length Length k g new old = new
put_in N Time Time k g new old = new
put_in N TicksSlot TicksSlot k g new old = new
put_in N Null p k g new old = old
put_in N q p k g new old = old

more_in : (N : NamesOf) (ps : List Slot) (ws : List Word) (g h : Given) (p : Slot) → AreGiven N ps ws g h → GivenIn N p g → GivenIn N p h
more_in N [] [] g h p i old = subst (GivenIn N p) (sym i) old
more_in N (q ∷ ps) (w ∷ ws) g h p (k, i, more) old = more_in N ps ws k h p more (subst (GivenIn N p) (sym i.1) (put_in N q p k g (said_in N q w k i.0) old))
more_in N [] (w ∷ ws) g h p i old = absurd i
more_in N (q ∷ ps) [] g h p i old = absurd i

args_in : (N : NamesOf) (ps : List Slot) (ws : List Word) (g h : Given) → AreGiven N ps ws g h → AreGivenIn N ps h
args_in N [] ws g h i = tt
args_in N (p ∷ ps) (w ∷ ws) g h (k, i, more) = (more_in N ps ws k h p more (said_in N p w k i.0), args_in N ps ws k h more)
args_in N (p ∷ ps) [] g h i = absurd i

-- what is beside a call changes none of its arguments
beside_in : (N : NamesOf) (p : Slot) (g : Given) (e : Option ℕ) (v : Option VarId) → GivenIn N p g → GivenIn N p (record g { or_else = e; into = v })
beside_in N Null g e v h = h
beside_in N p g e v h = h

all_beside_in : (N : NamesOf) (ps : List Slot) (g : Given) (e : Option ℕ) (v : Option VarId) → AreGivenIn N ps g → AreGivenIn N ps (record g { or_else = e; into = v })
all_beside_in N [] g e v h = tt
all_beside_in N (p ∷ ps) g e v h = (beside_in N p g e v h.0, all_beside_in N ps g e v h.1)

else_in : (t : Tail) (d : Option (List ℕ)) (e : Option ℕ) → IsElse t d e → ElseIn e
else_in t d None h = tt
else_in t None (Some n) h = absurd h
else_in t (Some d) (Some n) h = h.1.2

into_in : (N : NamesOf) (t : Tail) (w : Option (List ℕ)) (v : Option VarId) → IsInto N t w v → IntoIn N v
into_in N t w None h = tt
into_in N t None (Some x) h = absurd h
into_in N t (Some w) (Some x) h = place_in N.variables w x.0 h.1

call_in : (N : NamesOf) (v : Option (List ℕ)) (k : List ℕ) (ws : List Word) (e : Option (List ℕ)) (c : Call) → IsCall N v k ws e c → IsCallIn N c
call_in N v k ws e c h =
    let g = record h.given { or_else = h.target; into = h.variable } in
    let places = places_fit (λ r. bytes_eq r.name k) h.row h.named in
    let P : List Slot → Type 0 = λ ps. AreGivenIn N ps g in
    let Q : List Slot → Type 0 = λ ps. AreGivenIn N ps (given_of (made h.row.verb g)) in
    let args = args_kept N h.row.verb g (subst P places (all_beside_in N h.row.places h.given h.target h.variable (args_in N h.row.places ws NOTHING h.given h.args))) in
    subst (IsCallIn N) (sym h.call) (record {
      row = h.row;
      listed = ap row_for (verb_made h.row.verb g) ∙ verb_again k h.row h.named;
      args = subst Q (sym places) args;
      target = else_kept h.row.verb g (else_in h.row.tail e h.target h.behind);
      variable = into_kept N h.row.verb g (into_in N h.row.tail v h.variable h.before);
    })

line_in_of : (N : NamesOf) (s : Shape) (l : Instr) → IsLineOf N s l → IsLineIn N l
line_in_of N (set x a) l (t, o, h, i, e) = rw e (place_in N.variables x t.0 h, operand_in N a o i, zero_fits)
  where
    zero_fits : FitsSigned w64 (pos 0)
    zero_fits = natural_fits 0 (lit< tt)
line_in_of N (set_to x a op b) l (t, o, p, h, i, j, e) = rw e (place_in N.variables x t.0 h, operand_in N a o i, operand_in N b p j)
line_in_of N (branch a c b d) l (o, p, k, h, i, j, e) = rw e (operand_in N a o h, operand_in N b p i, j.2)
line_in_of N (jump d) l (k, h, e) = rw e (h.2)
line_in_of N (pick x d f) l (t, lo, hi, h, i, j, e) = rw e (place_in N.variables x t.0 h, i.1, j.1)
line_in_of N leave l e = rw e tt
line_in_of N (calls v k ws f) l (c, h, e) = rw e (call_in N v k ws f c h)

pub line_in : (N : NamesOf) (text : List ℕ) (l : Instr) → IsLine N text l → IsLineIn N l
line_in N text l (s, h, i) = line_in_of N s l i

-- ---- what reading gives

pub line_ok : (N : NamesOf) (text : List ℕ) (ts : List Tok) (s : Shape) (l : Instr) → Spells text ts → Some s ≡ shape_at ts → IsLineOf N s l → IsLine N text l
line_ok N text ts s l h e i = (s, shape_spells text ts s h e, i)

pub line_one : (N : NamesOf) (text : List ℕ) {E : Type 0} (r : Result Instr E) → IfOk r (IsLine N text) → IfOk r (λ l. (m : Instr) → IsLine N text m → m ≡ l)
line_one N text (Ok l) h = λ m k. one_line N text l m h k
line_one N text (Err d) h = tt

pub line_within : (N : NamesOf) (text : List ℕ) {E : Type 0} (r : Result Instr E) → IfOk r (IsLine N text) → IfOk r (IsLineIn N)
line_within N text (Ok l) h = line_in N text l h
line_within N text (Err d) h = tt

pub line_err : (N : NamesOf) (text : List ℕ) (ts : List Tok) (s : Shape) (f : LineFault) → Spells text ts → Some s ≡ shape_at ts → InShape N s f → Stands N text f
line_err N text ts s f h e i = inr (s, shape_spells text ts s h e, i)

pub no_tokens : (N : NamesOf) (text : List ℕ) → ((us : List Tok) → Spells text us → ⊥) → Stands N text Syntax
no_tokens N text none = inl (refl, λ s. none (shape_toks s))

pub line_none : (N : NamesOf) (text : List ℕ) (r : Result Instr LineFaultAt) → IfErr r (λ d. (d.fault ≡ Memory → ⊥) → Stands N text d.fault) → IfErr r (λ d. (d.fault ≡ Memory → ⊥) → (l : Instr) → IsLine N text l → ⊥)
line_none N text (Ok l) h = tt
line_none N text (Err d) h = λ not_memory l k. no_line N text d.fault l (h not_memory) k

pub no_shape : (N : NamesOf) (text : List ℕ) (ts : List Tok) (is_whole : Bool) → (is_whole ≡ true → Spells text ts) → (is_whole ≡ false → (us : List Tok) → Spells text us → ⊥) → None ≡ shape_at ts → Stands N text Syntax
no_shape N text ts true h b e = inl (refl, no_shape_spells text ts (h refl) e)
no_shape N text ts false h b e = no_tokens N text (b refl)

-- The shape that is read from tokens is the one that has these tokens: the tokens of a shape give it, and what is
-- found has the tokens, step by step as the reading functions go.
use Rattle.std.proofs.Common.{◌≡◌, ℕ, List, [], ◌∷◌, ◌++◌, true, Some, None, Option, option_map, option_and_then, codes, refl, sym, ap, ◌∙◌, subst, inl, inr}
use Rattle.std.proofs.lemmas.Option.{none-some, same_Some}
use Rattle.std.proofs.lemmas.Bool.{false≢true}
use Rattle.std.proofs.lemmas.Slice.Eq.{bytes_eq-Decides}
use Rattle.std.specs.Str.{bytes_eq}
use Rattle.fr_instr.specs.Tokens.{Tok, word, number, sign}
use Rattle.fr_instr.specs.Shapes.{Word, name, numeral, Shape, set, set_to, branch, jump, pick, leave, call, word_tok, operator_sign, comparison_sign, more_toks, args_toks, else_toks, into_toks, shape_toks}
use Rattle.fr_instr.specs.ShapeReading.{operator_of, comparison_of, is_open, is_close, is_comma, is_assign, take_word, take_number, take_value, take_sign, at_end, number_behind, set_tail, set_at, branch_at, jump_at, pick_at, keyword_at, behind_open, behind_close, with_arg, arg_then, some_args, args_or, args_at, target_end, else_tail, else_at, call_at, head_at, counted_at, shape_behind, shape_at}
use Rattle.fr_instr.proofs.TokenLaws.{chosen}
use Rattle.fr_instr.specs.declared.token.Sign.{Sign}
use Rattle.fr_instr.specs.declared.token.Sign.TheVariants.{Open, Close, Comma, Assign, Plus, Minus, Times, Less, LessEqual, Greater, GreaterEqual, Equal, NotEqual}
use Rattle.fr_program.specs.declared.instr.Operator.{Operator}
use Rattle.fr_program.specs.declared.instr.Operator.TheVariants as operator
use Rattle.fr_program.specs.declared.instr.Comparison.{Comparison}
use Rattle.fr_program.specs.declared.instr.Comparison.TheVariants as comparison

-- ---- the tokens of a shape give the shape

value_again : (a : Word) (ts : List Tok) → take_value (word_tok a ∷ ts) ≡ Some (a, ts)
value_again (name w) ts = refl
value_again (numeral d) ts = refl

no_sign : (a : Word) (ts : List Tok) → take_sign (word_tok a ∷ ts) ≡ None
no_sign (name w) ts = refl
no_sign (numeral d) ts = refl

operator_again : (op : Operator) → operator_of (operator_sign op) ≡ Some op
operator_again operator.Plus = refl
operator_again operator.Minus = refl
operator_again operator.Times = refl

comparison_again : (c : Comparison) → comparison_of (comparison_sign c) ≡ Some c
comparison_again comparison.Less = refl
comparison_again comparison.AtMost = refl
comparison_again comparison.Greater = refl
comparison_again comparison.AtLeast = refl
comparison_again comparison.Equal = refl
comparison_again comparison.NotEqual = refl

some_again : (a : Word) (bs : List Word) (rest : List Tok) → some_args (word_tok a ∷ (more_toks bs ++ rest)) ≡ Some (a ∷ bs, rest)
some_again (name w) [] rest = refl
some_again (numeral d) [] rest = refl
some_again (name w) (b ∷ bs) rest = ap (with_arg (name w)) (some_again b bs rest)
some_again (numeral d) (b ∷ bs) rest = ap (with_arg (numeral d)) (some_again b bs rest)

args_again : (bs : List Word) (rest : List Tok) → args_at (args_toks bs ++ rest) ≡ Some (bs, rest)
unfolding args_at
args_again [] rest = refl
args_again (name w ∷ bs) rest = some_again (name w) bs rest
args_again (numeral d ∷ bs) rest = some_again (numeral d) bs rest

else_again : (e : Option (List ℕ)) → else_at (else_toks e) ≡ Some e
unfolding else_tail number_behind
else_again None = refl
else_again (Some l) = refl

call_again : (v : Option (List ℕ)) (k : List ℕ) (bs : List Word) (e : Option (List ℕ)) → call_at v k (args_toks bs ++ else_toks e) ≡ Some (call v k bs e)
unfolding call_at
call_again v k bs e = rw (args_again bs (else_toks e), else_again e) refl

pub shape_again : (s : Shape) → shape_at (shape_toks s) ≡ Some s
unfolding shape_at keyword_at set_at set_tail number_behind branch_at jump_at pick_at counted_at head_at
shape_again (set x a) = rw (value_again a []) refl
shape_again (set_to x a op b) = rw (value_again a (sign (operator_sign op) ∷ word_tok b ∷ []), operator_again op, value_again b []) refl
shape_again (branch a c b l) =
    rw (no_sign a (sign (comparison_sign c) ∷ word_tok b ∷ word (codes "goto") ∷ number l ∷ []), value_again a (sign (comparison_sign c) ∷ word_tok b ∷ word (codes "goto") ∷ number l ∷ []), comparison_again c, value_again b (word (codes "goto") ∷ number l ∷ [])) refl
shape_again (jump l) = refl
shape_again (pick x lo hi) = refl
shape_again leave = refl
shape_again (call None k bs e) = call_again None k bs e
shape_again (call (Some x) k bs e) = call_again (Some x) k bs e

-- ---- the shape that is found has the tokens

bound : {A B : Type 0} (o : Option A) (f : A → Option B) (y : B) → option_and_then f o ≡ Some y → (x : A) × (o ≡ Some x) × (f x ≡ Some y)
bound None f y e = absurd (none-some y e)
bound (Some x) f y e = (x, refl, e)

word_found : (ts : List Tok) (p : List ℕ × List Tok) → take_word ts ≡ Some p → ts ≡ word p.0 ∷ p.1
word_found (word w ∷ ts) p e = let same : (w, ts) ≡ p = same_Some (w, ts) p e in ap (λ (q : List ℕ × List Tok). word q.0 ∷ q.1) same
word_found ts p e = absurd (none-some p e)

number_found : (ts : List Tok) (p : List ℕ × List Tok) → take_number ts ≡ Some p → ts ≡ number p.0 ∷ p.1
number_found (number w ∷ ts) p e = let same : (w, ts) ≡ p = same_Some (w, ts) p e in ap (λ (q : List ℕ × List Tok). number q.0 ∷ q.1) same
number_found ts p e = absurd (none-some p e)

sign_found : (ts : List Tok) (p : Sign × List Tok) → take_sign ts ≡ Some p → ts ≡ sign p.0 ∷ p.1
sign_found (sign w ∷ ts) p e = let same : (w, ts) ≡ p = same_Some (w, ts) p e in ap (λ (q : Sign × List Tok). sign q.0 ∷ q.1) same
sign_found ts p e = absurd (none-some p e)

value_found : (ts : List Tok) (p : Word × List Tok) → take_value ts ≡ Some p → ts ≡ word_tok p.0 ∷ p.1
value_found (word w ∷ ts) p e = let same : (name w, ts) ≡ p = same_Some (name w, ts) p e in ap (λ (q : Word × List Tok). word_tok q.0 ∷ q.1) same
value_found (number w ∷ ts) p e = let same : (numeral w, ts) ≡ p = same_Some (numeral w, ts) p e in ap (λ (q : Word × List Tok). word_tok q.0 ∷ q.1) same
value_found ts p e = absurd (none-some p e)

end_found : (g : Shape) (ts : List Tok) (f : Shape) → at_end g ts ≡ Some f → (ts ≡ []) × (g ≡ f)
end_found g [] f e = (refl, same_Some g f e)
end_found g (t ∷ ts) f e = absurd (none-some f e)

operator_found : (s : Sign) (x : Operator) → operator_of s ≡ Some x → s ≡ operator_sign x
operator_found Plus x e = ap operator_sign (same_Some operator.Plus x e)
operator_found Minus x e = ap operator_sign (same_Some operator.Minus x e)
operator_found Times x e = ap operator_sign (same_Some operator.Times x e)
operator_found s x e = absurd (none-some x e)

comparison_found : (s : Sign) (x : Comparison) → comparison_of s ≡ Some x → s ≡ comparison_sign x
comparison_found Less x e = ap comparison_sign (same_Some comparison.Less x e)
comparison_found LessEqual x e = ap comparison_sign (same_Some comparison.AtMost x e)
comparison_found Greater x e = ap comparison_sign (same_Some comparison.Greater x e)
comparison_found GreaterEqual x e = ap comparison_sign (same_Some comparison.AtLeast x e)
comparison_found Equal x e = ap comparison_sign (same_Some comparison.Equal x e)
comparison_found NotEqual x e = ap comparison_sign (same_Some comparison.NotEqual x e)
comparison_found s x e = absurd (none-some x e)

open_found : (s : Sign) → is_open s ≡ true → s ≡ Open
open_found Open e = refl
open_found s e = absurd (false≢true e)

close_found : (s : Sign) → is_close s ≡ true → s ≡ Close
close_found Close e = refl
close_found s e = absurd (false≢true e)

comma_found : (s : Sign) → is_comma s ≡ true → s ≡ Comma
comma_found Comma e = refl
comma_found s e = absurd (false≢true e)

assign_found : (s : Sign) → is_assign s ≡ true → s ≡ Assign
assign_found Assign e = refl
assign_found s e = absurd (false≢true e)

number_behind_found : (k : List ℕ) (ts : List Tok) (p : List ℕ × List Tok) → number_behind k ts ≡ Some p → ts ≡ word k ∷ number p.0 ∷ p.1
unfolding number_behind
number_behind_found k ts p e =
    let w = bound (take_word ts) _ p e in
    elim (chosen (bytes_eq w.0.0 k) _ _ _ w.2) [
      | inr other ↦ absurd (none-some p other.1)
      | inl is ↦ word_found ts w.0 w.1 ∙ ap (λ x. word x ∷ w.0.1) ((bytes_eq-Decides w.0.0 k).0 is.0) ∙ ap (λ x. word k ∷ x) (number_found w.0.1 p is.1)
    ]

jump_found : (ts : List Tok) (f : Shape) → jump_at ts ≡ Some f → word (codes "goto") ∷ ts ≡ shape_toks f
unfolding jump_at
jump_found ts f e =
    let l = bound (take_number ts) _ f e in
    let end = end_found (jump l.0.0) l.0.1 f l.2 in
    rw (number_found ts l.0 l.1, end.0) (ap shape_toks end.1)

branch_whole : (ts r1 r2 r3 r4 : List Tok) (a : Word) (s : Sign) (c : Comparison) (b : Word) (l : List ℕ) → ts ≡ word_tok a ∷ r1 → r1 ≡ sign s ∷ r2 → s ≡ comparison_sign c → r2 ≡ word_tok b ∷ r3
    → r3 ≡ word (codes "goto") ∷ number l ∷ r4 → r4 ≡ [] → word (codes "if") ∷ ts ≡ shape_toks (branch a c b l)
branch_whole ts r1 r2 r3 r4 a s c b l e1 e2 e3 e4 e5 e6 = rw (e1, e2, e3, e4, e5, e6) refl

branch_found : (ts : List Tok) (f : Shape) → branch_at ts ≡ Some f → word (codes "if") ∷ ts ≡ shape_toks f
unfolding branch_at
branch_found ts f e =
    let a = bound (take_value ts) _ f e in
    let s = bound (take_sign a.0.1) _ f a.2 in
    let c = bound (comparison_of s.0.0) _ f s.2 in
    let b = bound (take_value s.0.1) _ f c.2 in
    let l = bound (number_behind (codes "goto") b.0.1) _ f b.2 in
    let end = end_found (branch a.0.0 c.0 b.0.0 l.0.0) l.0.1 f l.2 in
    branch_whole ts a.0.1 s.0.1 b.0.1 l.0.1 a.0.0 s.0.0 c.0 b.0.0 l.0.0 (value_found ts a.0 a.1) (sign_found a.0.1 s.0 s.1) (comparison_found s.0.0 c.0 c.1)
    (value_found s.0.1 b.0 b.1) (number_behind_found (codes "goto") b.0.1 l.0 l.1) end.0 ∙ ap shape_toks end.1

set_to_whole : (ts r s t : List Tok) (x : List ℕ) (a : Word) (sg : Sign) (op : Operator) (b : Word) → ts ≡ sign sg ∷ r → sg ≡ operator_sign op → r ≡ word_tok b ∷ s → s ≡ []
    → word (codes "set") ∷ word x ∷ sign Assign ∷ word_tok a ∷ ts ≡ shape_toks (set_to x a op b)
set_to_whole ts r s t x a sg op b e1 e2 e3 e4 = rw (e1, e2, e3, e4) refl

tail_found : (x : List ℕ) (a : Word) (ts : List Tok) (f : Shape) → set_tail x a ts ≡ Some f → word (codes "set") ∷ word x ∷ sign Assign ∷ word_tok a ∷ ts ≡ shape_toks f
unfolding set_tail
tail_found x a [] f e = ap shape_toks (same_Some (set x a) f e)
tail_found x a (t ∷ ts) f e =
    let s = bound (take_sign (t ∷ ts)) _ f e in
    let op = bound (operator_of s.0.0) _ f s.2 in
    let b = bound (take_value s.0.1) _ f op.2 in
    let end = end_found (set_to x a op.0 b.0.0) b.0.1 f b.2 in
    set_to_whole (t ∷ ts) s.0.1 b.0.1 [] x a s.0.0 op.0 b.0.0 (sign_found (t ∷ ts) s.0 s.1) (operator_found s.0.0 op.0 op.1) (value_found s.0.1 b.0 b.1) end.0 ∙ ap shape_toks end.1

set_whole : (ts r s t us : List Tok) (x : List ℕ) (sg : Sign) (a : Word) → ts ≡ word x ∷ r → r ≡ sign sg ∷ s → sg ≡ Assign → s ≡ word_tok a ∷ t → word (codes "set") ∷ word x ∷ sign Assign ∷ word_tok a ∷ t ≡ us
    → word (codes "set") ∷ ts ≡ us
set_whole ts r s t us x sg a e1 e2 e3 e4 e5 = rw (e1, e2, e3, e4) e5

set_found : (ts : List Tok) (f : Shape) → set_at ts ≡ Some f → word (codes "set") ∷ ts ≡ shape_toks f
unfolding set_at
set_found ts f e =
    let x = bound (take_word ts) _ f e in
    let s = bound (take_sign x.0.1) _ f x.2 in
    elim (chosen (is_assign s.0.0) _ _ _ s.2) [
      | inr other ↦ absurd (none-some f other.1)
      | inl assign ↦ let a = bound (take_value s.0.1) _ f assign.1 in
          set_whole ts x.0.1 s.0.1 a.0.1 (shape_toks f) x.0.0 s.0.0 a.0.0 (word_found ts x.0 x.1) (sign_found x.0.1 s.0 s.1) (assign_found s.0.0 assign.0) (value_found s.0.1 a.0 a.1)
          (tail_found x.0.0 a.0.0 a.0.1 f a.2)
    ]

pick_whole : (ts r s t : List Tok) (x lo hi : List ℕ) → ts ≡ word x ∷ r → r ≡ number lo ∷ s → s ≡ number hi ∷ t → t ≡ [] → word (codes "pick") ∷ ts ≡ shape_toks (pick x lo hi)
pick_whole ts r s t x lo hi e1 e2 e3 e4 = rw (e1, e2, e3, e4) refl

pick_found : (ts : List Tok) (f : Shape) → pick_at ts ≡ Some f → word (codes "pick") ∷ ts ≡ shape_toks f
unfolding pick_at
pick_found ts f e =
    let x = bound (take_word ts) _ f e in
    let lo = bound (take_number x.0.1) _ f x.2 in
    let hi = bound (take_number lo.0.1) _ f lo.2 in
    let end = end_found (pick x.0.0 lo.0.0 hi.0.0) hi.0.1 f hi.2 in
    pick_whole ts x.0.1 lo.0.1 hi.0.1 x.0.0 lo.0.0 hi.0.0 (word_found ts x.0 x.1) (number_found x.0.1 lo.0 lo.1) (number_found lo.0.1 hi.0 hi.1) end.0 ∙ ap shape_toks end.1

leave_found : (ts : List Tok) (f : Shape) → at_end leave ts ≡ Some f → word (codes "return") ∷ ts ≡ shape_toks f
leave_found ts f e = let end = end_found leave ts f e in rw end.0 (ap shape_toks end.1)

-- one argument or more, and what follows the closing bracket
pub record ArgsFound (ts : List Tok) (p : List Word × List Tok) : Type 0 where
  pub first : Word
  pub more : List Word
  pub both : p.0 ≡ first ∷ more
  pub whole : ts ≡ word_tok first ∷ (more_toks more ++ p.1)

mapped : {A B : Type 0} (f : A → B) (o : Option A) (y : B) → option_map f o ≡ Some y → (x : A) × (o ≡ Some x) × (f x ≡ y)
mapped f None y e = absurd (none-some y e)
mapped f (Some x) y e = (x, refl, same_Some (f x) y e)

comma_whole : (a b : Word) (bs cs : List Word) (ts rest : List Tok) (p : List Word × List Tok) → cs ≡ b ∷ bs → ts ≡ word_tok b ∷ (more_toks bs ++ rest) → (a ∷ cs, rest) ≡ p
    → ArgsFound (word_tok a ∷ sign Comma ∷ ts) p
comma_whole a b bs cs ts rest p e1 e2 e3 =
    let P : List Word × List Tok → Type 0 = ArgsFound (word_tok a ∷ sign Comma ∷ ts) in
    subst P e3 record { first = a; more = b ∷ bs; both = ap (λ x. a ∷ x) e1; whole = ap (λ x. word_tok a ∷ sign Comma ∷ x) e2 }

close_whole : (a : Word) (ts : List Tok) (p : List Word × List Tok) → (a ∷ [], ts) ≡ p → ArgsFound (word_tok a ∷ sign Close ∷ ts) p
close_whole a ts p e = let P : List Word × List Tok → Type 0 = ArgsFound (word_tok a ∷ sign Close ∷ ts) in subst P e record { first = a; more = []; both = refl; whole = refl }

some_step : (a : Word) (s : Sign) (ts : List Tok) (more : Option (List Word × List Tok)) → ((q : List Word × List Tok) → more ≡ Some q → ArgsFound ts q) → (p : List Word × List Tok)
    → arg_then a s ts more ≡ Some p → ArgsFound (word_tok a ∷ sign s ∷ ts) p
some_step a s ts more found p e =
    let P : Sign → Type 0 = λ x. ArgsFound (word_tok a ∷ sign x ∷ ts) p in
    elim (chosen (is_comma s) _ _ _ e) [
      | inl w ↦ let q = mapped (λ (r : List Word × List Tok). (a ∷ r.0, r.1)) more p w.1 in
          let f = found q.0 q.1 in
          subst P (sym (comma_found s w.0)) (comma_whole a f.first f.more q.0.0 ts q.0.1 p f.both f.whole q.2)
      | inr r ↦ elim (chosen (is_close s) _ _ _ r.1) [
        | inl w ↦ subst P (sym (close_found s w.0)) (close_whole a ts p (same_Some (a ∷ [], ts) p w.1))
        | inr w ↦ absurd (none-some p w.1)
      ]
    ]

some_found : (ts : List Tok) (p : List Word × List Tok) → some_args ts ≡ Some p → ArgsFound ts p
some_found (word w ∷ sign s ∷ ts) p e = some_step (name w) s ts (some_args ts) (some_found ts) p e
some_found (number d ∷ sign s ∷ ts) p e = some_step (numeral d) s ts (some_args ts) (some_found ts) p e
some_found ts p e = absurd (none-some p e)

args_whole : (ts : List Tok) (p : List Word × List Tok) → ArgsFound ts p → ts ≡ args_toks p.0 ++ p.1
args_whole ts p f = rw f.both f.whole

closed_found : (ts : List Tok) (o : Option (Sign × List Tok)) (rest : List Tok) → take_sign ts ≡ o → behind_close o ≡ Some rest → ts ≡ sign Close ∷ rest
closed_found ts None rest same e = absurd (none-some rest e)
closed_found ts (Some p) rest same e =
    elim (chosen (is_close p.0) _ _ _ e) [
      | inl w ↦ sign_found ts p same ∙ ap (λ x. sign x ∷ p.1) (close_found p.0 w.0) ∙ ap (λ x. sign Close ∷ x) (same_Some p.1 rest w.1)
      | inr w ↦ absurd (none-some rest w.1)
    ]

args_found : (ts : List Tok) (p : List Word × List Tok) → args_at ts ≡ Some p → ts ≡ args_toks p.0 ++ p.1
unfolding args_at
args_found ts p e = by_close (behind_close (take_sign ts)) refl e
  where
    by_close : (o : Option (List Tok)) → behind_close (take_sign ts) ≡ o → args_or ts o ≡ Some p → ts ≡ args_toks p.0 ++ p.1
    by_close None same h = args_whole ts p (some_found ts p h)
    by_close (Some rest) same h =
        let P : List Word × List Tok → Type 0 = λ q. ts ≡ args_toks q.0 ++ q.1 in
        subst P (same_Some ([], rest) p h) (closed_found ts (take_sign ts) rest refl same)

target_found : (l : List ℕ) (ts : List Tok) (d : List ℕ) → target_end l ts ≡ Some d → (ts ≡ []) × (l ≡ d)
target_found l [] d e = (refl, same_Some l d e)
target_found l (t ∷ ts) d e = absurd (none-some d e)

else_whole : (ts s : List Tok) (l d : List ℕ) → ts ≡ word (codes "else") ∷ number l ∷ s → s ≡ [] → l ≡ d → ts ≡ else_toks (Some d)
else_whole ts s l d e1 e2 e3 = rw (e1, e2, e3) refl

tail_of_else : (ts : List Tok) (d : List ℕ) → else_tail ts ≡ Some d → ts ≡ else_toks (Some d)
unfolding else_tail
tail_of_else ts d e =
    let l = bound (number_behind (codes "else") ts) _ d e in
    let end = target_found l.0.0 l.0.1 d l.2 in
    else_whole ts l.0.1 l.0.0 d (number_behind_found (codes "else") ts l.0 l.1) end.0 end.1

else_found : (ts : List Tok) (e : Option (List ℕ)) → else_at ts ≡ Some e → ts ≡ else_toks e
else_found [] e h = ap else_toks (same_Some None e h)
else_found (t ∷ ts) e h = let d = mapped (λ (x : List ℕ). Some x) (else_tail (t ∷ ts)) e h in tail_of_else (t ∷ ts) d.0 d.1 ∙ ap else_toks d.2

call_whole : (v : Option (List ℕ)) (k : List ℕ) (ts us : List Tok) (bs : List Word) (e : Option (List ℕ)) (s : Shape) → ts ≡ args_toks bs ++ us → us ≡ else_toks e → call v k bs e ≡ s
    → into_toks v ++ (word k ∷ sign Open ∷ ts) ≡ shape_toks s
call_whole v k ts us bs e s e1 e2 e3 = rw (e1, e2) (ap shape_toks e3)

call_found : (v : Option (List ℕ)) (k : List ℕ) (ts : List Tok) (s : Shape) → call_at v k ts ≡ Some s → into_toks v ++ (word k ∷ sign Open ∷ ts) ≡ shape_toks s
unfolding call_at
call_found v k ts s h =
    let p = bound (args_at ts) _ s h in
    let e = bound (else_at p.0.1) _ s p.2 in
    call_whole v k ts p.0.1 p.0.0 e.0 s (args_found ts p.0 p.1) (else_found p.0.1 e.0 e.1) (same_Some (call v k p.0.0 e.0) s e.2)

opened_found : (ts : List Tok) (o : Option (Sign × List Tok)) (rest : List Tok) → take_sign ts ≡ o → behind_open o ≡ Some rest → ts ≡ sign Open ∷ rest
opened_found ts None rest same e = absurd (none-some rest e)
opened_found ts (Some p) rest same e =
    elim (chosen (is_open p.0) _ _ _ e) [
      | inl w ↦ sign_found ts p same ∙ ap (λ x. sign x ∷ p.1) (open_found p.0 w.0) ∙ ap (λ x. sign Open ∷ x) (same_Some p.1 rest w.1)
      | inr w ↦ absurd (none-some rest w.1)
    ]

head_whole : (ts r inside : List Tok) (k : List ℕ) (p : List ℕ × List Tok) → ts ≡ word k ∷ r → r ≡ sign Open ∷ inside → (k, inside) ≡ p → ts ≡ word p.0 ∷ sign Open ∷ p.1
head_whole ts r inside k p e1 e2 e3 = let P : List ℕ × List Tok → Type 0 = λ q. ts ≡ word q.0 ∷ sign Open ∷ q.1 in subst P e3 (e1 ∙ ap (λ x. word k ∷ x) e2)

head_found : (ts : List Tok) (p : List ℕ × List Tok) → head_at ts ≡ Some p → ts ≡ word p.0 ∷ sign Open ∷ p.1
unfolding head_at
head_found ts p e =
    let k = bound (take_word ts) _ p e in
    let inside = bound (behind_open (take_sign k.0.1)) _ p k.2 in
    head_whole ts k.0.1 inside.0 k.0.0 p (word_found ts k.0 k.1) (opened_found k.0.1 (take_sign k.0.1) inside.0 refl inside.1) (same_Some (k.0.0, inside.0) p inside.2)

counted_found : (x : List ℕ) (ts : List Tok) (s : Shape) → counted_at x ts ≡ Some s → word x ∷ sign Assign ∷ ts ≡ shape_toks s
unfolding counted_at
counted_found x ts s e =
    let k = bound (head_at ts) _ s e in
    ap (λ r. word x ∷ sign Assign ∷ r) (head_found ts k.0 k.1) ∙ call_found (Some x) k.0.0 k.0.1 s k.2

keyword_found : (k : List ℕ) (ts : List Tok) (f : Shape) → keyword_at k ts ≡ Some f → word k ∷ ts ≡ shape_toks f
unfolding keyword_at
keyword_found k ts f e =
    let is : (w : List ℕ) → bytes_eq k w ≡ true → word w ∷ ts ≡ shape_toks f → word k ∷ ts ≡ shape_toks f = λ w same h. ap (λ x. word x ∷ ts) ((bytes_eq-Decides k w).0 same) ∙ h in
    elim (chosen (bytes_eq k (codes "set")) _ _ _ e) [
      | inl w ↦ is (codes "set") w.0 (set_found ts f w.1)
      | inr r ↦ elim (chosen (bytes_eq k (codes "if")) _ _ _ r.1) [
        | inl w ↦ is (codes "if") w.0 (branch_found ts f w.1)
        | inr q ↦ elim (chosen (bytes_eq k (codes "goto")) _ _ _ q.1) [
          | inl w ↦ is (codes "goto") w.0 (jump_found ts f w.1)
          | inr p ↦ elim (chosen (bytes_eq k (codes "pick")) _ _ _ p.1) [
            | inl w ↦ is (codes "pick") w.0 (pick_found ts f w.1)
            | inr o ↦ elim (chosen (bytes_eq k (codes "return")) _ _ _ o.1) [
              | inl w ↦ is (codes "return") w.0 (leave_found ts f w.1)
              | inr w ↦ absurd (none-some f w.1)
            ]
          ]
        ]
      ]
    ]

behind_found : (k : List ℕ) (ts : List Tok) (o : Option (Sign × List Tok)) (s : Shape) → take_sign ts ≡ o → shape_behind k ts o ≡ Some s → word k ∷ ts ≡ shape_toks s
behind_found k ts None s same e = keyword_found k ts s e
behind_found k ts (Some p) s same e =
    let there : (g : Sign) → p.0 ≡ g → word k ∷ sign g ∷ p.1 ≡ shape_toks s → word k ∷ ts ≡ shape_toks s = λ g is h. ap (λ x. word k ∷ x) (sign_found ts p same ∙ ap (λ y. sign y ∷ p.1) is) ∙ h in
    elim (chosen (is_open p.0) _ _ _ e) [
      | inl w ↦ there Open (open_found p.0 w.0) (call_found None k p.1 s w.1)
      | inr r ↦ elim (chosen (is_assign p.0) _ _ _ r.1) [
        | inl w ↦ there Assign (assign_found p.0 w.0) (counted_found k p.1 s w.1)
        | inr w ↦ keyword_found k ts s w.1
      ]
    ]

pub shape_found : (ts : List Tok) (s : Shape) → shape_at ts ≡ Some s → ts ≡ shape_toks s
unfolding shape_at
shape_found ts s e =
    let k = bound (take_word ts) _ s e in
    word_found ts k.0 k.1 ∙ behind_found k.0.0 k.0.1 (take_sign k.0.1) s refl k.2

-- The loop over arguments: what was found is in front of what is left.
use Rattle.std.proofs.Common.{◌≡◌, ℕ, ◌+◌, List, [], ◌∷◌, ◌++◌, drop, Bool, cond, true, false, Some, None, Option, option_map, refl, sym, ap, ◌∙◌, inl, inr, append_assoc}
use Rattle.std.proofs.lemmas.List.{map-append, drop-drop, drop-map}
use Rattle.std.proofs.lemmas.Option.{none-some, same_Some}
use Rattle.fr_instr.specs.Tokens.{Tok, word, number, sign}
use Rattle.fr_instr.specs.Shapes.{Word, name, numeral}
use Rattle.fr_instr.specs.ShapeReading.{take_sign, behind_close, is_comma, is_close, with_arg, arg_then, arg_before_comma, arg_before_close, some_args, args_at, args_or}
use Rattle.fr_instr.specs.declared.token.Sign.{Sign}
use Rattle.fr_instr.specs.declared.token.Token.{Token}
use Rattle.fr_instr.specs.declared.shape.Value.{Value}
use Rattle.fr_instr.specs.Views.{toks, tok, words, word_of}
use Rattle.fr_instr.proofs.TokenLaws.{chosen}

abbrev Args : Type 0
Args = List Word × List Tok

abbrev pub prepend : List Word → Option Args → Option Args
prepend found o = option_map (λ q. (found ++ q.0, q.1)) o

prepend_more : (found : List Word) (a : Word) (o : Option Args) → prepend found (with_arg a o) ≡ prepend (found ++ a ∷ []) o
prepend_more found a None = refl
prepend_more found a (Some q) = ap (λ x. Some (x, q.1)) (sym (append_assoc found (a ∷ []) q.0))

step_at : (b : Word) (s : Sign) (ts : List Tok) (a : Word) (rest : List Tok) → cond {A = Option (Word × List Tok)} (is_comma s) (Some (b, ts)) None ≡ Some (a, rest) → arg_then b s ts (some_args ts) ≡ with_arg a (some_args ts)
step_at b s ts a rest e =
    elim (chosen (is_comma s) _ _ _ e) [
      | inl w ↦ rw w.0 (ap (λ x. with_arg x (some_args ts)) (ap (λ (q : Word × List Tok). q.0) (same_Some (b, ts) (a, rest) w.1)))
      | inr w ↦ absurd (none-some (a, rest) w.1)
    ]

step : (ts : List Tok) (a : Word) (rest : List Tok) → arg_before_comma ts ≡ Some (a, rest) → some_args ts ≡ with_arg a (some_args (drop 2 ts))
unfolding arg_before_comma
step (word w ∷ sign s ∷ ts) a rest e = step_at (name w) s ts a rest e
step (number d ∷ sign s ∷ ts) a rest e = step_at (numeral d) s ts a rest e
step ts a rest e = absurd (none-some (a, rest) e)

abbrev lone : Word × List Tok → Args
lone p = (p.0 ∷ [], p.1)

stop_at : (b : Word) (s : Sign) (ts : List Tok) → cond {A = Option (Word × List Tok)} (is_comma s) (Some (b, ts)) None ≡ None → arg_then b s ts (some_args ts) ≡ option_map lone (cond {A = Option (Word × List Tok)} (is_close s) (Some (b, ts)) None)
stop_at b s ts e =
    elim (chosen (is_comma s) _ _ _ e) [
      | inl w ↦ absurd (none-some (b, ts) (sym w.1))
      | inr w ↦ rw w.0 (by_close (is_close s))
    ]
  where
    by_close : (c : Bool) → cond {A = Option Args} c (Some (b ∷ [], ts)) None ≡ option_map lone (cond {A = Option (Word × List Tok)} c (Some (b, ts)) None)
    by_close true = refl
    by_close false = refl

stop : (ts : List Tok) → arg_before_comma ts ≡ None → some_args ts ≡ option_map lone (arg_before_close ts)
unfolding arg_before_comma arg_before_close
stop (word w ∷ sign s ∷ ts) e = stop_at (name w) s ts e
stop (number d ∷ sign s ∷ ts) e = stop_at (numeral d) s ts e
stop ts e = refl

map_drop_two : (i : ℕ) (ts : List Token) → toks (drop (i + 2) ts) ≡ drop 2 (toks (drop i ts))
map_drop_two i ts = ap toks (sym (drop-drop 2 i ts)) ∙ sym (drop-map tok 2 (drop i ts))

-- one more argument before a comma
pub loop_turn : (ts : List Token) (i : ℕ) (vs ws : List Value) (v : Value) (rest : List Tok) → ws ≡ vs ++ v ∷ [] → some_args (toks ts) ≡ prepend (words vs) (some_args (toks (drop i ts)))
    → Some (word_of v, rest) ≡ arg_before_comma (toks (drop i ts)) → some_args (toks ts) ≡ prepend (words ws) (some_args (toks (drop (i + 2) ts)))
loop_turn ts i vs ws v rest grown so_far here =
    so_far ∙ ap (prepend (words vs)) (step (toks (drop i ts)) (word_of v) rest (sym here)) ∙ prepend_more (words vs) (word_of v) (some_args (drop 2 (toks (drop i ts))))
    ∙ ap (λ x. prepend x (some_args (drop 2 (toks (drop i ts))))) (sym (ap words grown ∙ map-append word_of vs (v ∷ []))) ∙ ap (λ x. prepend (words ws) (some_args x)) (sym (map_drop_two i ts))

-- the last argument, before the closing bracket
pub args_end : (ts last : List Tok) (found : List Word) (r : Option (Word × List Tok)) → None ≡ behind_close (take_sign ts) → some_args ts ≡ prepend found (some_args last) → arg_before_comma last ≡ None
    → r ≡ arg_before_close last → prepend found (option_map lone r) ≡ args_at ts
unfolding args_at
args_end ts last found r opens before none close =
    sym (ap (args_or ts) (sym opens) ∙ before ∙ ap (prepend found) (stop last none ∙ ap (option_map lone) (sym close)))

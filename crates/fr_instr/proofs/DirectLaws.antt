-- Calls that are read directly: the tokens that were found, one behind another, are those that the text spells.
use Rattle.std.proofs.Common.{◌≡◌, ℕ, List, ◌∷◌, ◌++◌, Option, Some, None, codes, refl, sym, ap, ◌∙◌, subst, true, Bor}
use Rattle.std.specs.Option.{IfSome}
use Rattle.fr_program.specs.declared.instr.Call.{Call}
use Rattle.fr_program.specs.declared.instr.Instr.TheVariants as line
use Rattle.fr_instr.specs.declared.call.Slot.{Slot}
use Rattle.fr_instr.specs.declared.call.Tail.{Tail}
use Rattle.fr_instr.specs.declared.given.Given.{Given}
use Rattle.fr_instr.specs.declared.given.TheConstants.{NOTHING}
use Rattle.fr_instr.specs.declared.token.Sign.TheVariants.{Open, Comma}
use Rattle.fr_instr.specs.Tokens.{Tok, word, number, sign, is_space, IsBlank, Begins, Spells}
use Rattle.fr_instr.specs.Shapes.{Word, word_tok, args_toks, more_toks, else_toks, call as calls, shape_toks}
use Rattle.fr_instr.specs.Reading.{front, after}
use Rattle.fr_instr.specs.Names.{NamesOf}
use Rattle.fr_instr.specs.Numbers.{IsTarget}
use Rattle.fr_instr.specs.Calls.{Row, row_named, may_fail, made}
use Rattle.fr_instr.specs.Lines.{Gives, AreGiven, IsElse, IsLine}
use Rattle.fr_instr.proofs.RunLemmas.{front_after, front_passes}

-- what follows this byte, behind spaces
abbrev pub Behind : List ℕ → ℕ → List ℕ → Type 0
Behind text byte rest = (gap : List ℕ) × IsBlank gap × (text ≡ gap ++ byte ∷ rest)

pub behind_at : (text all : List ℕ) (first byte : ℕ) (rest : List ℕ) → all ≡ after is_space text → all ≡ first ∷ rest → first ≡ byte → Behind text byte rest
behind_at text all first byte rest skipped split same =
    (front is_space text, front_passes is_space text, sym (front_after is_space text) ∙ ap (λ x. front is_space text ++ x) (sym skipped ∙ split ∙ ap (λ x. x ∷ rest) same))

pub opens : (text rest : List ℕ) → Behind text 40 rest → Begins text (sign Open) rest
opens text rest (gap, blank, e) = (gap, blank, e, tt, refl)

pub commas : (text rest : List ℕ) → Behind text 44 rest → Begins text (sign Comma) rest
commas text rest (gap, blank, e) = (gap, blank, e, tt, refl)

-- the text spells these tokens and then those of the rest
abbrev pub Fronts : List ℕ → List Tok → List ℕ → Type 0
Fronts text ts rest = (us : List Tok) → Spells rest us → Spells text (ts ++ us)

pub one_more : (text rest more last : List ℕ) (w : Word) (ws : List Word) → Behind text 44 rest → Begins rest (word_tok w) more → Fronts more (more_toks ws) last → Fronts text (more_toks (w ∷ ws)) last
one_more text rest more last w ws b c h us k = (rest, commas text rest b, (more, c, h us k))

pub first_arg : (text more last : List ℕ) (w : Word) (ws : List Word) → Begins text (word_tok w) more → Fronts more (more_toks ws) last → Fronts text (args_toks (w ∷ ws)) last
first_arg text more last w ws c h us k = (more, c, h us k)

-- what the arguments give, one place after another
pub some_given : (N : NamesOf) (places : List Slot) (p : Slot) (ps : List Slot) (w : Word) (ws : List Word) (g k h : Given) → places ≡ p ∷ ps → Gives N p w g k → AreGiven N ps ws k h → AreGiven N places (w ∷ ws) g h
some_given N places p ps w ws g k h e gives more = subst (λ qs. AreGiven N qs (w ∷ ws) g h) (sym e) (k, gives, more)

-- an argument and those behind it
pub more_read : (N : NamesOf) (places : List Slot) (p : Slot) (ps : List Slot) (text rest more : List ℕ) (g k : Given) (r : Option (Given × Bor (List ℕ))) → places ≡ p ∷ ps → Behind text 44 rest
    → (w : Word) × Begins rest (word_tok w) more × Gives N p w g k → IfSome r (λ q. (ws : List Word) × AreGiven N ps ws k q.0 × Fronts more (more_toks ws) q.1.now)
    → IfSome r (λ q. (ws : List Word) × AreGiven N places ws g q.0 × Fronts text (more_toks ws) q.1.now)
more_read N places p ps text rest more g k None e b one rest_given = tt
more_read N places p ps text rest more g k (Some q) e b (w, begun, gives) (ws, given, fronts) =
    (w ∷ ws, some_given N places p ps w ws g k q.0 e gives given, one_more text rest more q.1.now w ws b begun fronts)

pub first_read : (N : NamesOf) (places : List Slot) (p : Slot) (ps : List Slot) (text more : List ℕ) (g k : Given) (r : Option (Given × Bor (List ℕ))) → places ≡ p ∷ ps
    → (w : Word) × Begins text (word_tok w) more × Gives N p w g k → IfSome r (λ q. (ws : List Word) × AreGiven N ps ws k q.0 × Fronts more (more_toks ws) q.1.now)
    → IfSome r (λ q. (ws : List Word) × AreGiven N places ws g q.0 × Fronts text (args_toks ws) q.1.now)
first_read N places p ps text more g k None e one rest_given = tt
first_read N places p ps text more g k (Some q) e (w, begun, gives) (ws, given, fronts) =
    (w ∷ ws, some_given N places p ps w ws g k q.0 e gives given, first_arg text more q.1.now w ws begun fronts)

-- the `else` behind a call
pub else_read : (tail : Tail) (text behind last w d : List ℕ) (k : ℕ) → Begins text (word w) behind → Begins behind (number d) last → IsBlank last → w ≡ codes "else" → may_fail tail ≡ true → IsTarget d k
    → (e : Option (List ℕ)) × IsElse tail e (Some k) × Spells text (else_toks e)
else_read tail text behind last w d k named target blank same fails is =
    (Some d, (fails, is), (behind, subst (λ x. Begins text (word x) behind) same named, (last, target, blank)))

pub call_spelled : (text behind inside last : List ℕ) (k : List ℕ) (ws : List Word) (e : Option (List ℕ)) → Begins text (word k) behind → Behind behind 40 inside → Fronts inside (args_toks ws) last → Spells last (else_toks e)
    → Spells text (shape_toks (calls None k ws e))
call_spelled text behind inside last k ws e named opened args rest = (behind, named, (inside, opens behind inside opened, args (else_toks e) rest))

pub line_read : (N : NamesOf) (text behind inside last k : List ℕ) (ws : List Word) (e : Option (List ℕ)) (row : Row) (given : Given) (target : Option ℕ) (c : Call) → Begins text (word k) behind → Behind behind 40 inside
    → Fronts inside (args_toks ws) last → Spells last (else_toks e) → row_named k ≡ Some row → IsElse row.tail e target → AreGiven N row.places ws NOTHING given → c ≡ made row.verb (record given { or_else = target; into = None }) → IsLine N text (line.Call c)
line_read N text behind inside last k ws e row given target c begun opened args rest named tail gives is = (
  calls None k ws e,
  call_spelled text behind inside last k ws e begun opened args rest,
  (c, record { row = row; given = given; target = target; variable = None; named = named; behind = tail; before = tt; args = gives; call = is }, refl),
)

-- What is written for a line is the text in the code's pieces, and is read again as the line: each piece means
-- its part, and each token is one.
use Rattle.std.proofs.Common.{◌≡◌, ◌<◌, ◌++◌, ℕ, List, [], ◌∷◌, Bor, map, length, get_or, Option, Some, None, option_map, refl, sym, ap, ◌∙◌, append_assoc, append-nil, take, ◌+◌}
use Rattle.fr_instr.specs.Tokens.{word, sign}
use Rattle.fr_instr.specs.Shapes.{Word, name, numeral, word_tok, more_toks, args_toks, else_toks, into_toks}
use Rattle.fr_instr.specs.Names.{NamesOf}
use Rattle.fr_instr.specs.Calls.{row_of, verb_of, given_of}
use Rattle.fr_instr.specs.Views.{texts}
use Rattle.fr_instr.specs.Written.{written}
use Rattle.fr_instr.specs.WrittenLine.{natural, joined, word_text, place_word, more_text, args_text, into_name, into_text, else_text, set_text, if_text, line_text, written_line}
use Rattle.std.proofs.lemmas.List.{take_more, map-append}
use Rattle.fr_instr.specs.declared.call.Slot.{Slot}
use Rattle.fr_instr.specs.declared.token.Sign.TheVariants.{Open}
use Rattle.fr_program.specs.declared.ids.VarId.{VarId}
use Rattle.fr_program.specs.declared.instr.Operand.{Operand}
use Rattle.fr_program.specs.declared.instr.Operand.TheVariants.{Number, Variable}
use Rattle.fr_program.specs.declared.instr.Operator.{Operator}
use Rattle.fr_program.specs.declared.instr.Operator.TheVariants as operator
use Rattle.fr_program.specs.declared.instr.Comparison.{Comparison}
use Rattle.fr_program.specs.declared.instr.Comparison.TheVariants as comparison
use Rattle.fr_program.specs.declared.instr.Instr.{Instr}
use Rattle.fr_program.specs.declared.instr.Instr.TheVariants as line

set_written : (N : NamesOf) (t : VarId) (a : Operand) (op : Operator) (b : Operand) → set_text N t a op b ≡ written_line N (line.Set t a op b)
set_written N t (Number z) operator.Plus (Number z') = refl
set_written N t (Number z) operator.Plus (Variable x') = refl
set_written N t (Number z) operator.Minus (Number z') = refl
set_written N t (Number z) operator.Minus (Variable x') = refl
set_written N t (Number z) operator.Times (Number z') = refl
set_written N t (Number z) operator.Times (Variable x') = refl
set_written N t (Variable x) operator.Plus (Number z') = refl
set_written N t (Variable x) operator.Plus (Variable x') = refl
set_written N t (Variable x) operator.Minus (Number z') = refl
set_written N t (Variable x) operator.Minus (Variable x') = refl
set_written N t (Variable x) operator.Times (Number z') = refl
set_written N t (Variable x) operator.Times (Variable x') = refl

if_written : (N : NamesOf) (a : Operand) (c : Comparison) (b : Operand) (k : ℕ) → if_text N a c b k ≡ written_line N (line.If a c b k)
if_written N (Number z) comparison.Less (Number z') k = refl
if_written N (Number z) comparison.Less (Variable x') k = refl
if_written N (Number z) comparison.AtMost (Number z') k = refl
if_written N (Number z) comparison.AtMost (Variable x') k = refl
if_written N (Number z) comparison.Greater (Number z') k = refl
if_written N (Number z) comparison.Greater (Variable x') k = refl
if_written N (Number z) comparison.AtLeast (Number z') k = refl
if_written N (Number z) comparison.AtLeast (Variable x') k = refl
if_written N (Number z) comparison.Equal (Number z') k = refl
if_written N (Number z) comparison.Equal (Variable x') k = refl
if_written N (Number z) comparison.NotEqual (Number z') k = refl
if_written N (Number z) comparison.NotEqual (Variable x') k = refl
if_written N (Variable x) comparison.Less (Number z') k = refl
if_written N (Variable x) comparison.Less (Variable x') k = refl
if_written N (Variable x) comparison.AtMost (Number z') k = refl
if_written N (Variable x) comparison.AtMost (Variable x') k = refl
if_written N (Variable x) comparison.Greater (Number z') k = refl
if_written N (Variable x) comparison.Greater (Variable x') k = refl
if_written N (Variable x) comparison.AtLeast (Number z') k = refl
if_written N (Variable x) comparison.AtLeast (Variable x') k = refl
if_written N (Variable x) comparison.Equal (Number z') k = refl
if_written N (Variable x) comparison.Equal (Variable x') k = refl
if_written N (Variable x) comparison.NotEqual (Number z') k = refl
if_written N (Variable x) comparison.NotEqual (Variable x') k = refl

-- ---- the loop over arguments

more_push : (ws : List Word) (w : Word) → more_text (ws ++ w ∷ []) ≡ more_text ws ++ (44 ∷ 32 ∷ word_text w)
more_push [] w = ap (λ x. 44 ∷ 32 ∷ x) (append-nil (word_text w))
more_push (v ∷ ws) w = ap (λ x. 44 ∷ 32 ∷ (word_text v ++ x)) (more_push ws w) ∙ ap (λ x. 44 ∷ 32 ∷ x) (sym (append_assoc (word_text v) (more_text ws) (44 ∷ 32 ∷ word_text w)))

pub more_turn : (f : Slot → Word) (bs : List Slot) (i : ℕ) (d : Slot) (old now new : List ℕ) → i < length bs → now ≡ old ++ more_text (map f (take i bs))
    → new ≡ now ++ (44 ∷ 32 ∷ word_text (f (get_or bs i d))) → new ≡ old ++ more_text (map f (take (i + 1) bs))
more_turn f bs i d old now new within so_far one =
    let w = word_text (f (get_or bs i d)) in
    let m = more_text (map f (take i bs)) in
    let grown = ap (λ l. more_text (map f l)) (take_more bs i d within) ∙ ap more_text (map-append f (take i bs) (get_or bs i d ∷ [])) ∙ more_push (map f (take i bs)) (f (get_or bs i d)) in
    one ∙ ap (λ x. x ++ (44 ∷ 32 ∷ w)) so_far ∙ append_assoc old m (44 ∷ 32 ∷ w) ∙ ap (λ x. old ++ x) (sym grown)

joined_more : (ts : List (List ℕ)) (t : List ℕ) → joined (ts ++ t ∷ []) ≡ joined ts ++ t
joined_more [] t = refl
joined_more (a ∷ []) t = refl
joined_more (a ∷ b ∷ ts) t = ap (λ x. a ++ x) (joined_more (b ∷ ts) t) ∙ sym (append_assoc a (joined (b ∷ ts)) t)

pub joined_turn : (ps : List (Bor (List ℕ))) (i : ℕ) (d : Bor (List ℕ)) (old now new : List ℕ) → i < length ps → now ≡ old ++ joined (texts (take i ps)) → new ≡ now ++ (get_or ps i d).now
    → new ≡ old ++ joined (texts (take (i + 1) ps))
joined_turn ps i d old now new within so_far one =
    let p = get_or ps i d in
    let grown = ap (λ l. joined (texts l)) (take_more ps i d within) ∙ ap joined (map-append (λ (t : Bor (List ℕ)). t.now) (take i ps) (p ∷ [])) ∙ joined_more (texts (take i ps)) p.now in
    one ∙ ap (λ x. x ++ p.now) so_far ∙ append_assoc old (joined (texts (take i ps))) p.now ∙ ap (λ x. old ++ x) (sym grown)

-- an argument, what follows it, and the end of the call
more_written : (w : Word) (bs : List Word) (e : Option (List ℕ)) → written (word_tok w ∷ (more_toks bs ++ else_toks e)) ≡ word_text w ++ (more_text bs ++ (41 ∷ else_text e))
more_written (name w) [] None = refl
more_written (name w) [] (Some l) = refl
more_written (numeral w) [] None = refl
more_written (numeral w) [] (Some l) = refl
more_written (name w) (name v ∷ bs) e = ap (λ x. w ++ (44 ∷ 32 ∷ x)) (more_written (name v) bs e ∙ sym (append_assoc v (more_text bs) (41 ∷ else_text e)))
more_written (name w) (numeral v ∷ bs) e = ap (λ x. w ++ (44 ∷ 32 ∷ x)) (more_written (numeral v) bs e ∙ sym (append_assoc v (more_text bs) (41 ∷ else_text e)))
more_written (numeral w) (name v ∷ bs) e = ap (λ x. w ++ (44 ∷ 32 ∷ x)) (more_written (name v) bs e ∙ sym (append_assoc v (more_text bs) (41 ∷ else_text e)))
more_written (numeral w) (numeral v ∷ bs) e = ap (λ x. w ++ (44 ∷ 32 ∷ x)) (more_written (numeral v) bs e ∙ sym (append_assoc v (more_text bs) (41 ∷ else_text e)))

args_written : (bs : List Word) (e : Option (List ℕ)) → written (sign Open ∷ (args_toks bs ++ else_toks e)) ≡ 40 ∷ (args_text bs ++ (41 ∷ else_text e))
args_written [] None = refl
args_written [] (Some l) = refl
args_written (name w ∷ bs) e = ap (λ x. 40 ∷ x) (more_written (name w) bs e ∙ sym (append_assoc w (more_text bs) (41 ∷ else_text e)))
args_written (numeral w ∷ bs) e = ap (λ x. 40 ∷ x) (more_written (numeral w) bs e ∙ sym (append_assoc w (more_text bs) (41 ∷ else_text e)))

into_written : (v : Option (List ℕ)) (k : List ℕ) (bs : List Word) (e : Option (List ℕ)) → into_text v ++ (k ++ (40 ∷ (args_text bs ++ (41 ∷ else_text e)))) ≡ written (into_toks v ++ (word k ∷ sign Open ∷ (args_toks bs ++ else_toks e)))
into_written None k bs e = ap (λ x. k ++ x) (sym (args_written bs e))
into_written (Some x) k bs e = append_assoc x (32 ∷ 61 ∷ 32 ∷ []) (k ++ (40 ∷ (args_text bs ++ (41 ∷ else_text e)))) ∙ ap (λ y. x ++ (32 ∷ 61 ∷ 32 ∷ (k ++ y))) (sym (args_written bs e))

-- the pieces are the tokens of the line, as they are written
pub pieces_written : (N : NamesOf) (l : Instr) → line_text N l ≡ written_line N l
pieces_written N (line.Set t a op b) = set_written N t a op b
pieces_written N (line.If a c b k) = if_written N a c b k
pieces_written N (line.Goto k) = refl
pieces_written N (line.Pick x lo hi) = refl
pieces_written N (line.Call c) =
    let r = row_of (verb_of c) in
    let g = given_of c in
    into_written (into_name N g.into) r.name (map (place_word N g) r.places) (option_map natural g.or_else)
pieces_written N line.Return = refl

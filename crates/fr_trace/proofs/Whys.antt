-- Why a line isn't read.
use Rattle.std.proofs.Common.{◌≡◌, ◌∙◌, ◌<◌, ℕ, zero, suc, List, [], ◌∷◌, Some, None, false, length, get_or, ap, subst, sym, arith}
use Rattle.std.proofs.lemmas.Bool.{false≢true}
use Rattle.std.proofs.lemmas.Option.{same_Some}
use Rattle.fr_program.specs.declared.ids.ActorId.{ActorId}
use Rattle.fr_instr.specs.Calls.{Row, row_named}
use Rattle.fr_instr.specs.Names.{NamesOf}
use Rattle.fr_instr.proofs.TokenLaws.{spells_once}
use Rattle.fr_instr.specs.Tokens.{Tok, Spells}
use Rattle.fr_instr.specs.Views.{tok, toks}
use Rattle.fr_instr.specs.declared.call.Verb.{Verb}
use Rattle.fr_instr.specs.declared.token.Token.{Token}
use Rattle.fr_trace.specs.Reads.{AreCalls, IsLineWhy, IsNoTrace, IsSpellWhy, IsStop, IsStrangeTokens, IsWhy, LineReads, SaidReads, Sofar, TokensRead, call_named, is_strange, IsEnter, IsEnterOf, is_strange_call, is_strange_place}
use Rattle.fr_trace.specs.Said.{Said, begins_comment, said_by}
use Rattle.fr_trace.specs.declared.no_trace.NoTrace.{NoTrace}
use Rattle.fr_trace.specs.declared.no_trace.NoTrace.TheVariants as no_trace
use Rattle.fr_trace.specs.declared.stop.Stop.{Stop}
use Rattle.fr_trace.specs.declared.stop.Stop.TheVariants.{Memory, NotListed, Wrong}
use Rattle.fr_events.specs.declared.trace.Event.{Event}

-- a call with a row that isn't strange, and at which no event begins it
pub enter-why : (N : NamesOf) (n : ℕ) (s : Sofar) (a : ActorId) (k : List ℕ) (ts : List Tok) (row : Row) → Some row ≡ row_named k
    → false ≡ is_strange_place N row.places ts → ((e : Event) → IsEnterOf N n s a row.verb row.places ts e → ⊥)
    → (is_strange_call N (row_named k) ts ≡ false) × (((e : Event) × IsEnter N n s a k ts e) → ⊥)
enter-why N n s a k ts row named fine none = (
  ap (λ o. is_strange_call N o ts) (sym named) ∙ sym fine,
  λ h. none h.0 (subst (λ (r : Row). IsEnterOf N n s a r.verb r.places ts h.0) (same_Some h.1.0 row (sym h.1.1 ∙ sym named)) h.1.2),
)

-- a token that names no call is among none that name calls
pub none-called : (ts : List Token) (i : ℕ) (d : Token) → i < length ts → None ≡ call_named (tok (get_or ts i d)) → ((vs : List Verb) × AreCalls (toks ts) vs) → ⊥
none-called [] i d l n h = absurd (omega (arith, l))
none-called (u ∷ ts) zero d l n ([], h) = absurd cc
none-called (u ∷ ts) zero d l n (v ∷ vs, h) =
    let first : call_named (tok u) ≡ Some v = cc in
    let never : None ≡ Some v = n ∙ first in absurd cc
none-called (u ∷ ts) (suc i) d l n ([], h) = absurd cc
none-called (u ∷ ts) (suc i) d l n (v ∷ vs, h) =
    let rest : AreCalls (toks ts) vs = cc in
    none-called ts i d (omega (arith, l)) n (vs, rest)

-- why tokens aren't read, from why what they say isn't
pub tokens-why : (N : NamesOf) (n : ℕ) (s : Sofar) (ts : List Tok) (said : Said) (stop : Stop) → Some said ≡ said_by ts
    → IsWhy stop (is_strange N said) ((t : Sofar) × SaidReads N n said s t) → IsStop stop (IsStrangeTokens N ts) ((t : Sofar) × TokensRead N n ts s t)
tokens-why N n s ts said Memory e w = tt
tokens-why N n s ts said (NotListed u) e w = (said, sym e, w)
tokens-why N n s ts said (Wrong f k) e w = (
  λ h. false≢true (sym w.0 ∙ ap (is_strange N) (same_Some said h.0 (e ∙ h.1)) ∙ h.2),
  λ h. w.1 (h.0, subst (λ x. SaidReads N n x s h.0) (same_Some h.1.0 said (sym h.1.1 ∙ sym e)) h.1.2),
)

-- a line that is no comment is read by its tokens
pub by-tokens : (N : NamesOf) (n : ℕ) (line : List ℕ) (s t : Sofar) → begins_comment line ≡ false → LineReads N n line s t
    → (ts : List Tok) × Spells line ts × TokensRead N n ts s t
by-tokens N n line s t e h = rw e at h

-- why a line isn't read, from why its tokens aren't
pub line-why : (N : NamesOf) (n : ℕ) (s : Sofar) (line : List ℕ) (ts : List Tok) (stop : Stop) (why : NoTrace) → begins_comment line ≡ false → Spells line ts
    → IsNoTrace stop n line why → IsStop stop (IsStrangeTokens N ts) ((t : Sofar) × TokensRead N n ts s t)
    → IsLineWhy N n line ((t : Sofar) × LineReads N n line s t) why
line-why N n s line ts Memory no_trace.Memory e sp made w = tt
line-why N n s line ts (NotListed u) (no_trace.NotListed l) e sp made w = (made.0, made.1, record { tokens = ts; no_comment = e; spells = sp; strange = w })
line-why N n s line ts (Wrong f k) (no_trace.Faulty m column fault) e sp made w = (
  made,
  λ h. w.0 (subst (IsStrangeTokens N) (spells_once line h.tokens ts h.spells sp) h.strange),
  λ h. let p = by-tokens N n line s h.0 e h.1 in w.1 (h.0, subst (λ x. TokensRead N n x s h.0) (spells_once line p.0 ts p.1 sp) p.2),
)
line-why N n s line ts stop why e sp made w = absurd made

-- a line that has no tokens
pub spell-why : (N : NamesOf) (n : ℕ) (s : Sofar) (line : List ℕ) (why : NoTrace) → begins_comment line ≡ false → IsSpellWhy n line why
    → IsLineWhy N n line ((t : Sofar) × LineReads N n line s t) why
spell-why N n s line no_trace.Memory e w = tt
spell-why N n s line (no_trace.Faulty m column fault) e w = (
  w.0,
  λ h. w.1 h.tokens h.spells,
  λ h. let p = by-tokens N n line s h.0 e h.1 in w.1 p.0 p.1,
)
spell-why N n s line why e w = absurd w

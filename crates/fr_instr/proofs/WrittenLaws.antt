-- What is written for tokens spells them.
use Rattle.std.proofs.Common.{◌≡◌, ℕ, List, [], ◌∷◌, ◌++◌, Bool, true, false, cond, ◌||◌, refl, sym, ap, subst, append-nil}
use Rattle.std.specs.List.{AllByRecursion}
use Rattle.std.proofs.lemmas.Bool.{false≢true}
use Rattle.fr_instr.specs.Tokens.{Tok, sign, tok_bytes, IsTok, Spells, goes_on, first}
use Rattle.fr_instr.specs.Written.{is_open, leans, gap, written}
use Rattle.fr_instr.specs.declared.token.Sign.TheVariants.{Open, Close, Comma}

-- bytes with which no token goes on
stops_space : (t : Tok) → goes_on t 32 ≡ false
stops_space (sign Open) = refl
stops_space t = refl

stops_open : (t : Tok) → goes_on t 40 ≡ false
stops_open (sign Open) = refl
stops_open t = refl

stops_close : (t : Tok) → goes_on t 41 ≡ false
stops_close (sign Open) = refl
stops_close t = refl

stops_comma : (t : Tok) → goes_on t 44 ≡ false
stops_comma (sign Open) = refl
stops_comma t = refl

stops_end : (t : Tok) → goes_on t 0 ≡ false
stops_end (sign Open) = refl
stops_end t = refl

stops_open_sign : (t : Tok) (b : ℕ) → is_open t ≡ true → goes_on t b ≡ false
stops_open_sign (sign Open) b h = refl
stops_open_sign t b h = absurd (false≢true h)

-- a token that leans begins with a byte that ends every token
leaning : (t u : Tok) (rest : List ℕ) → leans u ≡ true → goes_on t (first (tok_bytes u ++ rest)) ≡ false
leaning t (sign Open) rest h = stops_open t
leaning t (sign Close) rest h = stops_close t
leaning t (sign Comma) rest h = stops_comma t
leaning t u rest h = absurd (false≢true h)

-- a space before a text changes nothing
spaced : (ts : List Tok) (text : List ℕ) → Spells text ts → Spells (32 ∷ text) ts
spaced [] text h = h
spaced (t ∷ ts) text (rest, (g, blank, whole, good, ends), more) = (rest, (32 ∷ g, blank, ap (λ x. 32 ∷ x) whole, good, ends), more)

begins_written : (us : List Tok) (u : Tok) → (rest : List ℕ) × (written (u ∷ us) ≡ tok_bytes u ++ rest)
begins_written [] u = ([], sym (append-nil (tok_bytes u)))
begins_written (v ∷ us) u = (gap u v ++ written (v ∷ us), refl)

after_gap : (t u : Tok) (us : List Tok) (b c : Bool) → is_open t ≡ b → leans u ≡ c → goes_on t (first (cond (b || c) [] (32 ∷ []) ++ written (u ∷ us))) ≡ false
after_gap t u us true c e f = stops_open_sign t (first (written (u ∷ us))) e
after_gap t u us false false e f = stops_space t
after_gap t u us false true e f =
    let w = begins_written us u in
    let P : List ℕ → Type 0 = λ x. goes_on t (first x) ≡ false in
    subst P (sym w.1) (leaning t u w.0 f)

with_gap : (b : Bool) (ts : List Tok) (text : List ℕ) → Spells text ts → Spells (cond b [] (32 ∷ []) ++ text) ts
with_gap true ts text h = h
with_gap false ts text h = spaced ts text h

pub spells_written : (ts : List Tok) → AllByRecursion IsTok ts → Spells (written ts) ts
spells_written [] h = refl
spells_written (t ∷ []) h = ([], ([], refl, sym (append-nil (tok_bytes t)), h.0, stops_end t), refl)
spells_written (t ∷ u ∷ ts) h =
    (gap t u ++ written (u ∷ ts), ([], refl, refl, h.0, after_gap t u ts (is_open t) (leans u) refl refl), with_gap (is_open t || leans u) (u ∷ ts) (written (u ∷ ts)) (spells_written (u ∷ ts) h.1))

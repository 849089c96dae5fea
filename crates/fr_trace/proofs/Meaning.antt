-- Bytes have one meaning at most: each line adds one thing at most to what is read before it.
use Rattle.std.proofs.Common.{◌≡◌, ◌+◌, ◌∙◌, ◌==◌, ℕ, ℤ, List, [], ◌∷◌, ◌++◌, Bool, true, false, cond, codes, Option, Some, None, length, map, inl, inr, arith, ap, ne_eqb, refl, subst, sym}
use Rattle.std.proofs.lemmas.Option.{same_Some}
use Rattle.std.specs.Str.Lines.{lines}
use Rattle.fr_program.specs.declared.ids.ActorId.{ActorId}
use Rattle.fr_program.specs.declared.ids.VarId.{VarId}
use Rattle.fr_instr.proofs.TokenLaws.{spells_once}
use Rattle.fr_instr.specs.Calls.{Row}
use Rattle.fr_instr.specs.Names.{NamesOf, place_of}
use Rattle.fr_instr.specs.Tokens.{Tok, Spells}
use Rattle.fr_instr.specs.declared.call.Slot.{Slot}
use Rattle.fr_instr.specs.declared.call.Verb.{Verb}
use Rattle.fr_instr.proofs.LineLaws.{one_integer}
use Rattle.fr_trace.specs.Args.{unseen_parts}
use Rattle.fr_trace.specs.Means.{IsPresent, TraceMeans, TraceOf, trace_of}
use Rattle.fr_trace.specs.Reads.{ActorDoes, ComesTo, Does, HasReturned, HasSet, Hides, IsEnter, IsEnterOf, LineReads, OwnDoes, ReadsAt, ReadsLines, Returned, SaidReads, Sofar, TokensRead, after, is_open, start}
use Rattle.fr_trace.specs.Said.{Said, nothing, unseen, lost, enter, returns, sets, begins, ends, begins_comment}
use Rattle.fr_trace.specs.declared.effect.Addition.{Addition}
use Rattle.fr_trace.specs.declared.effect.Addition.TheVariants.{Add}
use Rattle.fr_trace.specs.declared.no_trace.NoTrace.{NoTrace}
use Rattle.fr_trace.specs.declared.no_trace.NoTrace.TheVariants.{Memory, TooLong, NotText, Faulty, NotListed}
use Rattle.fr_events.specs.declared.recorded.Recorded.{Recorded}
use Rattle.fr_events.specs.declared.trace.Event.{Event}
use Rattle.fr_events.specs.declared.trace.Happening.TheVariants.{Enter, Set}
use Rattle.fr_trace.proofs.Once.{all-once, number-once}
use Rattle.fr_trace.proofs.Strange.{strange-line}

enter-of-once : (N : NamesOf) (n : ℕ) (s : Sofar) (a : ActorId) (v : Verb) (ps : List Slot) (ts : List Tok) (e f : Event)
    → IsEnterOf N n s a v ps ts e → IsEnterOf N n s a v ps ts f → e ≡ f
enter-of-once N n s a v ps ts e f h k =
    h.is ∙ ap (λ x. record { actor = a; line = n; what = Enter x }) (all-once N ps ts (unseen_parts v) h.seen k.seen h.args k.args) ∙ sym k.is

enter-once : (N : NamesOf) (n : ℕ) (s : Sofar) (a : ActorId) (w : List ℕ) (ts : List Tok) (e f : Event) → IsEnter N n s a w ts e → IsEnter N n s a w ts f
    → e ≡ f
enter-once N n s a w ts e f h k =
    let row = same_Some h.0 k.0 (sym h.1 ∙ k.1) in
    enter-of-once N n s a k.0.verb k.0.places ts e f (subst (λ (r : Row). IsEnterOf N n s a r.verb r.places ts e) row h.2) k.2

returned-by : (n : ℕ) (s : Sofar) (a : ActorId) (r v : Recorded ℤ) (b : Bool) (e f : Addition) → Returned n s a r v b e → Returned n s a r v b f → e ≡ f
returned-by n s a r v true e f h k = h ∙ sym k
returned-by n s a r v false e f h k = h.1 ∙ sym k.1

returned-once : (n : ℕ) (s : Sofar) (a : ActorId) (t u : Tok) (e f : Addition) → HasReturned n s a t u e → HasReturned n s a t u f → e ≡ f
returned-once n s a t u e f (r, v, p, q, h) (x, y, i, j, k) =
    let one = number-once t r x p i in
    let two = number-once u v y q j in
    returned-by n s a x y (is_open s a) e f
    (subst (λ z. Returned n s a x z (is_open s a) e) two (subst (λ z. Returned n s a z v (is_open s a) e) one h)) k

variable-id : (x y : VarId) → x.0 ≡ y.0 → x ≡ y
variable-id x y e = ap (λ n. record { 0 = n }) e

set-once : (N : NamesOf) (n : ℕ) (a : ActorId) (x d : List ℕ) (e f : Addition) → HasSet N n a x d e → HasSet N n a x d f → e ≡ f
set-once N n a x d e f (v, z, p, q, h) (w, y, i, j, k) =
    let one = variable-id v w (same_Some v.0 w.0 (sym p ∙ i)) in
    let two = one_integer d z y q j in
    h ∙ ap (λ m. Add (record { actor = a; line = n; what = Set m z })) one ∙ ap (λ m. Add (record { actor = a; line = n; what = Set w m })) two ∙ sym k

own-once : (N : NamesOf) (n : ℕ) (s : Sofar) (a : ActorId) (said : Said) (e f : Addition) → OwnDoes N n s a said e → OwnDoes N n s a said f → e ≡ f
own-once N n s a (enter w c ts) e f h k = h.2 ∙ ap Add (enter-once N n s a c ts h.0 k.0 h.1 k.1) ∙ sym k.2
own-once N n s a (returns w t u) e f h k = returned-once n s a t u e f h k
own-once N n s a (sets w x d) e f h k = set-once N n a x d e f h k
own-once N n s a (begins w) e f h k = h ∙ sym k
own-once N n s a (ends w) e f h k = h ∙ sym k
own-once N n s a said e f h k = absurd h

actor-once : (N : NamesOf) (n : ℕ) (s : Sofar) (o : Option ℕ) (said : Said) (e f : Addition) → ActorDoes N n s o said e → ActorDoes N n s o said f → e ≡ f
actor-once N n s (Some a) said e f h k = own-once N n s (record { 0 = a }) said e f h k
actor-once N n s None said e f h k = h.1 ∙ sym k.1

does-once : (N : NamesOf) (n : ℕ) (s : Sofar) (said : Said) (e f : Addition) → Does N n s said e → Does N n s said f → e ≡ f
does-once N n s nothing e f h k = h ∙ sym k
does-once N n s (unseen ts) e f h k = absurd h
does-once N n s lost e f h k = h ∙ sym k
does-once N n s (enter w c ts) e f h k = actor-once N n s (place_of N.actors w) (enter w c ts) e f h k
does-once N n s (returns w t u) e f h k = actor-once N n s (place_of N.actors w) (returns w t u) e f h k
does-once N n s (sets w x d) e f h k = actor-once N n s (place_of N.actors w) (sets w x d) e f h k
does-once N n s (begins w) e f h k = actor-once N n s (place_of N.actors w) (begins w) e f h k
does-once N n s (ends w) e f h k = actor-once N n s (place_of N.actors w) (ends w) e f h k

same-calls : (vs us : List Verb) → map Some vs ≡ map Some us → vs ≡ us
same-calls [] [] e = refl
same-calls [] (u ∷ us) e = absurd cc
same-calls (v ∷ vs) [] e = absurd cc
same-calls (v ∷ vs) (u ∷ us) e =
    let one : v ≡ u = cc in
    let rest : map Some vs ≡ map Some us = cc in
    ap (λ x. x ∷ vs) one ∙ ap (λ xs. u ∷ xs) (same-calls vs us rest)

hides-once : (s : Sofar) (ts : List Tok) (t u : Sofar) → Hides s ts t → Hides s ts u → t ≡ u
hides-once s ts t u (a, b, vs, p, h) (c, d, us, q, k) =
    h ∙ ap (λ xs. record s { unseen = s.unseen ++ xs }) (same-calls vs us (sym p ∙ q)) ∙ sym k

by-effect : (N : NamesOf) (n : ℕ) (s : Sofar) (said : Said) (t u : Sofar) → ((e : Addition) × Does N n s said e × (t ≡ after e s))
    → ((e : Addition) × Does N n s said e × (u ≡ after e s)) → t ≡ u
by-effect N n s said t u h k = h.2 ∙ ap (λ e. after e s) (does-once N n s said h.0 k.0 h.1 k.1) ∙ sym k.2

said-once : (N : NamesOf) (n : ℕ) (said : Said) (s t u : Sofar) → SaidReads N n said s t → SaidReads N n said s u → t ≡ u
said-once N n (unseen ts) s t u h k = hides-once s ts t u h k
said-once N n nothing s t u h k = by-effect N n s nothing t u h k
said-once N n lost s t u h k = by-effect N n s lost t u h k
said-once N n (enter w c ts) s t u h k = by-effect N n s (enter w c ts) t u h k
said-once N n (returns w x y) s t u h k = by-effect N n s (returns w x y) t u h k
said-once N n (sets w x d) s t u h k = by-effect N n s (sets w x d) t u h k
said-once N n (begins w) s t u h k = by-effect N n s (begins w) t u h k
said-once N n (ends w) s t u h k = by-effect N n s (ends w) t u h k

tokens-once : (N : NamesOf) (n : ℕ) (ts : List Tok) (s t u : Sofar) → TokensRead N n ts s t → TokensRead N n ts s u → t ≡ u
tokens-once N n ts s t u h k =
    said-once N n k.0 s t u (subst (λ x. SaidReads N n x s t) (same_Some h.0 k.0 (sym h.1 ∙ k.1)) h.2) k.2

line-by : (N : NamesOf) (n : ℕ) (line : List ℕ) (s t u : Sofar) (b : Bool)
    → cond b (t ≡ s) ((ts : List Tok) × Spells line ts × TokensRead N n ts s t) → cond b (u ≡ s) ((ts : List Tok) × Spells line ts × TokensRead N n ts s u) → t ≡ u
line-by N n line s t u true h k = h ∙ sym k
line-by N n line s t u false h k = tokens-once N n k.0 s t u (subst (λ x. TokensRead N n x s t) (spells_once line h.0 k.0 h.1 k.1) h.2) k.2

at-by : (N : NamesOf) (i : ℕ) (line : List ℕ) (s t u : Sofar) (b : Bool)
    → cond b ((line ≡ codes "fr_trace 1") × (t ≡ s)) (LineReads N (i + 1) line s t)
    → cond b ((line ≡ codes "fr_trace 1") × (u ≡ s)) (LineReads N (i + 1) line s u) → t ≡ u
at-by N i line s t u true h k = h.1 ∙ sym k.1
at-by N i line s t u false h k = line-by N (i + 1) line s t u (begins_comment line) h k

lines-once : (N : NamesOf) (i : ℕ) (ls : List (List ℕ)) (s t u : Sofar) → ReadsLines N i ls s t → ReadsLines N i ls s u → t ≡ u
lines-once N i [] s t u h k = h ∙ sym k
lines-once N i (l ∷ ls) s t u (v, r, m) (w, q, p) =
    let one = at-by N i l s v w (i == 0) r q in
    lines-once N (i + 1) ls w t u (subst (λ x. ReadsLines N (i + 1) ls x t) one m) p

pub means-once : (N : NamesOf) (anywhere : Bool) (bytes : List ℕ) (one other : TraceOf) → TraceMeans N anywhere bytes one → TraceMeans N anywhere bytes other → one ≡ other
means-once N anywhere bytes one other h k =
    h.is ∙ ap trace_of (lines-once N 0 (lines bytes) (start anywhere (length N.actors)) h.last k.last h.reads k.reads) ∙ sym k.is

-- lines that are read are read up to each of them
lines-split : (N : NamesOf) (i : ℕ) (before : List (List ℕ)) (line : List ℕ) (rest : List (List ℕ)) (s w : Sofar) → ReadsLines N i (before ++ line ∷ rest) s w
    → (u : Sofar) × (v : Sofar) × ReadsLines N i before s u × ReadsAt N (i + length before) line u v
lines-split N i [] line rest s w (v, r, m) = (s, v, refl, subst (λ j. ReadsAt N j line s v) (omega arith) r)
lines-split N i (b ∷ before) line rest s w (v, r, m) =
    let more = lines-split N (i + 1) before line rest v w m in
    (more.0, more.1, (v, r, more.2), subst (λ j. ReadsAt N j line more.0 more.1) (omega arith) more.3)

-- a line up to which the text can be read isn't read itself, as the text is a trace
line-read : (N : NamesOf) (anywhere : Bool) (bytes line : List ℕ) (k : ℕ) (trace : TraceOf) (c : ComesTo N anywhere (lines bytes) k line) → TraceMeans N anywhere bytes trace
    → (t : Sofar) × ReadsAt N (length c.before) line c.so_far t
line-read N anywhere bytes line k trace c means =
    let parts = lines-split N 0 c.before line c.after_it (start anywhere (length N.actors)) means.last
    (subst (λ ls. ReadsLines N 0 ls (start anywhere (length N.actors)) means.last) c.parts means.reads) in
    let same = lines-once N 0 c.before (start anywhere (length N.actors)) parts.0 c.so_far parts.2 c.reads in
    (parts.1, subst (λ x. ReadsAt N (length c.before) line x parts.1) same (subst (λ j. ReadsAt N j line parts.0 parts.1) (omega arith) parts.3))

-- a line after the first one is read as such
later-read : (N : NamesOf) (i : ℕ) (line : List ℕ) (s t : Sofar) → (i ≡ 0 → ⊥) → ReadsAt N i line s t → LineReads N (i + 1) line s t
later-read N i line s t later reads =
    subst (λ b. cond b ((line ≡ codes "fr_trace 1") × (t ≡ s)) (LineReads N (i + 1) line s t)) (ne_eqb i 0 later) reads

pub no-meaning : (N : NamesOf) (anywhere : Bool) (bytes : List ℕ) (why : NoTrace) (trace : TraceOf) → (why ≡ Memory → ⊥) → IsPresent N anywhere bytes why → TraceMeans N anywhere bytes trace → ⊥
no-meaning N anywhere bytes Memory trace known present means = known refl
no-meaning N anywhere bytes TooLong trace known present means = omega (arith, present, means.text.0)
no-meaning N anywhere bytes NotText trace known present means = present.1 means.text.1
no-meaning N anywhere bytes (Faulty k column fault) trace known (text, inl none) means = omega (arith, none.0, means.some)
no-meaning N anywhere bytes (Faulty k column fault) trace known (text, inr (line, (c, stuck), fine)) means = stuck (line-read N anywhere bytes line k trace c means)
no-meaning N anywhere bytes (NotListed unlisted) trace known (text, (c, later, strange)) means =
    let read = line-read N anywhere bytes unlisted.text.now unlisted.line trace c means in
    strange-line N (length c.before + 1) unlisted.text.now c.so_far read.0 strange
    (later-read N (length c.before) unlisted.text.now c.so_far read.0 (λ e. omega (arith, e, later, c.numbered)) read.1)

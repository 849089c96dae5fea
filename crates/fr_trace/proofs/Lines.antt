-- The lines of a trace, one after another: what is read with one line more, and where the reading stops.
use Rattle.std.proofs.Common.{◌≡◌, ℕ, ◌+◌, ◌<◌, ◌≤◌, Bool, true, false, List, [], ◌∷◌, ◌++◌, ◌==◌, codes, cond, drop, eqb, get_or, inr, length, ne_eqb, take, suc, arith, refl, sym, subst, ap, ◌∙◌, ⊎_elim}
use Rattle.std.specs.List.{enumerate_from}
use Rattle.std.specs.Str.Lines.{lines}
use Rattle.std.proofs.Math.Seq.{split_at}
use Rattle.std.proofs.lemmas.Bool.{cases_lt, eqb-false, eqb-true}
use Rattle.std.proofs.lemmas.List.{length-take, take_all, take_more}
use Rattle.std.proofs.lemmas.List.FromFn.{get_or-enumerate_from, length-enumerate_from}
use Rattle.fr_instr.specs.Names.{NamesOf}
use Rattle.fr_trace.specs.Means.{IsPresent, IsText}
use Rattle.fr_trace.specs.Reads.{ComesTo, IsLineWhy, IsPlaceWhy, IsStrangeLine, IsTextWhy, LineReads, ReadsAt, ReadsLines, Sofar, start}
use Rattle.fr_trace.specs.declared.no_trace.NoTrace.{NoTrace}
use Rattle.fr_trace.specs.declared.no_trace.NoTrace.TheVariants.{Memory, TooLong, NotText, Faulty, NotListed}

-- this is the line at index n
pub record IsNext (text : List (List ℕ)) (n index : ℕ) (line : List ℕ) : Type 0 where
  pub within : n < length text
  pub numbered : index ≡ n
  pub read : line ≡ get_or text n line

pub next-line : (text : List (List ℕ)) (n index : ℕ) (line : List ℕ) → n < length (enumerate_from 0 text)
    → ◌≡◌ {A = ℕ × List ℕ} (index, line) (get_or (enumerate_from 0 text) n (index, line)) → IsNext text n index line
next-line text n index line l e =
    let inside : n < length text = omega (arith, length-enumerate_from 0 text) in
    let same : ◌≡◌ {A = ℕ × List ℕ} (index, line) (0 + n, get_or text n line) = e ∙ get_or-enumerate_from 0 text n (index, line) inside in
    record { within = inside; numbered = omega (arith, ap (λ p. p.0) same); read = ap (λ p. p.1) same }

pub all-lines : (text : List (List ℕ)) (n : ℕ) → n ≡ length (enumerate_from 0 text) → take n text ≡ text
all-lines text n e = take_all n text (omega (arith, length-enumerate_from 0 text))

-- the first lines, as many as these, are read, and no more are ignored than there are
pub record IsKept (N : NamesOf) (anywhere : Bool) (text : List (List ℕ)) (n : ℕ) (s : Sofar) : Type 0 where
  pub reads : ReadsLines N 0 (take n text) (start anywhere (length N.actors)) s
  pub counted : s.ignored ≤ n

reads-one-more : (N : NamesOf) (i : ℕ) (before : List (List ℕ)) (line : List ℕ) (s t u : Sofar) → ReadsLines N i before s t
    → ReadsAt N (i + length before) line t u → ReadsLines N i (before ++ line ∷ []) s u
reads-one-more N i [] line s t u h k = (u, subst (λ j. ReadsAt N j line s u) (omega arith) (subst (λ x. ReadsAt N (i + 0) line x u) h k), refl)
reads-one-more N i (b ∷ before) line s t u (v, r, more) k =
    (v, r, reads-one-more N (i + 1) before line v t u more (subst (λ j. ReadsAt N j line t u) (omega arith) k))

module _ (N : NamesOf) (anywhere : Bool) (text : List (List ℕ)) (n index : ℕ) (line : List ℕ) (next : IsNext text n index line) where
  pub kept-more : (m : ℕ) (s t : Sofar) → m ≡ n + 1 → IsKept N anywhere text n s → ReadsAt N index line s t → t.ignored ≤ index + 1 → IsKept N anywhere text m t
  kept-more m s t e kept r bound =
      let place : index ≡ 0 + length (take n text) = omega (arith, next.numbered, next.within, length-take n text) in
      let more = reads-one-more N 0 (take n text) line (start anywhere (length N.actors)) s t kept.reads (subst (λ j. ReadsAt N j line s t) place r) in
      let grown : take n text ++ line ∷ [] ≡ take m text =
      ap (λ l. take n text ++ l ∷ []) next.read ∙ sym (take_more text n line next.within) ∙ ap (λ k. take k text) (sym e) in
      record {
        reads = subst (λ ls. ReadsLines N 0 ls (start anywhere (length N.actors)) t) grown more;
        counted = omega (arith, e, bound, next.numbered);
      }

  abbrev comes : (k : ℕ) (s : Sofar) → k ≡ index + 1 → IsKept N anywhere text n s → ComesTo N anywhere text k line
  comes k s e kept = record {
    before = take n text;
    after_it = drop (suc n) text;
    so_far = s;
    parts = split_at text n line next.within ∙ ap (λ l. take n text ++ l ∷ drop (suc n) text) (sym next.read);
    numbered = omega (arith, e, next.numbered, next.within, length-take n text);
    reads = kept.reads;
  }

  stuck : (s : Sofar) → (((t : Sofar) × ReadsAt N index line s t) → ⊥) → ((t : Sofar) × ReadsAt N (length (take n text)) line s t) → ⊥
  stuck s none h = none (h.0, subst (λ j. ReadsAt N j line s h.0) (omega (arith, next.numbered, next.within, length-take n text)) h.1)

  pub text-why : (s : Sofar) (b : Bool) (why : NoTrace) → eqb index 0 ≡ b → IsKept N anywhere text n s
      → IsPlaceWhy N b (index + 1) line ((t : Sofar) × ReadsAt N index line s t) why → IsTextWhy N anywhere text why
  text-why s true (Faulty k column fault) e kept w =
      (line, (comes k s w.0 kept, stuck s w.1), λ l. absurd (omega (arith, l, w.0, eqb-true index 0 e)))
  text-why s true Memory e kept w = absurd w
  text-why s true TooLong e kept w = absurd w
  text-why s true NotText e kept w = absurd w
  text-why s true (NotListed unlisted) e kept w = absurd w
  text-why s false Memory e kept w = tt
  text-why s false TooLong e kept w = absurd w
  text-why s false NotText e kept w = absurd w
  text-why s false (Faulty k column fault) e kept w = (line, (comes k s w.0 kept, stuck s w.2), λ l. w.1)
  text-why s false (NotListed unlisted) e kept w =
      let later : 1 < unlisted.line = ⊎_elim (λ l. omega (arith, w.0, l)) (λ l. absurd (eqb-false index 0 e (omega (arith, l)))) (cases_lt 0 index) in
      (subst (λ l. ComesTo N anywhere text unlisted.line l) (sym w.1) (comes unlisted.line s w.0 kept), later, subst (IsStrangeLine N) (sym w.1) w.2)

-- a line that isn't the first isn't read, from why it isn't
pub place-why : (N : NamesOf) (i : ℕ) (line : List ℕ) (s : Sofar) (why : NoTrace) → (i ≡ 0 → ⊥)
    → IsLineWhy N (i + 1) line ((t : Sofar) × LineReads N (i + 1) line s t) why
    → IsPlaceWhy N (i == 0) (i + 1) line ((t : Sofar) × ReadsAt N i line s t) why
place-why N i line s why ne w =
    let P : Bool → Type 0 = λ b. IsPlaceWhy N b (i + 1) line ((t : Sofar) × cond b ((line ≡ codes "fr_trace 1") × (t ≡ s)) (LineReads N (i + 1) line s t)) why in
    subst P (sym (ne_eqb i 0 ne)) w

-- a text that isn't read is no trace
pub present : (N : NamesOf) (anywhere : Bool) (bytes : List ℕ) (why : NoTrace) → IsText bytes → IsTextWhy N anywhere (lines bytes) why → IsPresent N anywhere bytes why
present N anywhere bytes Memory t w = tt
present N anywhere bytes TooLong t w = absurd w
present N anywhere bytes NotText t w = absurd w
present N anywhere bytes (Faulty k column fault) t w = (t, inr w)
present N anywhere bytes (NotListed unlisted) t w = (t, w)

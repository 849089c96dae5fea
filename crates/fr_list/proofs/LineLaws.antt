-- The lines of a list, one after another: one line more names what the line names, and a line without words names nothing.
use Rattle.std.proofs.Common.{◌≡◌, ℕ, ◌+◌, ◌<◌, List, [], ◌∷◌, ◌++◌, All, drop, get_or, length, map, take, suc, arith, refl, sym, subst, ap, ◌∙◌}
use Rattle.std.specs.List.{enumerate_from}
use Rattle.std.specs.Str.Lines.{lines}
use Rattle.std.proofs.Math.Seq.{get_or-append_seam, split_at}
use Rattle.std.proofs.lemmas.Grind.{flat_map-append}
use Rattle.std.proofs.lemmas.List.{append-nil, length-append, length-take, map-append, take_all, take_more}
use Rattle.std.proofs.lemmas.List.Elements.{All-cons, All-head, All-more, All-nil, All-tail}
use Rattle.std.proofs.lemmas.List.FromFn.{get_or-enumerate_from, length-enumerate_from}
use Rattle.fr_list.specs.declared.listed.ListFault.{ListFault}
use Rattle.fr_list.specs.declared.listed.ListFault.TheVariants.{Memory, TooLong, NotText, Words, Empty}
use Rattle.fr_list.specs.declared.listed.Listed.{Listed}
use Rattle.fr_list.specs.Means.{AreFaultless, Entry, IsFaulty, IsFirstFaulty, IsPresent, ListMeans, entries_in, entries_of, shown, told}

-- this is the line at index n
pub record IsNext (text : List (List ℕ)) (n index : ℕ) (line : List ℕ) : Type 0 where
  pub within : n < length text
  pub numbered : index ≡ n
  pub read : line ≡ get_or text n line

pub next-line : (text : List (List ℕ)) (n index : ℕ) (line : List ℕ) → n < length (enumerate_from 0 text)
    → ◌≡◌ {A = ℕ × List ℕ} (index, line) (get_or (enumerate_from 0 text) n (index, line)) → IsNext text n index line
next-line text n index line l e =
    let inside : n < length text = omega (arith, length-enumerate_from 0 text) in
    let same : ◌≡◌ {A = ℕ × List ℕ} (index, line) (0 + n, get_or text n line) = e ∙ get_or-enumerate_from 0 text n (index, line) inside in
    record { within = inside; numbered = omega (arith, ap (λ p. p.0) same); read = ap (λ p. p.1) same }

pub all-lines : (text : List (List ℕ)) (n : ℕ) → n ≡ length (enumerate_from 0 text) → take n text ≡ text
all-lines text n e = take_all n text (omega (arith, length-enumerate_from 0 text))

-- the lines and entries so far, with one line more that isn't faulty
pub record IsKept (text : List (List ℕ)) (n : ℕ) (items : List Listed) : Type 0 where
  pub few : AreFaultless (take n text)
  pub named : map shown items ≡ entries_in (take n text)

module _ (text : List (List ℕ)) (n index : ℕ) (line : List ℕ) (next : IsNext text n index line) where
  entries_in-more : entries_in (take (n + 1) text) ≡ entries_in (take n text) ++ entries_of (told line)
  entries_in-more =
      ap entries_in (take_more text n line next.within) ∙ flat_map-append (λ l. entries_of (told l)) (take n text) (get_or text n line ∷ [])
      ∙ ap (λ es. entries_in (take n text) ++ es) (append-nil (entries_of (told (get_or text n line))))
      ∙ ap (λ l. entries_in (take n text) ++ entries_of (told l)) (sym next.read)

  kept-next : (items found : List Listed) → IsKept text n items → (IsFaulty line → ⊥) → entries_of (told line) ≡ map shown found
      → IsKept text (n + 1) (items ++ found)
  kept-next items found so_far fine names = record {
    few = All-more (λ l. IsFaulty l → ⊥) text n line next.within so_far.few (subst (λ l. IsFaulty l → ⊥) next.read fine);
    named =
        map-append shown items found ∙ ap (λ es. es ++ map shown found) so_far.named ∙ ap (λ es. entries_in (take n text) ++ es) (sym names)
        ∙ sym entries_in-more;
  }

  pub kept-more : (m : ℕ) (items found after : List Listed) → m ≡ n + 1 → after ≡ items ++ found → IsKept text n items → (IsFaulty line → ⊥)
      → entries_of (told line) ≡ map shown found → IsKept text m after
  kept-more m items found after counted grown so_far fine names =
      subst (λ k. IsKept text k after) (sym counted) (subst (λ es. IsKept text (n + 1) es) (sym grown) (kept-next items found so_far fine names))

  pub first-faulty : AreFaultless (take n text) → IsFaulty line → IsFirstFaulty text (index + 1)
  first-faulty few many = record {
    before = take n text;
    line = line;
    after = drop (suc n) text;
    parts = split_at text n line next.within ∙ ap (λ l. take n text ++ l ∷ drop (suc n) text) (sym next.read);
    numbered = omega (arith, next.numbered, next.within, length-take n text);
    first = few;
    faulty = many;
  }

no_entry : (ws : List (List ℕ)) (more : List Entry) → entries_of ws ++ more ≡ [] → (ws ≡ []) × (more ≡ [])
no_entry [] more e = (refl, e)
no_entry (a ∷ []) more e = cc
no_entry (a ∷ c ∷ ws) more e = cc

-- lines that name nothing have no word
pub told-nothing : (text : List (List ℕ)) → entries_in text ≡ [] → All (λ line. told line ≡ []) text
told-nothing [] e = All-nil (λ line. told line ≡ [])
told-nothing (line ∷ text) e =
    let none = no_entry (told line) (entries_in text) e in
    All-cons (λ l. told l ≡ []) line text none.0 (told-nothing text none.1)

-- lines without a word name nothing
pub names-nothing : (text : List (List ℕ)) → All (λ line. told line ≡ []) text → entries_in text ≡ []
names-nothing [] h = refl
names-nothing (line ∷ text) h =
    ap (λ ws. entries_of ws ++ entries_in text) (All-head (λ l. told l ≡ []) line text h) ∙ names-nothing text (All-tail (λ l. told l ≡ []) line text h)

-- lines of which one is faulty aren't faultless
faulty-line : (text : List (List ℕ)) (number : ℕ) → IsFirstFaulty text number → AreFaultless text → ⊥
faulty-line text number first fine =
    subst AreFaultless first.parts fine (length first.before) first.line (omega (arith, length-append first.before (first.line ∷ first.after)))
    (subst IsFaulty (sym (get_or-append_seam first.before first.line first.after first.line)) first.faulty)

-- bytes in which a fault is present mean nothing
pub nothing-present : (bytes : List ℕ) (fault : ListFault) (entries : List Entry) → (fault ≡ Memory → ⊥) → IsPresent bytes fault → ListMeans bytes entries → ⊥
nothing-present bytes Memory entries other present means = other refl
nothing-present bytes TooLong entries other present means = omega (arith, means.text.0)
nothing-present bytes NotText entries other present means = present.1 means.text.1
nothing-present bytes (Words number) entries other present means = faulty-line (lines bytes) number present.1 means.faultless
nothing-present bytes Empty entries other present means =
    omega (arith, means.some, ap length (means.named ∙ names-nothing (lines bytes) present.1))

-- What the parts of a note say, beside what an object has to say for them.
use Rattle.std.proofs.Common.{◌≡◌, ◌⊎◌, ◌||◌, ℕ, ℤ, ◌<◌, ◌≤ℤ◌, List, [], ◌∷◌, Bool, true, false, IsTrue, Option, Some, is_some, option_map, length, get_or, cond, find, map, nat_eq, T, All, Any, unwrap_or, refl, sym, ap, ◌∙◌, subst, arith, inl, inr}
use Rattle.fr_cert.proofs.Terms.{range_with_len, cases_lt, get_or_default, All-map, Kind, Mutex, Recursive, Range, Program, variable_at, kind_of, Claim, HeldTimes, NoteParts}
use Rattle.fr_cert.proofs.Terms.{NoteFault, Memory, Count, Lives, Span, Alternative, CanClaim, said, claim_said, count_in, names, is_live_said, range_in, range_by, range_said, IsCount, HasFault}
use Rattle.fr_cert.proofs.Terms.{NoteTextFits, IsInside, count_for, has, claim_at, range_at, note_said, named_of, count_of, number_of, text_of}
use Rattle.std.specs.Int.Signed.{le_z, le_z_yes}
use Rattle.fr_program.specs.declared.ids.ObjId.{ObjId}
use Rattle.fr_program.specs.declared.ids.VarId.{VarId}
use Rattle.fr_program.proofs.ListLemmas.{All-unmapped}

abbrev Given : Type 0
Given = VarId × Range

-- the range of a variable is the same, whether it is looked for among ranges or among their ends
range_step : (b : Bool) (r : Given) (rest : Option Given) (found : Option (ℕ × (ℤ × ℤ))) (declared : ℤ × ℤ) → range_by (option_map (λ x. x.1) rest) declared ≡ unwrap_or (option_map (λ x. x.1) found) declared
    → range_by (option_map (λ x. x.1) (cond b (Some r) rest)) declared ≡ unwrap_or (option_map (λ x. x.1) (cond b (Some (named_of r)) found)) declared
range_step true r rest found declared e = refl
range_step false r rest found declared e = e

range_along : (ranges : List Given) (x : ℕ) (declared : ℤ × ℤ) → range_by (range_in ranges x) declared ≡ unwrap_or (option_map (λ r. r.1) (find (λ r. nat_eq r.0 x) (map named_of ranges))) declared
range_along [] x declared = refl
range_along (r ∷ ranges) x declared = range_step (nat_eq r.0.0 x) r _ _ declared (range_along ranges x declared)

range_same : (P : Program) (ranges : List Given) (x : ℕ) → range_said P ranges x ≡ range_at P (map named_of ranges) x
range_same P ranges x = range_along ranges x ((variable_at P x).lo, (variable_at P x).hi)

map_same : {A B : Type 0} (f g : A → B) → ((x : A) → f x ≡ g x) → (xs : List A) → map f xs ≡ map g xs
map_same f g e [] = refl
map_same f g e (x ∷ xs) = rw (e x, map_same f g e xs) refl

-- how often an object is held is the same, whether it is looked for among objects or among their numbers
count_step : (b : Bool) (h : ObjId × ℕ) (rest : Option (ObjId × ℕ)) (found : Option (ℕ × ℕ)) → option_map (λ x. x.1) rest ≡ option_map (λ x. x.1) found
    → option_map (λ x. x.1) (cond b (Some h) rest) ≡ option_map (λ x. x.1) (cond b (Some (count_of h)) found)
count_step true h rest found e = refl
count_step false h rest found e = e

count_same : (held : List (ObjId × ℕ)) (o : ℕ) → count_in held o ≡ count_for (map count_of held) o
count_same [] o = refl
count_same (h ∷ held) o = count_step (nat_eq h.0.0 o) h _ _ (count_same held o)

has_same : (objects : List ObjId) (o : ℕ) → names objects o ≡ has (map number_of objects) o
has_same [] o = refl
has_same (x ∷ objects) o = ap (λ b. nat_eq x.0 o || b) (has_same objects o)

claim_same : (parts : NoteParts) (o : ℕ) → claim_said parts o ≡ claim_at (text_of parts) o
claim_same parts o = rw (count_same parts.held.items o, has_same parts.dead.items o, has_same parts.live.items o) refl

live_same : (parts : NoteParts) (o : ℕ) → is_live_said parts o ≡ (has (text_of parts).live o || is_some (count_for (text_of parts).held o))
live_same parts o = rw (count_same parts.held.items o, has_same parts.live.items o) refl

abbrev made : ℕ → ℕ → List Claim → List (ℤ × ℤ) → Alternative
made c s k r = record { critical = c; suspended = s; claims = k; ranges = r }

pub said_same : (P : Program) (parts : NoteParts) → said P parts ≡ note_said P (text_of parts)
said_same P parts =
    let whole : made parts.crit parts.susp (map (claim_said parts) (range_with_len 0 (length P.objects))) (map (range_said P parts.range.items) (range_with_len 0 (length P.variables)))
    ≡ made parts.crit parts.susp (map (claim_at (text_of parts)) (range_with_len 0 (length P.objects))) (map (range_at P (map named_of parts.range.items)) (range_with_len 0 (length P.variables))) =
    rw (
      map_same (claim_said parts) (claim_at (text_of parts)) (claim_same parts) (range_with_len 0 (length P.objects)),
      map_same (range_said P parts.range.items) (range_at P (map named_of parts.range.items)) (range_same P parts.range.items) (range_with_len 0 (length P.variables)),
    ) refl in
    whole

-- a range is inside the declared one, or it isn't
nat_or : (a b : ℕ) → (a < b) ⊎ (a < b → ⊥)
nat_or a b = elim (cases_lt a b) [ inl less ↦ inl less | inr most ↦ inr (λ less. absurd (omega (arith, less, most))) ]

bool_or : (b : Bool) → T b ⊎ (T b → ⊥)
bool_or true = inl tt
bool_or false = inr (λ h. h)

int_or : (a b : ℤ) → (a ≤ℤ b) ⊎ (a ≤ℤ b → ⊥)
int_or a b = elim (bool_or (le_z a b)) [ inl yes_ ↦ inl (le_z_yes yes_) | inr no_ ↦ inr (λ h. no_ h.le) ]

inside_or : (P : Program) (x : ℕ × (ℤ × ℤ)) → IsInside P x ⊎ (IsInside P x → ⊥)
inside_or P x =
    elim (nat_or x.0 (length P.variables)) [
      | inl a ↦ elim (int_or (variable_at P x.0).lo x.1.0) [
        | inl b ↦ elim (int_or x.1.1 (variable_at P x.0).hi) [ inl d ↦ inl (a, b, d) | inr d ↦ inr (λ h. d h.2) ]
        | inr b ↦ inr (λ h. b h.1)
      ]
      | inr a ↦ inr (λ h. a h.0)
    ]

-- what is outside nowhere is inside everywhere
all_or_any : {A : Type 0} (Q : A → Type 0) → ((x : A) → Q x ⊎ (Q x → ⊥)) → (xs : List A) → (Any (λ x. Q x → ⊥) xs → ⊥) → All Q xs
all_or_any Q decide xs none k d within =
    elim (decide (get_or xs k d)) [
      | inl q ↦ q
      | inr not ↦ absurd (none (k, get_or xs k d, within, get_or_default xs k (get_or xs k d) d within, not))
    ]

claim_or : (kind : Kind) (n : ℕ) → CanClaim kind (HeldTimes n) ⊎ (CanClaim kind (HeldTimes n) → ⊥)
claim_or Mutex n =
    elim (cases_lt n 1) [
      | inl less ↦ inr (λ h. absurd (omega (arith, less, h)))
      | inr from ↦ elim (cases_lt 1 n) [ inl more ↦ inr (λ h. absurd (omega (arith, more, h))) | inr to ↦ inl (omega (arith, from, to)) ]
    ]
claim_or Recursive n =
    elim (cases_lt n 1) [
      | inl less ↦ inr (λ h. absurd (omega (arith, less, h.0)))
      | inr from ↦ elim (cases_lt 255 n) [ inl more ↦ inr (λ h. absurd (omega (arith, more, h.1))) | inr to ↦ inl (from, to) ]
    ]
claim_or kind n = inr (λ h. h)

count_or : (P : Program) (h : ObjId × ℕ) → IsCount P h ⊎ (IsCount P h → ⊥)
count_or P h =
    elim (nat_or h.0.0 (length P.objects)) [
      | inl a ↦ elim (claim_or (kind_of P h.0.0) h.1) [ inl b ↦ inl (a, b) | inr b ↦ inr (λ g. b g.1) ]
      | inr a ↦ inr (λ g. a g.0)
    ]

-- what holds of each fails of none
all_not_any : {A : Type 0} (Q : A → Type 0) (xs : List A) → All Q xs → Any (λ x. Q x → ⊥) xs → ⊥
all_not_any Q xs all s = s.4 (subst Q s.3 (all s.0 s.1 s.2))

-- parts without a fault are those of a note
pub fits_from : (P : Program) (parts : NoteParts) → ((f : NoteFault) → HasFault P parts f → ⊥) → NoteTextFits P (text_of parts)
fits_from P parts free = record {
  held = All-map (λ h. (h.0 < length P.objects) × CanClaim (kind_of P h.0) (HeldTimes h.1)) count_of parts.held.items (all_or_any (IsCount P) (count_or P) parts.held.items (free Count));
  apart = All-map (λ o. IsTrue (has (text_of parts).live o || is_some (count_for (text_of parts).held o)) → ⊥) number_of parts.dead.items
      (λ k d within live. free Lives (k, get_or parts.dead.items k d, within, get_or_default parts.dead.items k (get_or parts.dead.items k d) d within, live_same parts (get_or parts.dead.items k d).0 ∙ live));
  ranges = All-map (IsInside P) named_of parts.range.items (all_or_any (λ r. IsInside P (named_of r)) (λ r. inside_or P (named_of r)) parts.range.items (free Span));
}

-- parts with a fault are those of no note
pub unfit : (P : Program) (parts : NoteParts) (f : NoteFault) → HasFault P parts f → NoteTextFits P (text_of parts) → ⊥
unfit P parts Memory s fit = s
unfit P parts Count s fit = all_not_any (IsCount P) parts.held.items (All-unmapped (λ h. (h.0 < length P.objects) × CanClaim (kind_of P h.0) (HeldTimes h.1)) count_of parts.held.items fit.held) s
unfit P parts Lives s fit =
    let free = All-unmapped (λ o. IsTrue (has (text_of parts).live o || is_some (count_for (text_of parts).held o)) → ⊥) number_of parts.dead.items fit.apart s.0 s.1 s.2 in
    free (ap (λ o. has (text_of parts).live o.0 || is_some (count_for (text_of parts).held o.0)) s.3 ∙ (sym (live_same parts s.1.0) ∙ s.4))
unfit P parts Span s fit = all_not_any (λ r. IsInside P (named_of r)) parts.range.items (All-unmapped (IsInside P) named_of parts.range.items fit.ranges) s

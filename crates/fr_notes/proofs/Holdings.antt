-- What is known of an object says which contents it can have. Two claims that are true of a content put it there, each
-- content there meets both claims, and one content there shows each claim that follows.
use Rattle.std.proofs.Common.{◌≡◌, ◌≢◌, ℕ, ◌<◌, ◌≤◌, length, Bool, true, false, refl, sym, ap, ◌∙◌, subst, arith, inl, inr}
use Rattle.std.specs.Prelude.{◌⊎◌, nat_eq, if◌then◌else◌}
use Rattle.fr_notes.proofs.Terms.{eqb-true, Kind, Queue, Binary, Counting, Mutex, Recursive, Stream, Message, Program, Content, Dead, Held, CanHave, count_held}
use Rattle.fr_notes.proofs.Terms.{new_content, HasSizes, new-fits, Claim, NotHeld, Alive, Gone, HeldTimes, Meets, CanClaim, ClaimImplies, ClaimsMeet, Holding, Unheld, Living, Lifeless, Own, Others}
use Rattle.fr_notes.proofs.Terms.{holding_of, mover_claim, other_claim}
use Rattle.fr_notes.specs.Known.{joined}
use Rattle.fr_notes.proofs.Shown.{depth_for-same, new-live}

-- the actor holds no mutex there, not even so often as 0
abbrev pub IsUnheldBy : ℕ → Content → Type 0
IsUnheldBy a content = (count : ℕ) → content ≡ Held a count → ⊥

-- what is known is true of the content, for the mover a and the other actor b
abbrev pub IsIn : ℕ → ℕ → Holding → Content → Type 0
IsIn a b Unheld content = IsUnheldBy a content × IsUnheldBy b content
IsIn a b Living content = (content ≢ Dead) × IsUnheldBy a content × IsUnheldBy b content
IsIn a b Lifeless content = content ≡ Dead
IsIn a b (Own count) content = (content ≡ Held a count) × (1 ≤ count)
IsIn a b (Others count) content = (content ≡ Held b count) × (1 ≤ count)

-- a mutex that is claimed held is held at least once
pub held-once : (kind : Kind) (count : ℕ) → CanClaim kind (HeldTimes count) → 1 ≤ count
held-once Mutex count c = omega (arith, c)
held-once Recursive count c = c.0
held-once kind count c = absurd c

-- an object that has a content in which an actor holds it so often is held at least once
held-count : (P : Program) (kind : Kind) (a count : ℕ) → CanHave P kind (Held a count) → 1 ≤ count
held-count P Mutex a count c = omega (arith, c.1)
held-count P Recursive a count c = c.1
held-count P kind a count c = absurd c

pub not-held : (P : Program) (kind : Kind) (a : ℕ) (content : Content) → CanHave P kind content → count_held a content ≡ 0 → IsUnheldBy a content
not-held P kind a content can none count e =
    let once = held-count P kind a count (subst (λ c. CanHave P kind c) e can) in
    let same : count_held a content ≡ count = ap (count_held a) e ∙ depth_for-same a count in
    absurd (omega (arith, once, same, none))

pub unheld-count : (a : ℕ) (content : Content) → IsUnheldBy a content → count_held a content ≡ 0
unheld-count a (Held holder count) free = go (nat_eq holder a) (λ e. eqb-true holder a e)
  where
    go : (t : Bool) → (t ≡ true → holder ≡ a) → (if t then count else 0) ≡ 0
    go true h = absurd (free count (ap (λ k. Held k count) (h refl)))
    go false h = refl
unheld-count a content free = refl

pub live-count : (a count : ℕ) (content : Content) → content ≡ Held a count → content ≢ Dead
live-count a count content e dead = let f = sym e ∙ dead in cc

-- a content of which both claims are true
module _ (P : Program) (kind : Kind) (a b : ℕ) (content : Content) (can : CanHave P kind content) where
  free : (x : ℕ) → count_held x content ≡ 0 → IsUnheldBy x content
  free x e = not-held P kind x content can e

  pub in-from : (c d : Claim) → CanClaim kind c → CanClaim kind d → Meets a c content → Meets b d content → IsIn a b (holding_of c d) content
  in-from (HeldTimes n) d fits_c fits_d h k = (h, held-once kind n fits_c)
  in-from NotHeld (HeldTimes n) fits_c fits_d h k = (k, held-once kind n fits_d)
  in-from Alive (HeldTimes n) fits_c fits_d h k = (k, held-once kind n fits_d)
  in-from Gone (HeldTimes n) fits_c fits_d h k = (k, held-once kind n fits_d)
  in-from Gone NotHeld fits_c fits_d h k = h
  in-from Gone Alive fits_c fits_d h k = h
  in-from Gone Gone fits_c fits_d h k = h
  in-from NotHeld Gone fits_c fits_d h k = k
  in-from Alive Gone fits_c fits_d h k = k
  in-from Alive NotHeld fits_c fits_d h k = (h.0, free a h.1, free b k)
  in-from Alive Alive fits_c fits_d h k = (h.0, free a h.1, free b k.1)
  in-from NotHeld Alive fits_c fits_d h k = (k.0, free a h, free b k.1)
  in-from NotHeld NotHeld fits_c fits_d h k = (free a h, free b k)

module _ (a b : ℕ) (ne : b ≢ a) (content : Content) where
  pub others-free : (count : ℕ) → content ≡ Held b count → IsUnheldBy a content
  others-free count e k f = let g = sym e ∙ f in ne cc

  own-free : (count : ℕ) → content ≡ Held a count → IsUnheldBy b content
  own-free count e k f = let g = sym e ∙ f in ne cc

  dead-free : (x : ℕ) → content ≡ Dead → count_held x content ≡ 0
  dead-free x e = ap (count_held x) e

  pub in-mover : (c d : Claim) → ClaimsMeet c d → IsIn a b (holding_of c d) content → Meets a c content
  in-mover (HeldTimes n) d m i = i.0
  in-mover NotHeld (HeldTimes n) m i = unheld-count a content (others-free n i.0)
  in-mover Alive (HeldTimes n) m i = (live-count b n content i.0, unheld-count a content (others-free n i.0))
  in-mover Gone (HeldTimes n) m i = absurd m
  in-mover Gone NotHeld m i = i
  in-mover Gone Alive m i = i
  in-mover Gone Gone m i = i
  in-mover NotHeld Gone m i = dead-free a i
  in-mover Alive Gone m i = absurd m
  in-mover Alive NotHeld m i = (i.0, unheld-count a content i.1)
  in-mover Alive Alive m i = (i.0, unheld-count a content i.1)
  in-mover NotHeld Alive m i = unheld-count a content i.1
  in-mover NotHeld NotHeld m i = unheld-count a content i.0

  pub in-other : (c d : Claim) → ClaimsMeet c d → IsIn a b (holding_of c d) content → Meets b d content
  in-other (HeldTimes n) (HeldTimes k) m i = absurd m
  in-other (HeldTimes n) Gone m i = absurd m
  in-other (HeldTimes n) NotHeld m i = unheld-count b content (own-free n i.0)
  in-other (HeldTimes n) Alive m i = (live-count a n content i.0, unheld-count b content (own-free n i.0))
  in-other NotHeld (HeldTimes n) m i = i.0
  in-other Alive (HeldTimes n) m i = i.0
  in-other Gone (HeldTimes n) m i = i.0
  in-other Gone NotHeld m i = dead-free b i
  in-other Gone Alive m i = absurd m
  in-other Gone Gone m i = i
  in-other NotHeld Gone m i = i
  in-other Alive Gone m i = i
  in-other Alive NotHeld m i = unheld-count b content i.2
  in-other Alive Alive m i = (i.0, unheld-count b content i.2)
  in-other NotHeld Alive m i = (i.0, unheld-count b content i.2)
  in-other NotHeld NotHeld m i = unheld-count b content i.1

  -- each of the two can claim what is known
  pub claim-met : (known : Holding) → IsIn a b known content → Meets a (mover_claim known) content
  claim-met Unheld i = unheld-count a content i.0
  claim-met Living i = (i.0, unheld-count a content i.1)
  claim-met Lifeless i = i
  claim-met (Own n) i = i.0
  claim-met (Others n) i = (live-count b n content i.0, unheld-count a content (others-free n i.0))

  pub other-met : (known : Holding) → IsIn a b known content → Meets b (other_claim known) content
  other-met Unheld i = unheld-count b content i.1
  other-met Living i = (i.0, unheld-count b content i.2)
  other-met Lifeless i = i
  other-met (Own n) i = (live-count a n content i.0, unheld-count b content (own-free n i.0))
  other-met (Others n) i = i.0

-- what is true of a held mutex, of a dead object, of a live one that the actor doesn't hold
implied-held : (a n : ℕ) (d : Claim) (content : Content) → content ≡ Held a n → 1 ≤ n → Meets a d content → ClaimImplies (HeldTimes n) d
implied-held a n (HeldTimes k) content e l m = let f = sym e ∙ m in cc
implied-held a n NotHeld content e l m =
    let same : count_held a content ≡ n = ap (count_held a) e ∙ depth_for-same a n in absurd (omega (arith, same, m))
implied-held a n Alive content e l m =
    let same : count_held a content ≡ n = ap (count_held a) e ∙ depth_for-same a n in absurd (omega (arith, same, m.1))
implied-held a n Gone content e l m = let f = sym e ∙ m in cc

implied-dead : (a : ℕ) (d : Claim) (content : Content) → content ≡ Dead → Meets a d content → ClaimImplies Gone d
implied-dead a (HeldTimes k) content e m = let f = sym e ∙ m in cc
implied-dead a NotHeld content e m = tt
implied-dead a Alive content e m = m.0 e
implied-dead a Gone content e m = tt

implied-live : (a : ℕ) (d : Claim) (content : Content) → content ≢ Dead → IsUnheldBy a content → Meets a d content → ClaimImplies Alive d
implied-live a (HeldTimes k) content live free m = absurd (free k m)
implied-live a NotHeld content live free m = tt
implied-live a Alive content live free m = tt
implied-live a Gone content live free m = live m

pub implied-either : (a : ℕ) (kind : Kind) (d : Claim) → Meets a d Dead → Meets a d (new_content kind) → ClaimImplies NotHeld d
implied-either a kind (HeldTimes k) m n = cc
implied-either a kind NotHeld m n = tt
implied-either a kind Alive m n = m.0 refl
implied-either a kind Gone m n = new-live kind n

-- where more is known than that nobody of the two holds it, one content shows each claim that follows
module _ (a b : ℕ) (ne : b ≢ a) (content : Content) (d : Claim) where
  pub claim-shown : (known : Holding) → known ≢ Unheld → IsIn a b known content → Meets a d content → ClaimImplies (mover_claim known) d
  claim-shown Unheld some i m = absurd (some refl)
  claim-shown Living some i m = implied-live a d content i.0 i.1 m
  claim-shown Lifeless some i m = implied-dead a d content i m
  claim-shown (Own n) some i m = implied-held a n d content i.0 i.1 m
  claim-shown (Others n) some i m =
      implied-live a d content (live-count b n content i.0) (others-free a b ne content n i.0) m

  pub other-shown : (known : Holding) → known ≢ Unheld → IsIn a b known content → Meets b d content → ClaimImplies (other_claim known) d
  other-shown Unheld some i m = absurd (some refl)
  other-shown Living some i m = implied-live b d content i.0 i.2 m
  other-shown Lifeless some i m = implied-dead b d content i m
  other-shown (Own n) some i m = implied-live b d content (live-count a n content i.0) (own-free a b ne content n i.0) m
  other-shown (Others n) some i m = implied-held b n d content i.0 i.1 m

-- what is put together says of each actor what the two claims say
pub mover-joined : (c d : Claim) → ClaimsMeet c d → mover_claim (holding_of c d) ≡ joined c d
mover-joined (HeldTimes n) d m = refl
mover-joined NotHeld (HeldTimes n) m = refl
mover-joined Alive (HeldTimes n) m = refl
mover-joined Gone (HeldTimes n) m = absurd m
mover-joined Gone NotHeld m = refl
mover-joined Gone Alive m = refl
mover-joined Gone Gone m = refl
mover-joined NotHeld Gone m = refl
mover-joined Alive Gone m = refl
mover-joined Alive NotHeld m = refl
mover-joined Alive Alive m = refl
mover-joined NotHeld Alive m = refl
mover-joined NotHeld NotHeld m = refl

pub other-joined : (c d : Claim) → ClaimsMeet c d → other_claim (holding_of c d) ≡ joined d c
other-joined (HeldTimes n) (HeldTimes k) m = absurd m
other-joined (HeldTimes n) Gone m = absurd m
other-joined (HeldTimes n) NotHeld m = refl
other-joined (HeldTimes n) Alive m = refl
other-joined NotHeld (HeldTimes n) m = refl
other-joined Alive (HeldTimes n) m = refl
other-joined Gone (HeldTimes n) m = absurd m
other-joined Gone NotHeld m = refl
other-joined Gone Alive m = refl
other-joined Gone Gone m = refl
other-joined NotHeld Gone m = refl
other-joined Alive Gone m = refl
other-joined Alive NotHeld m = refl
other-joined Alive Alive m = refl
other-joined NotHeld Alive m = refl
other-joined NotHeld NotHeld m = refl

-- what is known fits the kind: only mutexes are held, by actors of the application
abbrev pub HoldingFits : Program → ℕ → ℕ → Kind → Holding → Type 0
HoldingFits P a b kind (Own count) = CanClaim kind (HeldTimes count) × (a < length P.actors)
HoldingFits P a b kind (Others count) = CanClaim kind (HeldTimes count) × (b < length P.actors)
HoldingFits P a b kind known = Unit {0}

pub holding-fits : (P : Program) (a b : ℕ) (kind : Kind) (c d : Claim) → CanClaim kind c → CanClaim kind d → a < length P.actors → ((d ≡ NotHeld) ⊎ (b < length P.actors)) → HoldingFits P a b kind (holding_of c d)
holding-fits P a b kind (HeldTimes n) d fits_c fits_d la lb = (fits_c, la)
holding-fits P a b kind NotHeld (HeldTimes n) fits_c fits_d la (inl e) = cc
holding-fits P a b kind Alive (HeldTimes n) fits_c fits_d la (inl e) = cc
holding-fits P a b kind Gone (HeldTimes n) fits_c fits_d la (inl e) = cc
holding-fits P a b kind NotHeld (HeldTimes n) fits_c fits_d la (inr lb) = (fits_d, lb)
holding-fits P a b kind Alive (HeldTimes n) fits_c fits_d la (inr lb) = (fits_d, lb)
holding-fits P a b kind Gone (HeldTimes n) fits_c fits_d la (inr lb) = (fits_d, lb)
holding-fits P a b kind c d fits_c fits_d la lb = tt

-- a content that the object can have
abbrev pub content_in : ℕ → ℕ → Kind → Holding → Content
content_in a b kind Unheld = Dead
content_in a b kind Living = new_content kind
content_in a b kind Lifeless = Dead
content_in a b kind (Own count) = Held a count
content_in a b kind (Others count) = Held b count

pub new-unheld : (a count : ℕ) (kind : Kind) → new_content kind ≡ Held a count → ⊥
new-unheld a count (Queue size lo hi) e = cc
new-unheld a count kind e = cc

pub content-in : (P : Program) (a b : ℕ) (kind : Kind) (known : Holding) → HoldingFits P a b kind known → IsIn a b known (content_in a b kind known)
content-in P a b kind Unheld f = (λ k e. cc, λ k e. cc)
content-in P a b kind Living f = (new-live kind, λ k e. new-unheld a k kind e, λ k e. new-unheld b k kind e)
content-in P a b kind Lifeless f = refl
content-in P a b kind (Own n) f = (refl, held-once kind n f.0)
content-in P a b kind (Others n) f = (refl, held-once kind n f.0)

held-can : (P : Program) (kind : Kind) (a count : ℕ) → CanClaim kind (HeldTimes count) → a < length P.actors → CanHave P kind (Held a count)
held-can P Mutex a count c l = (l, c)
held-can P Recursive a count c l = (l, c.0)
held-can P (Queue size lo hi) a count c l = absurd c
held-can P Binary a count c l = absurd c
held-can P (Counting size first) a count c l = absurd c
held-can P (Stream size) a count c l = absurd c
held-can P (Message size) a count c l = absurd c

pub content-can : (P : Program) (a b : ℕ) (kind : Kind) (known : Holding) → HasSizes kind → HoldingFits P a b kind known → CanHave P kind (content_in a b kind known)
content-can P a b kind Unheld h f = tt
content-can P a b kind Living h f = new-fits P kind h
content-can P a b kind Lifeless h f = tt
content-can P a b kind (Own n) h f = held-can P kind a n f.0 f.1
content-can P a b kind (Others n) h f = held-can P kind b n f.0 f.1

-- Each line means one thing at most: what its tokens say in their places is one call.
use Rattle.std.proofs.Common.{◌≡◌, ◌∙◌, ℤ, List, [], ◌∷◌, ap, refl, subst, sym}
use Rattle.std.proofs.lemmas.Option.{same_Some}
use Rattle.fr_program.specs.declared.ids.ObjId.{ObjId}
use Rattle.fr_program.proofs.PointLemmas.{same-object}
use Rattle.fr_instr.specs.Names.{NamesOf}
use Rattle.fr_instr.specs.Tokens.{Tok, word, number, sign}
use Rattle.fr_instr.specs.declared.call.Slot.{Slot}
use Rattle.fr_instr.specs.declared.call.Slot.TheVariants.{Object, Operand, Variable, Length, Time, Ticks, Null}
use Rattle.fr_instr.specs.declared.token.Sign.TheVariants.{Comma, Question}
use Rattle.fr_instr.proofs.LineLaws.{one_integer}
use Rattle.fr_trace.specs.Args.{IsNumber, IsObjectAt, IsTimeAt, Puts, PutsFirst, PutsMore, PutsAll}
use Rattle.fr_events.specs.declared.recorded.Recorded.{Recorded}
use Rattle.fr_events.specs.declared.recorded.Recorded.TheVariants.{Unknown, Known}
use Rattle.fr_events.specs.declared.seen_call.SeenCall.{SeenCall}
use Rattle.fr_events.specs.declared.seen_call.SeenTime.{SeenTime}
use Rattle.fr_events.specs.declared.seen_call.SeenTime.TheVariants as seen_time

pub number-once : (t : Tok) (r v : Recorded ℤ) → IsNumber t r → IsNumber t v → r ≡ v
number-once (number d) (Known z) (Known y) h k = ap Known (one_integer d z y h k)
number-once (number d) (Known z) Unknown h k = absurd k
number-once (sign Question) Unknown Unknown h k = refl
number-once (sign Question) Unknown (Known y) h k = absurd k
number-once t r v h k = absurd h

object-once : (N : NamesOf) (t : Tok) (r v : Recorded ObjId) → IsObjectAt N t r → IsObjectAt N t v → r ≡ v
object-once N (word w) (Known o) (Known p) h k = ap Known (same-object o p (same_Some o.0 p.0 (sym h ∙ k)))
object-once N (word w) (Known o) Unknown h k = absurd k
object-once N (sign Question) Unknown Unknown h k = refl
object-once N (sign Question) Unknown (Known p) h k = absurd k
object-once N t r v h k = absurd h

time-once : (t : Tok) (r v : Recorded SeenTime) → IsTimeAt t r → IsTimeAt t v → r ≡ v
time-once (word w) (Known seen_time.MaxDelay) (Known seen_time.MaxDelay) h k = refl
time-once (word w) (Known seen_time.MaxDelay) (Known (seen_time.Ticks z)) h k = absurd k
time-once (word w) (Known seen_time.MaxDelay) Unknown h k = absurd k
time-once (number d) (Known (seen_time.Ticks z)) (Known (seen_time.Ticks y)) h k = ap (λ x. Known (seen_time.Ticks x)) (one_integer d z y h k)
time-once (number d) (Known (seen_time.Ticks z)) (Known seen_time.MaxDelay) h k = absurd k
time-once (number d) (Known (seen_time.Ticks z)) Unknown h k = absurd k
time-once (sign Question) Unknown Unknown h k = refl
time-once (sign Question) Unknown (Known y) h k = absurd k
time-once t r v h k = absurd h

put-once : (N : NamesOf) (p : Slot) (t : Tok) (s u v : SeenCall) → Puts N p t s u → Puts N p t s v → u ≡ v
put-once N Object t s u v h k = h.2 ∙ ap (λ o. record s { object = o }) (object-once N t h.0 k.0 h.1 k.1) ∙ sym k.2
put-once N Operand t s u v h k = h.2 ∙ ap (λ z. record s { value = z }) (number-once t h.0 k.0 h.1 k.1) ∙ sym k.2
put-once N Variable t s u v h k = h.1 ∙ sym k.1
put-once N Length t s u v h k = h.2 ∙ ap (λ z. record s { length = z }) (number-once t h.0 k.0 h.1 k.1) ∙ sym k.2
put-once N Time t s u v h k = h.2 ∙ ap (λ z. record s { time = z }) (time-once t h.0 k.0 h.1 k.1) ∙ sym k.2
put-once N Ticks t s u v h k = h.2 ∙ ap (λ z. record s { ticks = z }) (number-once t h.0 k.0 h.1 k.1) ∙ sym k.2
put-once N Null t s u v h k = h.1 ∙ sym k.1

-- two lists that are one begin alike and go on alike
cons-once : (t u : Tok) (ts us : List Tok) → t ∷ ts ≡ u ∷ us → (t ≡ u) × (ts ≡ us)
cons-once t u ts us e = (cc, cc)

pub first-once : (N : NamesOf) (p : Slot) (ts : List Tok) (s u v : SeenCall) (us vs : List Tok) → PutsFirst N p ts s u us → PutsFirst N p ts s v vs
    → (u ≡ v) × (us ≡ vs)
first-once N p ts s u v us vs h k =
    let e = cons-once h.0 k.0 us vs (sym h.1 ∙ k.1) in
    (put-once N p k.0 s u v (subst (λ t. Puts N p t s u) e.0 h.2) k.2, e.1)

pub more-once : (N : NamesOf) (ps : List Slot) (ts : List Tok) (s u v : SeenCall) → PutsMore N ps ts s u → PutsMore N ps ts s v → u ≡ v
more-once N [] ts s u v h k = h.1 ∙ sym k.1
more-once N (p ∷ ps) ts s u v (i, a, r, e, f, m) (j, b, q, d, g, n) =
    let same = cons-once _ _ i j (sym e ∙ d) in
    let first = first-once N p j s a b r q (subst (λ x. PutsFirst N p x s a r) same.1 f) g in
    more-once N ps q b u v (subst (λ x. PutsMore N ps x b u) first.1 (subst (λ x. PutsMore N ps r x u) first.0 m)) n

pub all-once : (N : NamesOf) (ps : List Slot) (ts : List Tok) (s u v : SeenCall) → PutsAll N ps ts s u → PutsAll N ps ts s v → u ≡ v
all-once N [] ts s u v h k = h.1 ∙ sym k.1
all-once N (p ∷ ps) ts s u v (a, r, f, m) (b, q, g, n) =
    let first = first-once N p ts s a b r q f g in
    more-once N ps q b u v (subst (λ x. PutsMore N ps x b u) first.1 (subst (λ x. PutsMore N ps r x u) first.0 m)) n

-- where further places have nothing, the whole has nothing
pub none-more : (N : NamesOf) (p : Slot) (ps : List Slot) (ts inside : List Tok) (s v : SeenCall) (rest : List Tok) → ts ≡ sign Comma ∷ inside
    → PutsFirst N p inside s v rest → ((u : SeenCall) → PutsMore N ps rest v u → ⊥) → (u : SeenCall) → PutsMore N (p ∷ ps) ts s u → ⊥
none-more N p ps ts inside s v rest e f none u (j, b, q, d, g, n) =
    let same = cons-once _ _ j inside (sym d ∙ e) in
    let first = first-once N p inside s b v q rest (subst (λ x. PutsFirst N p x s b q) same.1 g) f in
    none u (subst (λ x. PutsMore N ps x v u) first.1 (subst (λ x. PutsMore N ps q x u) first.0 n))

pub none-all : (N : NamesOf) (p : Slot) (ps : List Slot) (ts : List Tok) (s v : SeenCall) (rest : List Tok)
    → PutsFirst N p ts s v rest → ((u : SeenCall) → PutsMore N ps rest v u → ⊥) → (u : SeenCall) → PutsAll N (p ∷ ps) ts s u → ⊥
none-all N p ps ts s v rest f none u (b, q, g, n) =
    let first = first-once N p ts s b v q rest g f in
    none u (subst (λ x. PutsMore N ps x v u) first.1 (subst (λ x. PutsMore N ps q x u) first.0 n))

-- where the first place has nothing, the whole has nothing
pub none-first : (N : NamesOf) (p : Slot) (ps : List Slot) (ts inside : List Tok) (s : SeenCall) → ts ≡ sign Comma ∷ inside
    → ((u : SeenCall) (rest : List Tok) → PutsFirst N p inside s u rest → ⊥) → (u : SeenCall) → PutsMore N (p ∷ ps) ts s u → ⊥
none-first N p ps ts inside s e none u (j, b, q, d, g, n) =
    let same = cons-once _ _ j inside (sym d ∙ e) in
    none b q (subst (λ x. PutsFirst N p x s b q) same.1 g)

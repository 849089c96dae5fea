-- A line with something that the application doesn't list isn't read.
use Rattle.std.proofs.Common.{◌≡◌, ◌∙◌, ℕ, List, ◌∷◌, true, Option, Some, None, not, codes, bytes_eq, subst, sym}
use Rattle.std.specs.Prelude.{is_none}
use Rattle.std.proofs.lemmas.Bool.{false≢true}
use Rattle.std.proofs.lemmas.Option.{same_Some}
use Rattle.fr_program.specs.declared.ids.ObjId.{ObjId}
use Rattle.fr_instr.specs.Names.{NamesOf, place_of}
use Rattle.fr_instr.specs.Tokens.{Tok, word}
use Rattle.fr_instr.specs.declared.call.Slot.{Slot}
use Rattle.fr_instr.specs.declared.call.Slot.TheVariants.{Object, Null}
use Rattle.fr_instr.proofs.TokenLaws.{spells_once}
use Rattle.fr_events.specs.declared.recorded.Recorded.{Recorded}
use Rattle.fr_events.specs.declared.recorded.Recorded.TheVariants.{Unknown, Known}
use Rattle.fr_events.specs.declared.seen_call.SeenCall.{SeenCall}
use Rattle.fr_trace.specs.Args.{IsNull, IsObjectAt, PutsAll}
use Rattle.fr_trace.specs.Reads.{ActorDoes, IsStrangeLine, IsStrangeTokens, LineReads, SaidReads, Sofar, is_strange, is_strange_by, is_strange_call, is_strange_place}
use Rattle.fr_trace.specs.Said.{Said, enter, returns, sets, begins, ends}
use Rattle.fr_trace.specs.declared.effect.Addition.{Addition}
use Rattle.fr_trace.proofs.Whys.{by-tokens}

same-first : {t u : Tok} {ts us : List Tok} → t ∷ ts ≡ u ∷ us → t ≡ u
same-first e = cc

no-object : (N : NamesOf) (w : List ℕ) (o : Recorded ObjId) → is_none (place_of N.objects w) ≡ true → IsObjectAt N (word w) o → ⊥
no-object N w (Known o) e named = false≢true (subst (λ (p : Option ℕ). is_none p ≡ true) named e)
no-object N w Unknown e named = named

no-null : (w : List ℕ) → not (bytes_eq w (codes "NULL")) ≡ true → w ≡ codes "NULL" → ⊥
no-null w e is = false≢true (subst (λ x. not (bytes_eq x (codes "NULL")) ≡ true) is e)

strange-place : (N : NamesOf) (ps : List Slot) (ts : List Tok) (s u : SeenCall) → is_strange_place N ps ts ≡ true → PutsAll N ps ts s u → ⊥
strange-place N (Object ∷ ps) (word w ∷ ts) s u e (v, rest, (t, is, (o, named, at)), more) =
    no-object N w o e (subst (λ x. IsObjectAt N x o) (sym (same-first is)) named)
strange-place N (Null ∷ ps) (word w ∷ ts) s u e (v, rest, (t, is, (null, at)), more) = no-null w e (subst IsNull (sym (same-first is)) null)
strange-place N ps ts s u e puts = false≢true e

strange-by : (N : NamesOf) (n : ℕ) (s : Sofar) (o : Option ℕ) (said : Said) (x : Addition) → is_strange_by N o said ≡ true → ActorDoes N n s o said x → ⊥
strange-by N n s None said x e does = false≢true (sym does.0 ∙ e)
strange-by N n s (Some a) (enter w k ts) x e (event, (row, named, begun), is) =
    strange-place N row.places ts _ _ (subst (λ o. is_strange_call N o ts ≡ true) named e) begun.args
strange-by N n s (Some a) said x e does = false≢true e

strange-said : (N : NamesOf) (n : ℕ) (s t : Sofar) (said : Said) → is_strange N said ≡ true → SaidReads N n said s t → ⊥
strange-said N n s t (enter w k ts) e (x, does, is) = strange-by N n s (place_of N.actors w) (enter w k ts) x e does
strange-said N n s t (returns w r v) e (x, does, is) = strange-by N n s (place_of N.actors w) (returns w r v) x e does
strange-said N n s t (sets w y d) e (x, does, is) = strange-by N n s (place_of N.actors w) (sets w y d) x e does
strange-said N n s t (begins w) e (x, does, is) = strange-by N n s (place_of N.actors w) (begins w) x e does
strange-said N n s t (ends w) e (x, does, is) = strange-by N n s (place_of N.actors w) (ends w) x e does
strange-said N n s t said e reads = false≢true e

pub strange-line : (N : NamesOf) (n : ℕ) (line : List ℕ) (s t : Sofar) → IsStrangeLine N line → LineReads N n line s t → ⊥
strange-line N n line s t strange reads =
    let read = by-tokens N n line s t strange.no_comment reads in
    let has = subst (IsStrangeTokens N) (spells_once line strange.tokens read.0 strange.spells read.1) strange.strange in
    strange-said N n s t read.2.0 (subst (λ x. is_strange N x ≡ true) (same_Some has.0 read.2.0 (sym has.1 ∙ read.2.1)) has.2) read.2.2

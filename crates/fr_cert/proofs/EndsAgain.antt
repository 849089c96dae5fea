-- What is written for the guards of ends means them again.
use Rattle.std.proofs.Common.{◌≡◌, ◌<◌, ◌≤◌, ◌∙◌, ℕ, suc, ℤ, List, [], ◌∷◌, Some, None, nat_eq, cond, length, All, refl, sym, ap, inl, inr, arith}
use Rattle.std.proofs.lemmas.Bool.{ne_eqb}
use Rattle.fr_cert.proofs.Terms.{AllByRecursion, cases_lt, All-head, All-tail, number, string, object, Members, no_members, member, put, of_integer, Program, variable_at, object_at}
use Rattle.fr_cert.proofs.Terms.{actor_at, IsNumber, IsFaultless, end_text, Guard, Sole, ByMutex, InCritical, Turn, EndGuard, value_for, AreRising, GuardFits, EndFits, RisesFrom, rises_whole}
use Rattle.fr_cert.proofs.Terms.{none_below, later_value, key_text, names_in, IsObject, EachEntry, EachMember, IsNamed, IsTurnNumber, AreTurnValues, IsGuard, IsEnd, IsFitEnd, guard_tree, end_tree}
use Rattle.fr_cert.proofs.Terms.{each_tree}
use Rattle.fr_cert.specs.Keys.{field}
use Rattle.fr_cert.specs.declared.key.Key.TheVariants as key
use Rattle.fr_cert.specs.declared.key.Keyed.TheVariants as place
use Rattle.fr_cert.specs.Written.{with_values}
use Rattle.fr_cert.proofs.GivenLemmas.{given, given-cons, put_named, actor_place, object_place, variable_place}
use Rattle.fr_cert.proofs.NotesAgain.{integer_again, known_more, none_known}

-- ---- turn values

value_given : (xs : List (ℕ × ℤ)) (a : ℕ) → value_for xs a ≡ given xs a
value_given [] a = refl
value_given (x ∷ xs) a = ap (cond (nat_eq x.0 a) (Some x.1)) (value_given xs a) ∙ sym (given-cons x xs a)

-- an actor of the application, and a number
abbrev IsTurn : Program → ℕ × ℤ → Type 0
IsTurn P v = (v.0 < length P.actors) × IsNumber v.1

-- the object that gives these values beside those that are given already
record Turns (P : Program) (least : ℕ) (vs xs : List (ℕ × ℤ)) (ms : Members) : Type 0 where
  ys : List (ℕ × ℤ)
  named : EachMember (IsNamed (names_in P).actors IsTurnNumber) ms ys
  before : (a : ℕ) → a < least → given ys a ≡ given xs a
  after : (a : ℕ) → least ≤ a → given ys a ≡ value_for vs a

each_unit : (xs : List (ℕ × ℤ)) → AllByRecursion (λ x. Unit {0}) xs
each_unit [] = tt
each_unit (x ∷ xs) = (tt, each_unit xs)

turns : (P : Program) (vs : List (ℕ × ℤ)) (least : ℕ) (ms : Members) (xs : List (ℕ × ℤ)) → IsFaultless P → RisesFrom least vs → All (IsTurn P) vs → EachMember (IsNamed (names_in P).actors IsTurnNumber) ms xs → ((a : ℕ) → least ≤ a → given xs a ≡ None)
    → Turns P least vs xs (with_values P vs ms)
unfolding with_values
turns P [] least ms xs faultless rises fits named fresh = record { ys = xs; named = named; before = λ a below. refl; after = fresh }
turns P (v ∷ vs) least ms xs faultless rises fits named fresh =
    let fit : IsTurn P v = All-head (IsTurn P) v vs fits in
    let more = put_named (names_in P).actors IsTurnNumber (λ x. Unit {0}) (actor_at P v.0).name (number (of_integer v.1)) v.0 v.1 ms xs (actor_place P v.0 faultless fit.0) (integer_again v.1, fit.1) tt
    (fresh v.0 (omega (arith, rises.0))) named (each_unit xs) in
    let later : (a : ℕ) → suc v.0 ≤ a → given more.ys a ≡ None =
    λ a from. more.found a ∙ (ap (λ b. cond b (Some v.1) (given xs a)) (ne_eqb v.0 a (λ same. omega (arith, same, from))) ∙ fresh a (omega (arith, from, rises.0))) in
    let rest = turns P vs (suc v.0) (put (actor_at P v.0).name (number (of_integer v.1)) ms) more.ys faultless rises.1 (All-tail (IsTurn P) v vs fits) more.named later in
    record {
      ys = rest.ys;
      named = rest.named;
      before = λ a below.
          rest.before a (omega (arith, below, rises.0)) ∙ (more.found a ∙ ap (λ b. cond b (Some v.1) (given xs a)) (ne_eqb v.0 a (λ same. omega (arith, same, below, rises.0))));
      after = λ a from.
          elim (cases_lt a (suc v.0)) [
            | inl below ↦ rest.before a below ∙ (more.found a ∙ ap (cond (nat_eq v.0 a) (Some v.1)) (fresh a from ∙ sym (none_below vs (suc v.0) a rises.1 below)))
            | inr above ↦ rest.after a above ∙ sym (later_value v vs a (λ same. omega (arith, same, above)))
          ];
    }

values_again : (P : Program) (values : List (ℕ × ℤ)) → IsFaultless P → AreRising values → All (IsTurn P) values → AreTurnValues (names_in P) (with_values P values no_members) values
values_again P values faultless rising fits =
    let all = turns P values 0 no_members [] faultless (rises_whole values rising) fits tt (λ a from. refl) in
    (all.ys, all.named, rising, (λ a. sym (value_given all.ys a ∙ all.after a (omega arith))))

-- ---- guards

guard_again : (P : Program) (g : Guard) → IsFaultless P → GuardFits P g → IsGuard (names_in P) (guard_tree P g) g
unfolding field
guard_again P (Sole actor) faultless fits =
    let name = (actor_at P actor).name in
    inr (
      member (key_text key.Sole) (string name) no_members,
      refl,
      (known_more place.Sole (key_text key.Sole) (string name) no_members refl (none_known place.Sole), (string name, refl, (name, refl, actor_place P actor faultless fits))),
    )
guard_again P (ByMutex mutex) faultless fits =
    let name = (object_at P mutex).name in
    inr (
      member (key_text key.Mutex) (string name) no_members,
      refl,
      (known_more place.Mutex (key_text key.Mutex) (string name) no_members refl (none_known place.Mutex), (string name, refl, (name, refl, object_place P mutex faultless fits.0))),
    )
guard_again P InCritical faultless fits = inl (refl, refl)
guard_again P (Turn x values) faultless fits =
    let name = (variable_at P x).name in
    let named = object (with_values P values no_members) in
    let last = member (key_text key.Values) named no_members in
    let known = known_more place.Turn (key_text key.Values) named no_members refl (none_known place.Turn) in
    inr (
      member (key_text key.Turn) (string name) last,
      refl,
      (
        known_more place.Turn (key_text key.Turn) (string name) last refl known,
        (string name, refl, (name, refl, variable_place P x faultless fits.0)),
        (named, refl, (with_values P values no_members, refl, values_again P values faultless fits.3 fits.1)),
      ),
    )

end_again : (P : Program) (e : EndGuard) → IsFaultless P → EndFits P e → IsObject (IsEnd (names_in P)) (end_tree P e) e
unfolding field
end_again P e faultless fits =
    let name = (object_at P e.buffer).name in
    let guard = member (key_text key.Guard) (guard_tree P e.guard) no_members in
    let end = member (key_text key.End) (string (end_text e.end)) guard in
    let known = known_more place.End (key_text key.Guard) (guard_tree P e.guard) no_members refl (none_known place.End) in (
      member (key_text key.Buffer) (string name) end,
      refl,
      record {
        only = known_more place.End (key_text key.Buffer) (string name) end refl (known_more place.End (key_text key.End) (string (end_text e.end)) guard refl known);
        buffer = (string name, refl, (name, refl, object_place P e.buffer faultless fits.object));
        end = (string (end_text e.end), refl, refl);
        guard = (guard_tree P e.guard, refl, guard_again P e.guard faultless fits.guard);
      },
    )

pub ends_again : (P : Program) (es : List EndGuard) → IsFaultless P → All (EndFits P) es → EachEntry (IsFitEnd P) (each_tree (end_tree P) es) es
ends_again P [] faultless fits = tt
ends_again P (e ∷ es) faultless fits =
    let fit = All-head (EndFits P) e es fits in
    ((end_again P e faultless fit, fit), ends_again P es faultless (All-tail (EndFits P) e es fits))

-- An actor is free to step where the least forbidden rule is none, it gives no mutex that it doesn't hold, and the
-- object that it uses is live.
use Rattle.std.proofs.Common.{◌≡◌, ℕ, zero, suc, ◌<◌, List, [], ◌∷◌, length, get_or, Option, Some, None, Bool, true, false, refl, sym, ◌∙◌, subst, arith}
use Rattle.std.specs.Prelude.{IsTrue, find, if◌then◌else◌}
use Rattle.std.proofs.lemmas.Option.{same_Some}
use Rattle.fr_program.specs.declared.instr.Instr.{Instr}
use Rattle.fr_program.specs.declared.ids.Side.{Side}
use Rattle.fr_program.specs.declared.ids.Side.TheVariants.{Before, Inside}
use Rattle.fr_program.specs.Program.{Program}
use Rattle.fr_rules.specs.State.{State, Dead, content_of}
use Rattle.fr_rules.specs.Rule.{Rule, OneWriter, OneReader, GivenByHolder, AllowedInCritical, AllowedSuspended, AllowedInInterrupt, IsLive, LifeInOrder, SuitsSemaphore, DepthAboveZero, EndsInOrder, InRange, GivesUnheld, UsesDead, Breaches, forbids, first_forbidden, decided_rules, condition_of, used_object}
use Rattle.fr_rules.specs.Step.{stops, SuitsInside, IsFree}

-- where no rule of a list is found, none of them is true
find-none : (p : Rule → Bool) (l : List Rule) (k : ℕ) → find p l ≡ None → k < length l → IsTrue (p (get_or l k OneWriter)) → ⊥
find-none p [] k e h t = absurd (omega arith)
find-none p (r ∷ l) zero e h t = let e' : (if true then Some r else find p l) ≡ None = rw t at e in cc
find-none p (r ∷ l) (suc k) e h t = go (p r) refl (λ later. find-none p l k later (omega arith) t)
  where
    go : (b : Bool) → p r ≡ b → (find p l ≡ None → ⊥) → ⊥
    go true q none = let e' : (if true then Some r else find p l) ≡ None = rw q at e in cc
    go false q none = none (rw q at e)

module _ (P : Program) (S : State) (a : ℕ) (i : Instr) where
  abbrev pub least_here : Option Rule
  least_here = first_forbidden P (condition_of P S a) i

  pub before-free : least_here ≡ None → (GivesUnheld P S a i → ⊥) → (UsesDead S i Before → ⊥) → IsFree P S a Before i
  before-free e gives uses = (rules, tt)
    where
      no : (k : ℕ) → k < 6 → IsTrue (forbids P (condition_of P S a) i (get_or decided_rules k OneWriter)) → ⊥
      no k h t = find-none (forbids P (condition_of P S a) i) decided_rules k e h t

      rules : (rule : Rule) → IsTrue (stops rule) → Breaches P S a Before i rule → ⊥
      rules GivenByHolder s b = gives b
      rules AllowedInCritical s b = no 0 (omega arith) b
      rules AllowedSuspended s b = no 1 (omega arith) b
      rules AllowedInInterrupt s b = no 2 (omega arith) b
      rules IsLive s b = uses b
      rules SuitsSemaphore s b = no 3 (omega arith) b
      rules DepthAboveZero s b = no 4 (omega arith) b
      rules EndsInOrder s b = no 5 (omega arith) b
      rules rule s b = cc

  pub inside-free : SuitsInside P Inside i → (GivesUnheld P S a i → ⊥) → (UsesDead S i Inside → ⊥) → IsFree P S a Inside i
  inside-free suits gives uses = (rules, suits)
    where
      rules : (rule : Rule) → IsTrue (stops rule) → Breaches P S a Inside i rule → ⊥
      rules OneWriter s b = cc
      rules OneReader s b = cc
      rules GivenByHolder s b = gives b
      rules IsLive s b = uses b
      rules LifeInOrder s b = cc
      rules InRange s b = cc
      rules rule s b = b

  pub no-use : (side : Side) → used_object i side ≡ None → UsesDead S i side → ⊥
  no-use side e (o, f, d) = let g = sym e ∙ f in cc

  pub live-use : (side : Side) (n : ℕ) → used_object i side ≡ Some n → (content_of S n ≡ Dead → ⊥) → UsesDead S i side → ⊥
  live-use side n e live (o, f, d) =
      let same : n ≡ o = same_Some _ _ (sym e ∙ f) in live (subst (λ k. content_of S k ≡ Dead) (sym same) d)

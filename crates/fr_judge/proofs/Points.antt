-- How the verdict comes of the points in their order: those before the first that fails keep every part.
use Rattle.std.proofs.Common.{◌≡◌, ℕ, length, Some, ap, arith}
use Rattle.std.specs.Prelude.{slice_get}
use Rattle.fr_judge.proofs.Terms.{Point, Program, points_of, points_are_numbered, IsFaultless, IsSafe, Certificate, CertificateFits, Told, Yes, No, KeepsAll, IsCertified, TellsFirst, TellsVerdict}
use Rattle.fr_judge.specs.declared.part.Verdict.TheVariants.{Yes as TellsYes, No as TellsNo}
use Rattle.fr_judge.proofs.Induction.{certified-safe}
use Rattle.fr_judge.proofs.Walks.{IsSoBelow, at-each}
use Rattle.fr_judge.proofs.Telling.{fitting-distinct}

-- every part is kept at each point with a number below this one
abbrev pub KeepsBelow : Program → Certificate → ℕ → Type 0
KeepsBelow P C n = IsSoBelow P (λ p. KeepsAll P C p) n

module _ (P : Program) (C : Certificate) where
  pub all-keep : KeepsBelow P C (length (points_of P)) → IsCertified P C
  all-keep below = at-each P (λ p. KeepsAll P C p) below

  pub first-failure : (n : ℕ) (p : Point) (told : Told) → KeepsBelow P C n → slice_get (points_of P) n ≡ Some p → TellsFirst P C p (Some told) → TellsVerdict P C (TellsNo p told)
  first-failure n p told below e first =
      let listed = (points_are_numbered P).listed n p e in
      let f : Told → _ = TellsNo p in
      (No p first.0, ap f first.1, record { point = listed.0; first = first.2; before = λ q is lt. below q is (omega (arith, lt, listed.1)) })

-- a yes says that every part is kept
pub yes-certified : (P : Program) (C : Certificate) → TellsVerdict P C TellsYes → IsCertified P C
yes-certified P C (Yes, e, kept) = kept
yes-certified P C (No p part, e, first) = absurd (cc)

-- a yes is safe
pub yes-safe : (P : Program) (C : Certificate) → IsFaultless P → CertificateFits P C → TellsVerdict P C TellsYes → IsSafe P
yes-safe P C faultless fits told =
    (certified-safe P C (record { faultless = faultless; turns = fitting-distinct P C.ends fits.1.0; kept = yes-certified P C told })).0

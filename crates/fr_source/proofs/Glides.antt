-- Steps that nobody else sees, one after another.
use Rattle.std.proofs.Common.{ℕ, List, [], ◌∷◌, ◌++◌, refl, sym, subst}
use Rattle.fr_source.specs.declared.expand.Line.{Line}
use Rattle.fr_source.specs.declared.program.Variable.{Variable}
use Rattle.fr_source.specs.Steps.{Values, HidesAt, Hides, GlidesBy, Glides}
use Rattle.fr_source.specs.Kept.{JumpsTo}

module _ (variables : List Variable) (code : List Line) (v : Values) where
  glides-by-join : (n m k : ℕ) (via more : List ℕ) → GlidesBy variables code v n via m → GlidesBy variables code v m more k → GlidesBy variables code v n (via ++ more) k
  glides-by-join n m k [] more here rest = subst (λ i. GlidesBy variables code v i more k) (sym here) rest
  glides-by-join n m k (i ∷ via) more here rest = (here.0, glides-by-join i m k via more here.1 rest)

  -- one way after another
  pub glides-join : (n m k : ℕ) → Glides variables code v n m → Glides variables code v m k → Glides variables code v n k
  glides-join n m k (via, here) (more, rest) = (via ++ more, glides-by-join n m k via more here rest)

  -- no step
  pub glides-none : (n : ℕ) → Glides variables code v n n
  glides-none n = ([], refl)

  -- one step
  pub glides-one : (n m : ℕ) → Hides variables code v n m → Glides variables code v n m
  glides-one n m step = (m ∷ [], (step, refl))

  -- one step more
  pub glides-more : (n m k : ℕ) → Glides variables code v n m → Hides variables code v m k → Glides variables code v n k
  glides-more n m k way step = glides-join n m k way (glides-one m k step)

  -- one goto more
  pub glides-goto : (n m k : ℕ) → Glides variables code v n m → JumpsTo code m k → Glides variables code v n k
  glides-goto n m k way (line, there, is, to) =
      glides-more n m k way (record { line = line; there = there; step = subst (λ a. HidesAt variables v m a line.to k) (sym is) to })

-- Where in a certificate's text a value stands: the steps from the whole text to it.
--
-- | word                 | meaning                                                            |
-- |----------------------|--------------------------------------------------------------------|
-- | PathStep, step_of    | a step to a key or to a position, and what a step in code stands for |
-- | step_text            | a key as it is, a position in decimal                              |
-- | more_text, path_text | a `/` and a step's text, for each step; the text of a whole path   |
use Rattle.std.specs.Prelude.{ℕ, List, [], ◌∷◌, ◌++◌, codes, decimal, string_bytes}
use Rattle.fr_cert.specs.declared.path.Step as declared
use Rattle.fr_cert.specs.declared.path.Step.TheVariants as step

-- from an object to what it holds at a key, or from a list to the entry at a position
pub data PathStep : Type 0 where
  key : List ℕ → PathStep
  at : ℕ → PathStep

-- what a step in code stands for
abbrev pub step_of : declared.Step → PathStep
step_of (step.Key name) = key (string_bytes name)
step_of (step.At index) = at index

-- a step as it is printed: the key, or the position in decimal
abbrev pub step_text : PathStep → List ℕ
step_text (key name) = name
step_text (at index) = decimal index

-- each of these steps behind a `/`
abbrev pub more_text : List PathStep → List ℕ
more_text [] = []
more_text (step ∷ steps) = codes "/" ++ step_text step ++ more_text steps

-- a path as it is printed: a `/` between two steps
abbrev pub path_text : List PathStep → List ℕ
path_text [] = []
path_text (step ∷ steps) = step_text step ++ more_text steps

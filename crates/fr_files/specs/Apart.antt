-- Files that a command reads or writes, by their names.
--
-- | word      | meaning                                                                 |
-- |-----------|-------------------------------------------------------------------------|
-- | names     | the texts behind references                                             |
-- | paths     | the paths of the outputs that are asked for, in order                   |
-- | AreApart  | no output has the name of an input or of another output                 |
use Rattle.std.specs.Prelude.{◌≢◌, ℕ, List, Option, All, AllPairs, filter_map, map, option_map}
use Rattle.std.specs.Borrow.{Bor}
use Rattle.fr_files.specs.declared.outputs.Output.{Output}

-- the texts behind references
abbrev pub names : List (Bor (List ℕ)) → List (List ℕ)
names = map (λ s. s.now)

-- the paths of the outputs that are asked for
abbrev pub paths : List (Option Output) → List (List ℕ)
paths = filter_map (option_map (λ o. o.path.now))

-- no output has the name of an input or of another output
pub record AreApart (ins outs : List (List ℕ)) : Type 0 where
  pub inputs : All (λ output. All (λ input. input ≢ output) ins) outs
  pub outputs : AllPairs (λ output other. output ≢ other) outs

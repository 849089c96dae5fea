-- What several steps append, one after the other.
use Rattle.std.proofs.Common.{◌≡◌, List, ◌++◌, ◌∙◌, ap, append_assoc}

-- a step appends a, and the next one b
pub next : {T : Type 0} (s t u a b : List T) → t ≡ s ++ a → u ≡ t ++ b → u ≡ s ++ (a ++ b)
next s t u a b first second = second ∙ ap (λ l. l ++ b) first ∙ append_assoc s a b

-- a step appends a, the next one b, and the last one c
pub three : {T : Type 0} (s t u v a b c : List T) → t ≡ s ++ a → u ≡ t ++ b → v ≡ u ++ c → v ≡ s ++ (a ++ b ++ c)
three s t u v a b c first second third = next s u v (a ++ b) c (next s t u a b first second) third

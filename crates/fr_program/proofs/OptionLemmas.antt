-- What holds where there is a value, and where there is none.
use Rattle.std.proofs.Common.{◌≡◌, Option, None, Some, IfNone, sym, ◌∙◌}
use Rattle.std.proofs.lemmas.Option.{same_Some}

-- what follows from what holds where there is none
pub none_then : {X P Q : Type 0} (r : Option X) → IfNone r P → (P → Q) → IfNone r Q
none_then None holds then = then holds
none_then (Some x) holds then = tt

-- two values that one place has are the same
pub one_value : {X : Type 0} (o : Option X) (x y : X) → o ≡ Some x → o ≡ Some y → x ≡ y
one_value o x y p q = same_Some x y (sym p ∙ q)

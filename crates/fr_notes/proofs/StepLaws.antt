-- What a step asks of the application and of what is known: an object that a call names is there, and some state can have
-- both alternatives.
use Rattle.std.proofs.Common.{◌≡◌, ◌<◌, length, Option, Some, None, subst}
use Rattle.std.specs.Prelude.{IfSome}
use Rattle.fr_notes.proofs.Terms.{Instr, Calls, On, ObjectCall, Program, NamesThings, Alternative, AlternativeFits, Known, KnownFits, AreCompatible, IsPossible}

-- some state can have what is known
pub are-possible : (P : Program) (k : Known) → KnownFits P k → IsPossible k
are-possible P k fits = go k.other fits.other
  where
    go : (o : Option Alternative) → IfSome o (λ n. AlternativeFits P n × AreCompatible k.mover n) → IfSome o (λ n. AreCompatible k.mover n)
    go None h = tt
    go (Some n) h = h.1

-- an object call names an object of the application
pub object-there : (P : Program) (i : Instr) (call : ObjectCall) → NamesThings P i → i ≡ Calls (On call) → call.object.0 < length P.objects
object-there P i call names same = (subst (λ x. NamesThings P x) same names).1

-- What guards in code mean.
use Rattle.std.specs.Prelude.{ℕ, ℤ, List, map}
use Rattle.std.specs.BTreeMap.{BTreeMap}
use Rattle.fr_program.specs.declared.ids.ActorId.{ActorId}
use Rattle.fr_ends.specs.declared.guard.Guard as code
use Rattle.fr_ends.specs.declared.guard.Guard.TheVariants as guard
use Rattle.fr_ends.specs.declared.guard.EndGuard as listed
use Rattle.fr_ends.specs.Guard.{Guard, Sole, ByMutex, InCritical, Turn, EndGuard}

-- an actor's number and its turn value
abbrev pub value_of : ActorId × ℤ → ℕ × ℤ
value_of v = (v.0.0, v.1)

-- the turn values, by rising actor
abbrev pub values_of : BTreeMap ActorId ℤ → List (ℕ × ℤ)
values_of values = map value_of values.entries

-- the guard that one in code means
abbrev pub guard_of : code.Guard → Guard
guard_of (guard.Sole actor) = Sole actor.0
guard_of (guard.Mutex mutex) = ByMutex mutex.0
guard_of guard.Critical = InCritical
guard_of (guard.Turn x values) = Turn x.0 (values_of values)

-- the guard of an end that one in code means
abbrev pub end_of : listed.EndGuard → EndGuard
end_of e = record { buffer = e.end.buffer.0; end = e.end.end; guard = guard_of e.guard }

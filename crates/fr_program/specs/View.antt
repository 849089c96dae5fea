-- What parts in code mean: the lists that they hold.
use Rattle.std.specs.Prelude.{map, string_bytes}
use Rattle.fr_program.specs.declared.parts.Variable.{Variable}
use Rattle.fr_program.specs.declared.parts.Object.{Object}
use Rattle.fr_program.specs.declared.parts.Actor.{Actor}
use Rattle.fr_program.specs.declared.parts.Parts.{Parts}
use Rattle.fr_program.specs.Program.{VariableOf, ObjectOf, ActorOf, Program}

-- the variable that one in code means
abbrev pub variable_of : Variable → VariableOf
variable_of v = record { name = string_bytes v.name; lo = v.lo; hi = v.hi; init = v.init; owner = v.owner }

-- the object that one in code means
abbrev pub object_of : Object → ObjectOf
object_of o = record { name = string_bytes o.name; kind = o.kind; live = o.live }

-- the actor that one in code means
abbrev pub actor_of : Actor → ActorOf
actor_of a = record { name = string_bytes a.name; kind = a.kind; code = a.code.items }

-- the application, or the parts with faults, that these parts say
abbrev pub program_of : Parts → Program
program_of p = record { variables = map variable_of p.variables.items; objects = map object_of p.objects.items; actors = map actor_of p.actors.items }

-- What the crate's types mean.
use Rattle.std.specs.Prelude.{ℕ, List, map, option_copied}
use denote.Ref.{Bor}
use Rattle.fr_program.specs.Program.{ObjectOf}
use Rattle.fr_reader.specs.declared.variable.VariableText.{VariableText}
use Rattle.fr_reader.specs.declared.object.ObjectText.{ObjectText}
use Rattle.fr_reader.specs.declared.actor.ActorText.{ActorText}
use Rattle.fr_reader.specs.declared.texts.Texts.{Texts}
use Rattle.fr_reader.specs.Texts as means

-- the text that a reference is to
abbrev pub line_text : Bor (List ℕ) → List ℕ
line_text line = line.now

-- a variable's table, as it was read
abbrev pub variable_text : VariableText → means.VariableText
variable_text v = record { name = v.name.now; lo = v.lo; hi = v.hi; init = v.init; owner = option_copied v.owner }

-- an object's table, as it was read
abbrev pub object_text : ObjectText → ObjectOf
object_text o = record { name = o.name.now; kind = o.kind; live = o.live }

-- an actor's table, as it was read
abbrev pub actor_text : ActorText → means.ActorText
actor_text a = record { name = a.name.now; kind = a.kind; lines = map line_text a.lines.items }

-- all three lists
abbrev pub texts_view : Texts → means.Texts
texts_view t = record { variables = map variable_text t.variables.items; objects = map object_text t.objects.items; actors = map actor_text t.actors.items }

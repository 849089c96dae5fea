-- For private clauses: the names of one kind of thing.
use Rattle.std.specs.Prelude.{ℕ, List}
use Rattle.fr_instr.specs.Names.{NamesOf}
use Rattle.fr_cert.specs.declared.names.Thing.{Thing}
use Rattle.fr_cert.specs.declared.names.Thing.TheVariants.{Variable, Object, Actor}

-- the names of the variables, of the objects, or of the actors
abbrev pub list_of : Thing → NamesOf → List (List ℕ)
list_of Variable N = N.variables
list_of Object N = N.objects
list_of Actor N = N.actors

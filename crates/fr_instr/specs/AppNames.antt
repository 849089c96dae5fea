-- The names with which the lines of an application are read and written.
use Rattle.std.specs.Prelude.{map}
use Rattle.fr_program.specs.Program.{Program}
use Rattle.fr_instr.specs.Names.{NamesOf}

-- the names of the application's variables, objects and actors, each at its number
abbrev pub names_in : Program → NamesOf
names_in P = record { variables = map (λ v. v.name) P.variables; objects = map (λ o. o.name) P.objects; actors = map (λ a. a.name) P.actors }

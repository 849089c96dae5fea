-- The machine that a machine in code is: the public contracts of `Machine` speak of what `machine_of` gives.
use Rattle.std.specs.Prelude.{◌-◌, length}
use Rattle.fr_runner.specs.declared.machine.Machine.TheInside.{Inside}
use Rattle.fr_runner.specs.Machine.{MachineOf}

-- its parts, read from the code's: what is left is what its entries didn't take
abbrev pub machine_of : Inside → MachineOf
machine_of m = record { approved = m.passed.now; words = m.words.items; entries = m.entries.items; state = m.state; polls = m.polls; left = m.polls - length m.entries.items }

-- The texts of the faults of an application's text: what a refusal's line shows. The tables, keys and names of
-- faults 3 to 7 are not shown.
use Rattle.std.specs.Prelude.{ℕ, List, ◌++◌, codes, decimal, string_bytes}
use Rattle.fr_program.specs.FaultText as build
use Rattle.fr_instr.specs.FaultText as line
use Rattle.fr_reader.specs.declared.fault.ReadFault.{ReadFault}
use Rattle.fr_reader.specs.declared.fault.ReadFault.TheVariants.{Memory, TooLong, Toml, Missing, WrongType, UnknownKey, Twice, BadName, Line, Build}

-- a fault's number and name; of a line also its actor, its number and its fault, of a build its fault
abbrev pub fault_text : ReadFault → List ℕ
fault_text Memory = codes "0 Memory"
fault_text TooLong = codes "1 TooLong"
fault_text Toml = codes "2 Toml"
fault_text (Missing table key) = codes "3 Missing"
fault_text (WrongType table key) = codes "4 WrongType"
fault_text (UnknownKey table key) = codes "5 UnknownKey"
fault_text (Twice name) = codes "6 Twice"
fault_text (BadName name) = codes "7 BadName"
fault_text (Line actor index fault) = codes "8 Line: " ++ (string_bytes actor ++ (codes " " ++ (decimal index ++ (codes ": " ++ line.text_of fault))))
fault_text (Build fault) = codes "9 Build: " ++ build.text_of fault

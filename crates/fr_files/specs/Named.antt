-- Which file a fault names.
use Rattle.std.specs.Prelude.{◌≡◌, ℕ, List, string_bytes}
use Rattle.fr_files.specs.declared.fault.FileFault.{FileFault}
use Rattle.fr_files.specs.declared.fault.FileFault.TheVariants.{Memory, Failed}

-- The fault is want of memory, or one of the file with this name.
abbrev pub IsOf : List ℕ → FileFault → Type 0
IsOf path Memory = Unit {0}
IsOf path (Failed held reason) = string_bytes held ≡ path

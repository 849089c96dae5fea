-- Which fault is present in the bytes of an application and of a certificate, where several workers were to judge them.
use Rattle.std.specs.Prelude.{ℕ, List}
use Rattle.fr_text.specs.declared.text.TextFault.{TextFault}
use Rattle.fr_text.specs.declared.text.TextFault.TheVariants.{Memory as NoMemory, App as AppText, Cert as CertText}
use Rattle.fr_text.specs.Texts.{IsFaultOfTexts}
use Rattle.fr_parallel.specs.declared.bytes.BytesFault.{BytesFault}
use Rattle.fr_parallel.specs.declared.bytes.BytesFault.TheVariants.{Par, App, Cert}
use Rattle.fr_parallel.specs.declared.fault.ParFault.TheVariants.{Memory}

-- the fault of a judgment whose texts are refused by this one
abbrev pub bytes_fault : TextFault → BytesFault
bytes_fault NoMemory = Par Memory
bytes_fault (AppText f) = App f
bytes_fault (CertText f) = Cert f

-- a fault of the bytes is present in them; nothing is said of them where the workers gave no verdict
abbrev pub IsFaultOfBytes : List ℕ → List ℕ → BytesFault → Type 0
IsFaultOfBytes app certificate (Par f) = Unit {0}
IsFaultOfBytes app certificate (App f) = IsFaultOfTexts app certificate (AppText f)
IsFaultOfBytes app certificate (Cert f) = IsFaultOfTexts app certificate (CertText f)

-- A fault of a value, as the value around it has it.
use Rattle.std.proofs.Common.{◌≡◌, ◌∙◌, sym, ap, false}
use Rattle.fr_cert.proofs.Terms.{PathStep, is_memory, Standing, deeper, Within, CertFault}
use Rattle.fr_cert.specs.declared.fault.CertFault.TheVariants as fault

kept : (s : PathStep) (f : CertFault) → is_memory (deeper s f) ≡ false → is_memory f ≡ false
kept s fault.Memory e = e
kept s (fault.Shape path) e = e
kept s f e = e

pub within_of : (s : PathStep) (F : CertFault → Type 0) (f g : CertFault) → Standing F f → is_memory g ≡ false → g ≡ deeper s f → Within s F g
within_of s F f g h named e = (f, h (kept s f (ap is_memory (sym e) ∙ named)), e)

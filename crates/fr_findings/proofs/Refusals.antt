-- What a refused text and a status say: a fault that stands, and a verdict.
use Rattle.std.proofs.Common.{◌≡◌, ℕ, List, Bool, true, false, refl, arith}
use Rattle.std.specs.Prelude.{if◌then◌else◌}
use Rattle.fr_reader.specs.declared.fault.ReadFault.{ReadFault}
use Rattle.fr_reader.specs.Faults.{is_memory as app_is_memory}
use Rattle.fr_cert.specs.declared.fault.CertFault.{CertFault}
use Rattle.fr_cert.specs.Faults.{is_memory as cert_is_memory}
use Rattle.fr_text.specs.declared.text.TextFault.{TextFault}
use Rattle.fr_text.specs.declared.text.TextFault.TheVariants.{Memory as NoText, App as AppText, Cert as CertText}
use Rattle.fr_text.specs.Texts.{IsFaultOfTexts}
use Rattle.fr_judge.specs.declared.part.Verdict.{Verdict}
use Rattle.fr_judge.specs.declared.part.Verdict.TheVariants.{Yes, No}
use Rattle.fr_parallel.specs.declared.bytes.BytesFault.{BytesFault}
use Rattle.fr_parallel.specs.declared.bytes.BytesFault.TheVariants.{Par, App as AppRefused, Cert as CertRefused}
use Rattle.fr_parallel.specs.declared.fault.ParFault.TheVariants.{Memory as NoMemory, Workers as NoWorkers, Threads as NoThreads}
use Rattle.fr_parallel.specs.Bytes.{bytes_fault, IsFaultOfBytes}
use Rattle.fr_parallel.specs.Crew.{IsNoCrew}
use Rattle.fr_outcome.specs.declared.fault.CheckFault.{CheckFault}
use Rattle.fr_outcome.specs.declared.fault.CheckFault.TheVariants.{App, Cert, Memory}
use Rattle.fr_outcome.specs.Checked.{status_of, app_fault, cert_fault, check_fault, IsAppRefused, IsCertRefused, CanRefuse}

-- what holds of want of memory, and of a fault that the application's text has, holds of what it comes to
pub app-refused : (Q : CheckFault → Type 0) (f : ReadFault) → Q Memory → (app_is_memory f ≡ false → Q (App f)) → Q (app_fault f)
app-refused Q f none refused = by-cause (app_is_memory f) refl
  where
    by-cause : (b : Bool) → app_is_memory f ≡ b → Q (if b then Memory else App f)
    by-cause true e = none
    by-cause false e = refused e

-- what holds of want of memory, and of a fault that the certificate's text has, holds of what it comes to
pub cert-refused : (Q : CheckFault → Type 0) (f : CertFault) → Q Memory → (cert_is_memory f ≡ false → Q (Cert f)) → Q (cert_fault f)
cert-refused Q f none refused = by-cause (cert_is_memory f) refl
  where
    by-cause : (b : Bool) → cert_is_memory f ≡ b → Q (if b then Memory else Cert f)
    by-cause true e = none
    by-cause false e = refused e

-- so does what holds of each fault that the texts have, of the fault that they are refused by
pub text-refused : (Q : CheckFault → Type 0) (a c : List ℕ) → Q Memory → ((f : ReadFault) → IsAppRefused a f → Q (App f)) → ((f : CertFault) → IsCertRefused a c f → Q (Cert f))
    → (f : TextFault) → IsFaultOfTexts a c f → Q (check_fault (bytes_fault f))
text-refused Q a c none app cert NoText s = none
text-refused Q a c none app cert (AppText f) s = app-refused Q f none (λ e. app f (e, s e))
text-refused Q a c none app cert (CertText f) s = cert-refused Q f none (λ e. cert f (e, (s.0, s.1, s.2 e)))

pub refused-by : (a c : List ℕ) (w : ℕ) (f : BytesFault) → IsFaultOfBytes a c f → (f ≡ Par NoWorkers → IsNoCrew w) → CanRefuse a c w (check_fault f)
refused-by a c w (Par NoMemory) s none = tt
refused-by a c w (Par NoWorkers) s none = none refl
refused-by a c w (Par NoThreads) s none = tt
refused-by a c w (AppRefused f) s none = text-refused (CanRefuse a c w) a c tt (λ g h. h) (λ g h. h) (AppText f) s
refused-by a c w (CertRefused f) s none = text-refused (CanRefuse a c w) a c tt (λ g h. h) (λ g h. h) (CertText f) s

-- the status 0 is that of a yes
pub zero-yes : (v : Verdict) → status_of v ≡ 0 → v ≡ Yes
zero-yes Yes e = refl
zero-yes (No p part) e = absurd (omega (arith, e))

-- For private clauses: what the parts of a note and of a guard in code mean, and what a fault of a note is called.
use Rattle.std.specs.Prelude.{ℕ, ℤ, [], Bool, map}
use Rattle.fr_program.specs.declared.ids.ObjId.{ObjId}
use Rattle.fr_program.specs.declared.ids.VarId.{VarId}
use Rattle.fr_program.specs.declared.range.Range.{Range}
use Rattle.fr_program.specs.Limits.{IsNumber}
use Rattle.fr_notes.specs.declared.note.NoteParts.{NoteParts}
use Rattle.fr_notes.specs.declared.fault.NoteFault.{NoteFault}
use Rattle.fr_notes.specs.declared.fault.NoteFault.TheVariants as note
use Rattle.fr_notes.specs.View.{ends_of}
use Rattle.fr_cert.specs.declared.fault.CertFault.{CertFault}
use Rattle.fr_cert.specs.declared.fault.CertFault.TheVariants as cert
use Rattle.fr_cert.specs.declared.written_notes.Life.{Life}
use Rattle.fr_cert.specs.declared.written_notes.Life.TheVariants as life
use Rattle.fr_cert.specs.Meaning.{NoteText}
use Rattle.fr_cert.specs.Written.{is_alive, is_gone}
use Rattle.fr_notes.specs.declared.claim.Claim.{Claim}

-- a variable's number and the ends of its range
abbrev pub named_of : VarId × Range → ℕ × (ℤ × ℤ)
named_of x = (x.0.0, ends_of x.1)

-- an object's number and how often it is held
abbrev pub count_of : ObjId × ℕ → ℕ × ℕ
count_of x = (x.0.0, x.1)

-- an object's number
abbrev pub number_of : ObjId → ℕ
number_of o = o.0

-- what an object of the text has to say for these parts
abbrev pub text_of : NoteParts → NoteText
text_of parts = record {
  held = map count_of parts.held.items;
  crit = parts.crit;
  susp = parts.susp;
  live = map number_of parts.live.items;
  dead = map number_of parts.dead.items;
  ranges = map named_of parts.range.items;
}

-- what a certificate with a note that has this fault is refused for
abbrev pub refused_as : NoteFault → CertFault
refused_as note.Memory = cert.Memory
refused_as f = cert.Note []

-- both ends of the range are numbers
abbrev pub HasNumbers : Range → Type 0
HasNumbers r = IsNumber r.lo × IsNumber r.hi

-- whether the claim says this of its object
abbrev pub says : Life → Claim → Bool
says life.Live claim = is_alive claim
says life.Dead claim = is_gone claim

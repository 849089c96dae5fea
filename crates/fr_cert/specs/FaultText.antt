-- The texts of certificate faults: the number and the name that a refusal's line shows.
use Rattle.std.specs.Prelude.{ℕ, List, codes}
use Rattle.fr_cert.specs.declared.fault.CertFault.{CertFault}
use Rattle.fr_cert.specs.declared.fault.CertFault.TheVariants.{Memory, TooLong, Json, Shape, Version, PointCount, UnknownName, Note, Guard, EndTwice, Alternatives}

-- the number and the name of a certificate fault, without what it is about
abbrev pub text_of : CertFault → List ℕ
text_of Memory = codes "0 Memory"
text_of TooLong = codes "1 TooLong"
text_of Json = codes "2 Json"
text_of (Shape path) = codes "3 Shape"
text_of Version = codes "4 Version"
text_of PointCount = codes "5 PointCount"
text_of (UnknownName path name) = codes "6 UnknownName"
text_of (Note path) = codes "7 Note"
text_of (Guard path) = codes "8 Guard"
text_of (EndTwice path) = codes "9 EndTwice"
text_of (Alternatives path) = codes "10 Alternatives"

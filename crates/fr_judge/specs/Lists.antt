-- The lists that are made once of an application and a certificate.
use Rattle.fr_program.specs.Program.{Program}
use Rattle.fr_ends.specs.Certificate.{Certificate}
use Rattle.fr_effects.specs.Index.{IsIndexOf}
use Rattle.fr_interfere.specs.Rows.{AreHullsOf}
use Rattle.fr_judge.specs.declared.lists.Lists.{Lists}

-- the index is the application's, and the hulls are those of its lists by the certificate's notes
pub record AreListsOf (P : Program) (C : Certificate) (lists : Lists) : Type 0 where
  pub index : IsIndexOf P lists.index
  pub hulls : AreHullsOf P C.notes lists.index lists.hulls

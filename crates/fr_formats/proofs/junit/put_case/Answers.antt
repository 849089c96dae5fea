use Rattle.fr_formats.specs.Junit.{case_of}
use Rattle.fr_formats.proofs.Chains.{next}
use Rattle.fr_formats.proofs.junit.put_case.Goals as goal

pub returns : goal.returns
unfolding case_of
returns c =
    let warnings = rw c.deref.ensures.value at c.in_ok-put_warnings.ensures in
    next _ _ _ _ _ (next _ _ _ _ _ (next _ _ _ _ _ c.in_ok-begin_case.ensures c.in_ok-put_outcome.ensures) warnings) c.in_ok-put_part.ensures

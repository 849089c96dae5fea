-- The names that were read are those of the application, so what was found of them holds of it.
use Rattle.std.proofs.Common.{List, ℕ, Bor}
use Rattle.fr_program.specs.View.{program_of}
use Rattle.fr_program.proofs.FaultLemmas.{refuted, names-from_read, read_each, read_pairs}
use Rattle.fr_program.proofs.check.check_names.Goals as goal

abbrev text : Bor (List ℕ) → List ℕ
text name = name.now

pub returns-then-not-are_names-clause-err : goal.returns-then-not-are_names-clause-err
returns-then-not-are_names-clause-err c = λ other free.
    refuted _ c.if-not-are_names.true c.are_names.ensures.1 (rw c.deref.ensures.value (read_each (program_of c.args.parts.now) text c.in_ok-names.names.items c.in_ok-names.ensures.ok free.names))

pub returns-then-not-are_distinct-clause-err : goal.returns-then-not-are_distinct-clause-err
returns-then-not-are_distinct-clause-err c = λ other free.
    refuted _ c.if-not-are_distinct.true c.are_distinct.ensures.1 (rw c.deref-else-not-are_names.ensures.value (read_pairs (program_of c.args.parts.now) text c.in_ok-names.names.items c.in_ok-names.ensures.ok free.once))

pub returns-clause-ok : goal.returns-clause-ok
returns-clause-ok c =
    names-from_read (program_of c.args.parts.now) text c.in_ok-names.names.items c.in_ok-names.ensures.ok
    (rw (← c.deref.ensures.value) (c.are_names.ensures.0 c.if-not-are_names.false))
    (rw (← c.deref-else-not-are_names.ensures.value) (c.are_distinct.ensures.0 c.if-not-are_distinct.false))

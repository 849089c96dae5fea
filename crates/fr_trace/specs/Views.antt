-- What the crate's own types mean.
--
-- | word    | meaning                      |
-- |---------|------------------------------|
-- | said_of | what a line says, in code    |
-- | so_far  | what is read so far, in code |
use Rattle.fr_instr.specs.Views.{tok, toks}
use Rattle.fr_trace.specs.declared.said.Said.{Said as SaidInCode}
use Rattle.fr_trace.specs.declared.said.Said.TheVariants as code
use Rattle.fr_trace.specs.declared.progress.Progress.{Progress}
use Rattle.fr_trace.specs.Reads.{Sofar}
use Rattle.fr_trace.specs.Said.{Said, nothing, unseen, lost, enter, returns, sets, begins, ends}

-- what a line says that one in code means
abbrev pub said_of : SaidInCode → Said
said_of code.Nothing = nothing
said_of (code.Unseen ts) = unseen (toks ts.now)
said_of code.Lost = lost
said_of (code.Enter a k ts) = enter a.now k.now (toks ts.now)
said_of (code.Return a t u) = returns a.now (tok t) (tok u)
said_of (code.Set a x d) = sets a.now x.now d.now
said_of (code.Begin a) = begins a.now
said_of (code.End a) = ends a.now

-- what is read so far
abbrev pub so_far : Progress → Sofar
so_far p = record { anywhere = p.from_anywhere; events = p.events.items; unseen = p.unseen.items; lost = p.lost.items; ignored = p.ignored; inside = p.inside.items }

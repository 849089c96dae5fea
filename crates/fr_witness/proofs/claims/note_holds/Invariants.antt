use Rattle.std.proofs.Common.{◌<◌, ℕ}
use Rattle.std.specs.Prelude.{slice_index_or}
use Rattle.fr_notes.specs.Note.{Alternative, HoldsOne}
use Rattle.fr_witness.proofs.claims.note_holds.Given as goal

-- none of the alternatives so far holds
abbrev pub invariant-loop-alternative : goal.invariant-loop-alternative
invariant-loop-alternative l = (k : ℕ) (d : Alternative) → k < l.alternative-index → HoldsOne (slice_index_or l.alternative-items k d) l.actor.0 l.state → ⊥

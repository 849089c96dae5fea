-- The words that the proofs of this crate use of other crates and of its own specs, each named in one place.
pub use Rattle.std.proofs.lemmas.Bool.{cases_lt}
pub use Rattle.std.proofs.lemmas.Bool.Decides.{eqb_tells}
pub use Rattle.std.proofs.lemmas.List.Elements.{All-contains, All-push, All-weaker, Contains-append_left, Contains-push, All-append, All-take, All-drop, All-nil, All-cons, Contains-get_or}
pub use Rattle.std.specs.List.{remove, HoldsAt, insert}
pub use Rattle.fr_program.specs.declared.ids.ObjId.{ObjId}
pub use Rattle.fr_program.specs.declared.ids.Point.{Point}
pub use Rattle.fr_program.specs.declared.ids.Side.TheVariants.{Inside, Before}
pub use Rattle.fr_program.specs.declared.parts.Kind.{Kind}
pub use Rattle.fr_program.specs.declared.parts.Kind.TheVariants.{Mutex, Recursive}
pub use Rattle.fr_program.specs.Program.{Program}
pub use Rattle.fr_rules.specs.State.{State, Content, Held, content_of, kind_of, CanHave, IsWellFormed}
pub use Rattle.fr_notes.specs.declared.claim.Claim.{Claim}
pub use Rattle.fr_notes.specs.declared.claim.Claim.TheVariants.{NotHeld, Alive, Gone, HeldTimes}
pub use Rattle.fr_notes.specs.Note.{Note, Meets, Holds, claim_of, Alternative}
pub use Rattle.fr_notes.specs.Noted.{note_at, IsAt}
pub use Rattle.fr_ends.specs.Fits.{is_any_mutex}
pub use Rattle.fr_program.specs.Lookup.{IsPoint, HasSide, instr_of}
pub use Rattle.fr_order.specs.Graph.{place_in, ComesBefore, IsEnd, IsListed, LeadsFrom, ClosesUp, IsCycleOf}
pub use Rattle.fr_order.specs.Order.{IsEdge, OrderExcludesDeadlock, IsInsideTake, IsOrderOf, NamesThings}
pub use Rattle.fr_order.specs.declared.edge.Edge.{Edge}
pub use Rattle.fr_order.specs.Peeled.{IsWithin, AreEnds, HasEnds, IsPeeled, Blocks, IsFree, IsSorted, AreRest, IsUpward, IsVisited, AreAmong, IsWalk}
pub use Rattle.fr_order.specs.Edges.{waits_to_take, inside_take, inside_any_take, can_be_edge, AreInside, HasTakesBelow, AreTakes, ArePoints, AreAllTakes, CanBeEdge, IsEdgeOf, AreEdges, HasEdge}
pub use Rattle.fr_order.specs.Edges.{HasEdgesBelow, HasEdgesFrom}

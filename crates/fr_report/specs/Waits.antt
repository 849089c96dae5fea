-- The bytes of what is said of deadlocks over mutexes.
--
-- | word                       | meaning                                                                            |
-- |----------------------------|------------------------------------------------------------------------------------|
-- | wait_text, holder_text     | which mutex an actor waits for, and that an actor is its holder                    |
-- | cycle_text                 | the waits of a cycle: each mutex is held by the actor that comes next              |
-- | deadlock_text              | the same of a run, with the number of its steps                                    |
-- | order_names                | mutexes in an order in which takes go upwards                                      |
-- | edge_text, edges_text      | where a mutex is taken while another one is held; a cycle of such places           |
-- | order_text                 | the line that says whether actors can deadlock                                     |
use Rattle.std.specs.Prelude.{◌++◌, ℕ, List, [], ◌∷◌, codes, decimal, flat_map, length}
use Rattle.fr_program.specs.declared.ids.ObjId.{ObjId}
use Rattle.fr_program.specs.Program.{Program}
use Rattle.fr_program.specs.Lookup.{actor_at, object_at}
use Rattle.fr_program.specs.Uses.{side_text}
use Rattle.fr_waits.specs.declared.wait.Wait.{Wait}
use Rattle.fr_order.specs.declared.edge.Edge.{Edge}
use Rattle.fr_order.specs.declared.order.Order.{Order}
use Rattle.fr_order.specs.declared.order.Order.TheVariants.{Upwards, Cycle}
use Rattle.fr_found.specs.declared.finding.Deadlocked.{Deadlocked}

-- `<actor> waits for <mutex>`
abbrev pub wait_text : Program → Wait → List ℕ
wait_text P w = (actor_at P w.actor.0).name ++ (codes " waits for " ++ (object_at P w.mutex.0).name)

-- `, held by <actor>`
abbrev pub holder_text : Program → Wait → List ℕ
holder_text P w = codes ", held by " ++ (actor_at P w.actor.0).name

-- one wait more: its actor holds what the one before waits for
abbrev pub next_text : Program → Wait → List ℕ
next_text P w = holder_text P w ++ (codes "; " ++ wait_text P w)

-- the waits of a cycle; the first actor holds what the last one waits for
abbrev pub cycle_text : Program → List Wait → List ℕ
cycle_text P [] = []
cycle_text P (w ∷ rest) = wait_text P w ++ (flat_map (next_text P) rest ++ holder_text P w)

-- `<waits>, after <number> steps`
abbrev pub deadlock_text : Program → Deadlocked → List ℕ
deadlock_text P d = cycle_text P d.cycle.items ++ (codes ", after " ++ (decimal (length d.steps.items) ++ codes " steps"))

-- a mutex after another one, with what stands between them
abbrev pub name_after : List ℕ → Program → ObjId → List ℕ
name_after between P o = between ++ (object_at P o.0).name

-- `: <mutex> < <mutex> ..`; no text where there is none
abbrev pub order_names : Program → List ObjId → List ℕ
order_names P [] = []
order_names P (o ∷ rest) = codes ": " ++ ((object_at P o.0).name ++ flat_map (name_after (codes " < ") P) rest)

-- `<actor> <instruction> inside takes <mutex> and holds <mutex>`
abbrev pub edge_text : Program → Edge → List ℕ
edge_text P e =
    (actor_at P e.point.actor.0).name ++ (codes " " ++ (decimal e.point.pc ++ (codes " " ++ (side_text e.point.side
    ++ (codes " takes " ++ ((object_at P e.taken.0).name ++ (codes " and holds " ++ (object_at P e.held.0).name)))))))

abbrev pub edge_after : Program → Edge → List ℕ
edge_after P e = codes "; " ++ edge_text P e

-- the mutex that is held, after another one
abbrev pub held_after : Program → Edge → List ℕ
held_after P e = codes ", " ++ (object_at P e.held.0).name

-- `: <mutex>, <mutex> ..: <place>; <place> ..`
abbrev pub edges_text : Program → List Edge → List ℕ
edges_text P [] = []
edges_text P (e ∷ rest) =
    codes ": " ++ ((object_at P e.held.0).name ++ (flat_map (held_after P) rest ++ (codes ": " ++ (edge_text P e ++ flat_map (edge_after P) rest))))

-- the line without its newline: that there is no deadlock, with the order that shows it, or a cycle of places that may lead to one
abbrev pub order_text : Program → Order → List ℕ
order_text P (Upwards mutexes) = codes "no deadlock" ++ order_names P mutexes.items
order_text P (Cycle edges) = codes "may deadlock" ++ edges_text P edges.items

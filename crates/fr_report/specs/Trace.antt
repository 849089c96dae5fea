-- The bytes of a trace: one line an entry.
--
-- | word           | meaning                                                                        |
-- |----------------|--------------------------------------------------------------------------------|
-- | entry_text     | `<actor> step <choice>` or `<actor> blocked`, with its newline                 |
-- | trace_text     | the lines of all entries; an empty trace is no bytes                           |
use Rattle.std.specs.Prelude.{ℕ, List, ◌++◌, codes}
use Rattle.std.specs.List.{flat_map}
use Rattle.std.specs.Fmt.{signed_decimal}
use Rattle.fr_program.specs.Program.{Program}
use Rattle.fr_program.specs.Lookup.{actor_at}
use Rattle.fr_runner.specs.declared.trace.Entry.{Entry}
use Rattle.fr_runner.specs.declared.trace.Entry.TheVariants.{Stepped, Blocked}

-- the line of an entry, with its newline
abbrev pub entry_text : Program → Entry → List ℕ
entry_text P (Stepped a c) = (actor_at P a.0).name ++ (codes " step " ++ (signed_decimal c ++ codes "\n"))
entry_text P (Blocked a) = (actor_at P a.0).name ++ codes " blocked\n"

-- the lines of all entries, in their order
abbrev pub trace_text : Program → List Entry → List ℕ
trace_text P entries = flat_map (entry_text P) entries

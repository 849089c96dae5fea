use Rattle.toml.proofs.Views.{table_get}
use Rattle.fr_reader.specs.Keys.{field, key_text}
use Rattle.fr_reader.proofs.table.found_at.Goals as goal

pub returns : goal.returns
unfolding field
returns c = table_get c.get.result (key_text c.args.key) c.args.table.now.entries (rw (← c.text.ensures) c.get.ensures.value)

use Rattle.fr_cert.specs.Keys.{field, key_text}
use Rattle.fr_cert.proofs.KeyLemmas.{map_get}
use Rattle.fr_cert.proofs.tree.found_at.Goals as goal

pub returns : goal.returns
unfolding field
returns c = map_get c.get.result (key_text c.args.key) c.args.map.now.entries (rw (← c.text.ensures) c.get.ensures.value)

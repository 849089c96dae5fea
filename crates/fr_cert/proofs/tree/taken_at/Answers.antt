use Rattle.fr_cert.specs.Keys.{field, key_text}
use Rattle.fr_cert.proofs.KeyLemmas.{map_taken}
use Rattle.fr_cert.proofs.tree.taken_at.Goals as goal

pub returns : goal.returns
unfolding field
returns c = map_taken c.remove.result (key_text c.args.key) c.args.map.now.entries (rw (← c.text.ensures) c.remove.ensures.value)

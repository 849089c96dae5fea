-- What was inserted is at the path.
use Rattle.std.proofs.Common.{◌≡◌, string_bytes}
use Rattle.fr_trial.proofs.Shown.{insert-shown}
use Rattle.fr_trial.proofs.memory.MemoryFiles.put.Goals as goal

pub returns-clause-put : goal.returns-clause-put
returns-clause-put c =
    let path : string_bytes c.in_ok-path.path ≡ c.args.path.now = c.in_ok-path.ensures.ok in
    let put = insert-shown c.self.inside.files c.insert.new.self _ (string_bytes c.in_ok-path.path) c.in_ok-bytes.bytes c.in_ok-insert.ensures.updates in
    rw (← c.self.view_is, ← path, ← c.in_ok-bytes.ensures.items) put

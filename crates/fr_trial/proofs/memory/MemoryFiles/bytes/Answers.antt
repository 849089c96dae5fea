-- What the map holds at a path is what the files hold.
use Rattle.std.proofs.Common.{Some, ap, ◌∙◌, sym, option_map}
use Rattle.fr_trial.proofs.Shown.{map-shown}
use Rattle.fr_trial.proofs.memory.MemoryFiles.bytes.Goals as goal

pub returns-in-Some : goal.returns-in-Some
returns-in-Some c =
    rw (← c.self.view_is)
    (ap Some c.as_slice.ensures.value ∙ ap (option_map (λ v. v.items)) c.in-Some.ensures.value ∙ sym (map-shown c.args.path.now c.self.inside.files))

pub returns-in-None : goal.returns-in-None
returns-in-None c =
    rw (← c.self.view_is) (ap (option_map (λ v. v.items)) c.in-None.ensures.value ∙ sym (map-shown c.args.path.now c.self.inside.files))

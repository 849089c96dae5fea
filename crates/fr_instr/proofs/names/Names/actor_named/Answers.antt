use Rattle.std.proofs.Common.{◌∙◌, ap, map, ◌++◌, string_bytes}
use Rattle.fr_program.specs.Limits.{IsName}
use Rattle.fr_instr.specs.Names.{NamesOf, place_of}
use Rattle.fr_program.proofs.ListLemmas.{All-right}
use Rattle.fr_instr.proofs.NameLaws.{no_text_named}
use Rattle.fr_instr.proofs.names.Names.actor_named.Goals as goal

pub returns-in_default : goal.returns-in_default
returns-in_default c =
    let vs = map string_bytes c.self.inside.variables.keys in
    let os = map string_bytes c.self.inside.objects.keys in
    let rest = map string_bytes c.self.inside.actors.keys in
    no_text_named _ c.args.word.now (All-right IsName os rest (All-right IsName vs (os ++ rest) c.self.invariant.names)) c.in_default.ensures.cases.0 ∙ ap (λ (N : NamesOf). place_of N.actors c.args.word.now) c.self.view_is

use Rattle.std.proofs.Common.{◌∙◌, sym, string_bytes}
use Rattle.std.specs.Str.{bytes_eq}
use Rattle.fr_instr.proofs.NameLaws.{position-map}
use Rattle.fr_instr.proofs.names.number_of.Goals as goal

pub returns : goal.returns
returns c = c.get_index_of.ensures.index ∙ sym (position-map string_bytes (λ v. bytes_eq c.args.name.now v) c.args.names.now.keys)

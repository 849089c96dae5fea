-- The reserved words are those of the one list and those of the other.
use Rattle.std.proofs.Common.{inl, inr, take, drop, sym, ◌∙◌}
use Rattle.std.proofs.lemmas.Bool.{false≢true}
use Rattle.std.proofs.lemmas.List.Elements.{Contains-append_right, Contains-append_cases}
use Rattle.fr_program.specs.Limits.{reserved}
use Rattle.fr_program.proofs.check.names.is_reserved.Goals as goal

pub returns-else-is_line_word : goal.returns-else-is_line_word
returns-else-is_line_word c =
    let name = c.args.name.now in (
      λ t. Contains-append_right (take 4 reserved) (drop 4 reserved) name (c.is_end_word.ensures.0 t),
      λ has. elim (Contains-append_cases (take 4 reserved) (drop 4 reserved) name has) [
        | inl first ↦ absurd (false≢true (sym c.if-is_line_word.false ∙ c.is_line_word.ensures.1 first))
        | inr later ↦ c.is_end_word.ensures.1 later
      ],
    )

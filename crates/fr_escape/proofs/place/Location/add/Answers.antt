-- One line more is a line of a place.
use Rattle.std.proofs.Common.{◌≡◌, ◌++◌, ◌∷◌, [], All, String, rules, string_bytes, subst, sym}
use Rattle.std.proofs.lemmas.List.Elements.{All-append, All-cons, All-nil}
use Rattle.std.specs.declared.alloc.Global.{Global}
use Rattle.fr_escape.specs.Location.{IsPlaceLine}
use Rattle.fr_escape.proofs.place.Location.add.Goals as goal

abbrev IsLine : String Global → Type 0
IsLine line = IsPlaceLine (string_bytes line)

pub invariant_of-self : goal.invariant_of-self
invariant_of-self c =
    let same : c.push.new.self.items ≡ c.self.inside.lines.items = search rules in
    subst (All IsLine) (sym same) c.self.invariant

pub invariant_of-self-2 : goal.invariant_of-self-2
invariant_of-self-2 c =
    let old = c.self.inside.lines.items in
    let more : c.push.new.self.items ≡ old ++ c.args.line ∷ [] = search rules in
    subst (All IsLine) (sym more) (All-append IsLine old (c.args.line ∷ []) c.self.invariant (All-cons IsLine c.args.line [] c.requires (All-nil IsLine)))

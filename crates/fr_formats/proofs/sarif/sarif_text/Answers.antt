use Rattle.std.proofs.Common.{◌≡◌, List, [], ◌∷◌, ◌∙◌, ap, refl, map}
use Rattle.fr_formats.specs.declared.ident.Ident.{Ident}
use Rattle.fr_formats.specs.Sarif.{rule_of}
use Rattle.fr_formats.proofs.sarif.sarif_text.Goals as goal

names_kept : (idents : List Ident) → map (λ r. r.name) (map rule_of idents) ≡ map (λ i. i.name.now) idents
names_kept [] = refl
names_kept (i ∷ idents) = ap (λ names. i.name.now ∷ names) (names_kept idents)

pub returns : goal.returns
returns c =
    let idents = c.idents.result.now in
    (map rule_of idents, names_kept idents ∙ c.idents.ensures, rw (c.in_ok-put_log.ensures, c.new-out.ensures) at c.in_ok-text.ensures)

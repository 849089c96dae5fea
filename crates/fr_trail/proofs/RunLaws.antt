-- One item more of a run, and its line.
use Rattle.std.proofs.Common.{◌≡◌, ◌++◌, ◌∙◌, ℕ, List, [], ◌∷◌, ap, append-nil, append_assoc, refl, sym}
use Rattle.fr_program.specs.Program.{Program}
use Rattle.fr_explained.specs.declared.item.Item.{Item}
use Rattle.fr_trail.specs.Runs.{IsItemLine, IsRunText}

pub run-more : (P : Program) (items : List Item) (item : Item) (text line : List ℕ) → IsRunText P items text → IsItemLine P item line
    → IsRunText P (items ++ item ∷ []) (text ++ line)
run-more P [] item text line h own = (line, [], own, refl, ap (λ t. t ++ line) h ∙ sym (append-nil line))
run-more P (i ∷ items) item text line h own =
    (h.0, h.1 ++ line, h.2, run-more P items item h.1 line h.3 own, ap (λ t. t ++ line) h.4 ∙ append_assoc h.0 h.1 line)

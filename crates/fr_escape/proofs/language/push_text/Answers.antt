use Rattle.std.proofs.Common.{sym, ◌∙◌, append_assoc, append-nil}
use Rattle.std.proofs.lemmas.Str.{IsUtf8-past_char}
use Rattle.fr_escape.proofs.WrittenLaws.{written_empty, written_step}
use Rattle.fr_escape.proofs.language.push_text.Goals as goal

pub loop-character-preserved : goal.loop-character-preserved
loop-character-preserved g c =
    let held = c.loop-character.invariant in
    let parts = c.in-Some.ensures.steps.0 in
    let step = written_step g.L.Language.written _ _ c.in-Some.character held.utf8 parts in
    record {
      utf8 = IsUtf8-past_char _ _ c.in-Some.character held.utf8 parts;
      text = rw (c.in_ok-push_character.ensures, append_assoc) (rw step at held.text);
    }

pub returns : goal.returns
returns g c =
    sym (append-nil _) ∙ rw (written_empty g.L.Language.written _ c.in-None.ensures.steps.0.0) at c.loop-character.invariant.text

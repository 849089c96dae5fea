use Rattle.std.proofs.Common.{lit<, sym, ◌∙◌}
use Rattle.std.specs.Str.Iter.{split_ascii_whitespace_text}
use Rattle.fr_list.proofs.WordLaws.{begins_comment-first, told-comment, told-none, told-word, words-none, words-step}
use Rattle.fr_list.proofs.line.told_word.Goals as goal

pub returns-in_err-word : goal.returns-in_err-word
returns-in_err-word c =
    let text = split_ascii_whitespace_text c.args.words.now in
    rw c.from_residual.ensures (told-none text (words-none text c.in_err-word.ensures.steps.0))

pub returns-then-starts_with : goal.returns-then-starts_with
returns-then-starts_with c =
    let text = split_ascii_whitespace_text c.args.words.now in
    let rest = split_ascii_whitespace_text c.next.new.self in
    let cut = c.in_ok-word.ensures.steps in
    told-comment text _ rest (words-step text _ rest cut.0 cut.1 cut.3)
    (begins_comment-first _ cut.0 ∙ sym (c.starts_with.ensures.byte (lit< tt) (lit< tt) (λ w o h. h)) ∙ c.if-starts_with.true)

pub returns : goal.returns
returns c =
    let text = split_ascii_whitespace_text c.args.words.now in
    let rest = split_ascii_whitespace_text c.next.new.self in
    let cut = c.in_ok-word.ensures.steps in
    told-word text _ rest (words-step text _ rest cut.0 cut.1 cut.3)
    (begins_comment-first _ cut.0 ∙ sym (c.starts_with.ensures.byte (lit< tt) (lit< tt) (λ w o h. h)) ∙ c.if-starts_with.false)

use Rattle.std.proofs.Common.{◌∙◌, ap, string_bytes}
use Rattle.fr_page.proofs.whole.page_text.Goals as goal

pub returns : goal.returns
returns c = (
  string_bytes c.put_rest.new.page.out,
  ap string_bytes c.finish.ensures ∙ rw (c.in_ok-put_head.ensures, c.new-page.ensures) at c.in_ok-append.ensures,
)

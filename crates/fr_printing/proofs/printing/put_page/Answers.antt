-- The page is that of the answer.
use Rattle.std.proofs.Common.{inr, refl, subst}
use Rattle.std.specs.Prelude.{string_bytes}
use Rattle.fr_printing.proofs.printing.put_page.Goals as goal

pub returns-in-Ok-clause-paged : goal.returns-in-Ok-clause-paged
returns-in-Ok-clause-paged g c =
    let put = subst (λ bytes. g.F.Files.Puts c.args.files.now c.in-Some.path.now bytes c.replace.new.self) c.as_bytes.ensures.value c.in-Ok.ensures.put in
    rw c.in-Some.is (inr (_, (c.args.answer.now.what, string_bytes c.in_ok-text.text, (λ le. refl), refl, c.in_ok-text.ensures, put)))

pub returns-in-Ok-clause-written : goal.returns-in-Ok-clause-written
returns-in-Ok-clause-written g c =
    let put = subst (λ bytes. g.F.Files.Puts c.args.files.now c.in-Some.path.now bytes c.replace.new.self) c.as_bytes.ensures.value c.in-Ok.ensures.put in
    rw c.in-Some.is (λ le. (c.args.answer.now.what, string_bytes c.in_ok-text.text, (λ low. refl), refl, c.in_ok-text.ensures, put))

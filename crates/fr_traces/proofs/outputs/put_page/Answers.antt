-- fr_traces/proofs/outputs/put_page/Answers.antt
-- The page is that of the answer.
use Rattle.std.proofs.Common.{inr, string_bytes, subst}
use Rattle.fr_traces.proofs.outputs.put_page.Goals as goal

pub returns-in-Ok-clause-put : goal.returns-in-Ok-clause-put
returns-in-Ok-clause-put g c =
    let put = subst (λ bytes. g.F.Files.Puts c.args.files.now c.in-Some.path.now bytes c.replace.new.self) c.as_bytes.ensures.value c.in-Ok.ensures.put in
    rw c.in-Some.is (inr (string_bytes c.in_ok-page.page, c.in_ok-page.ensures, put))

pub returns-in-Ok-clause-done : goal.returns-in-Ok-clause-done
returns-in-Ok-clause-done g c =
    let put = subst (λ bytes. g.F.Files.Puts c.args.files.now c.in-Some.path.now bytes c.replace.new.self) c.as_bytes.ensures.value c.in-Ok.ensures.put in
    rw c.in-Some.is (string_bytes c.in_ok-page.page, c.in_ok-page.ensures, put)

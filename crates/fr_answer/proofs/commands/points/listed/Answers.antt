-- The places are those that were asked for.
use Rattle.std.proofs.Common.{◌≡◌, Bool, Result, Ok, Err, IfOk, String, string_bytes}
use Rattle.fr_answer.proofs.Terms.{Global, Program, AreShown, IsListed}
use Rattle.fr_wording.specs.declared.sources.Sources.{Sources}
use Rattle.fr_wording.specs.Listing.{points_text}
use Rattle.fr_answer.proofs.commands.points.listed.Goals as goal

of-listed : {Y : Type 0} (explains : Bool) (P : Program) (sources : Sources) (lines : Result (String Global) Y) → AreShown explains sources
    → IfOk lines (λ text. string_bytes text ≡ points_text sources P) → IfOk lines (λ text. IsListed explains P (string_bytes text))
of-listed explains P sources (Ok text) shown h = (sources, shown, h)
of-listed explains P sources (Err y) shown h = tt

pub returns : goal.returns
returns c = of-listed c.args.explains c.args.app.now c.in_ok-sources.sources c.points_text.result c.in_ok-sources.ensures c.points_text.ensures
